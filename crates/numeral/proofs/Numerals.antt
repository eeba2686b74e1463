-- Digits, one law for each way out of the code.
use mathlib.Core.Bool.{true, false, false≢true}
use mathlib.Core.Path.{◌≡◌, refl}
use Rattle.std.specs.Prelude.{Option, None, Some}
use Prim.Native.Nat.{ℕ, ◌+◌, ◌*◌, ◌<◌, ◌≤◌}
use native.Mathlib.Nat.{le-mul_of_pos_right, mul-le-mul}
use native.Mathlib.Omega.{arith}
use lib.Dec.{ltb, eqb}
use borrow.Author.Tests.{ltb-true, ltb-false, ne_eqb}
use Rattle.model.proofs.Logic.{by_test}
use Rattle.grammar.specs.Grammar.{word_end}
use Rattle.grammar.specs.declared.Phase.{Phase}
use Rattle.grammar.specs.declared.Phase.TheVariants.{Empty, Name, Gap, Zero, Digits, Prefix, Hex, Comment, Malformed}
use Rattle.grammar.specs.Phase.{in_number, blank}
use Rattle.numeral.specs.Digit.{ex, numeral, digit, base, digit_to}

-- ---- digits

-- a digit of a radix is below it, and what is none is not
module _ (r b : ℕ) where
  pub digit-some : (d : ℕ) → Some d ≡ digit r b → (d ≡ numeral b) × (d < r)
  unfolding digit
  digit-some d e =
      by_test (ltb (numeral b) r)
      (λ q. let f : Some d ≡ Some (numeral b) = rw q at e in let g : d ≡ numeral b = cc in (g, omega (arith, ltb-true (numeral b) r q)))
      (λ q. let f : ◌≡◌ {A = Option ℕ} (Some d) None = rw q at e in cc)

  pub digit_none : None ≡ digit r b → r ≤ numeral b
  unfolding digit
  digit_none e =
      by_test (ltb (numeral b) r)
      (λ q. let f : ◌≡◌ {A = Option ℕ} None (Some (numeral b)) = rw q at e in cc)
      (λ q. ltb-false (numeral b) r q)

-- a digit is no byte that is none
digit_not : (b x : ℕ) → numeral b < 16 → 16 ≤ numeral x → b ≡ x → ⊥
digit_not b x h k e = let g : numeral x < 16 = rw e at h in omega arith

pub digit-no-blank : (b : ℕ) → numeral b < 16 → blank b ≡ false
unfolding blank numeral
digit-no-blank b h =
    rw (ne_eqb b 32 (digit_not b 32 h (omega arith)), ne_eqb b 9 (digit_not b 9 h (omega arith)), ne_eqb b 13 (digit_not b 13 h (omega arith)))

pub digit-no-ex : (b : ℕ) → numeral b < 16 → eqb b ex ≡ false
unfolding numeral
digit-no-ex b h = ne_eqb b ex (digit_not b ex h (omega arith))

-- ---- by phase

pub base-most : (p : Phase) → base p ≤ 16
unfolding base
base-most Prefix = omega arith
base-most Hex = omega arith
base-most _ = omega arith

pub base-some : (p : Phase) → 0 < base p
unfolding base
base-some Prefix = omega arith
base-some Hex = omega arith
base-some _ = omega arith

-- a number is decimal after its first digit
pub record Decimal (p : Phase) : Type 0 where
  pub inside : in_number p ≡ true
  pub some : p ≡ Prefix → ⊥
  pub ten : base p ≡ 10

pub to-decimal : (d : ℕ) → Decimal (digit_to Gap d)
unfolding digit_to base
to-decimal d =
    by_test (eqb d 0)
    (λ q. rw q record { inside = refl; some = λ z. cc; ten = refl })
    (λ q. rw q record { inside = refl; some = λ z. cc; ten = refl })

-- the phase after a digit of a number, from the phase before it: a number's with the same base, and there is a digit
pub record On (p q : Phase) : Type 0 where
  pub inside : in_number q ≡ true
  pub some : q ≡ Prefix → ⊥
  pub same : base q ≡ base p

pub to-on : (p : Phase) (d : ℕ) → in_number p ≡ true → On p (digit_to p d)
unfolding base digit_to
to-on Prefix d h = record { inside = refl; some = λ z. cc; same = refl }
to-on Hex d h = record { inside = refl; some = λ z. cc; same = refl }
to-on Zero d h = record { inside = refl; some = λ z. cc; same = refl }
to-on Digits d h = record { inside = refl; some = λ z. cc; same = refl }
to-on Empty d h = absurd (false≢true h)
to-on Name d h = absurd (false≢true h)
to-on Gap d h = absurd (false≢true h)
to-on Comment d h = absurd (false≢true h)
to-on Malformed d h = absurd (false≢true h)

-- ---- a value with one more digit

-- it does not get smaller
pub digit-grows : (v b d : ℕ) → 0 < b → v ≤ v * b + d
digit-grows v b d h = let g : v ≤ v * b = le-mul_of_pos_right v h in omega arith

-- a word with one more digit is far below 2^64
pub digit-most : (v b : ℕ) → v < word_end → b ≤ 16 → v * b ≤ 4294967295 * 16
digit-most v b h k = let g : v ≤ 4294967295 = omega arith in mul-le-mul g k
