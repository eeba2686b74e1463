-- What is known of the values of a reading, in the terms of the rules.
use mathlib.Core.Path.{◌≡◌, refl, ap}
use mathlib.Core.Option.{Option, none, some as just, some-injective}
use Prim.Native.Nat.{ℕ, zero, suc}
use native.Mathlib.Omega.{arith}
use lib.Dec.{eqb}
use lib.ListN.{get_or}
use borrow.Author.Tests.{eqb-true}
use Rattle.model.specs.Question.{pick}
use Rattle.model.specs.Types.{name, any, same, type_of, rename}
use Rattle.model.specs.Rules.{Known}
use Rattle.model.specs.Values.{Values, birthplace, typed, constant_held, own_constant}
use Rattle.model.proofs.Logic.{by_test}
use Rattle.model.proofs.Lists.{later, Member, first}

-- a constant c is held as suc c, 0 where there is none
abbrev pub option_of : ℕ → Option ℕ
option_of zero = none
option_of (suc c) = just c

pub option_is : (n c : ℕ) → option_of n ≡ just c → n ≡ suc c
option_is zero c e = absurd (let z : ◌≡◌ {A = ℕ} 0 1 = cc in omega arith)
option_is (suc n) c e = ap suc (some-injective n c e)

pub held-is : (n c : ℕ) → Member c (constant_held n) → n ≡ suc c
held-is zero c m = elim m [ ]
held-is (suc n) c first = refl
held-is (suc n) c (later m) = elim m [ ]

pub is_held : (n c : ℕ) → n ≡ suc c → Member c (constant_held n)
is_held n c e = rw e first

abbrev pub known_of : Values → Known
known_of vs =
    record {
      type = λ v. typed vs v;
      constant = λ v. option_of (own_constant vs v);
      tested = λ v. pick (eqb v vs.tested) (option_of vs.equal) none;
    }

-- a taken opcode 11 tells that v is c
pub record Told (vs : Values) (v c : ℕ) : Type 0 where
  pub value : v ≡ vs.tested
  pub constant : vs.equal ≡ suc c

pub told_is : (vs : Values) (v c : ℕ) → (known_of vs).tested v ≡ just c → Told vs v c
told_is vs v c e =
    by_test (eqb v vs.tested) (λ q. record { value = eqb-true _ _ q; constant = option_is vs.equal c (rw q at e) })
    (λ q. absurd (let h = rw q at e in let z : ◌≡◌ {A = ℕ} 0 1 = cc in omega arith))

-- opcode 1 gave v the constant c, of which its birthplace knows; it has no other type than Any
pub record Own (vs : Values) (v c : ℕ) : Type 0 where
  pub word : get_or vs.words v 0 ≡ 0
  pub constant : get_or vs.constants (birthplace v) 0 ≡ suc c

pub own_is : (vs : Values) (v c : ℕ) → (known_of vs).constant v ≡ just c → Own vs v c
own_is vs v c e =
    let own : own_constant vs v ≡ suc c = option_is (own_constant vs v) c e in
    by_test (eqb (get_or vs.words v 0) 0) (λ q. record { word = eqb-true _ _ q; constant = rw q at own })
    (λ q. let z : 0 ≡ suc c = rw q at own in absurd (omega arith))

-- a type word 0 says Any
pub any-typed : (vs : Values) (v : ℕ) → get_or vs.words v 0 ≡ 0 → typed vs v ≡ any
unfolding typed type_of rename
any-typed vs v e = rw e refl

-- Same leads to a value that was born together with it, as in every reading
abbrev pub Near : Values → Type 0
Near vs = (v w : ℕ) → typed vs v ≡ same (name w) → birthplace w ≡ birthplace v
