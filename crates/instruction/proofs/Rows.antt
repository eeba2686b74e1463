-- A row in two words judges as the row itself does, so that `well_formed` by the rows of the code is Q7.
use mathlib.Core.Path.{◌≡◌, refl, sym, ap, ◌∙◌}
use mathlib.Core.Bool.{Bool, true, false}
use mathlib.Core.List.{List, []}
use Prim.Native.Nat.{ℕ, ◌+◌, ◌-◌, ◌*◌, ◌/◌, ◌%◌, ◌^◌, ◌<◌, ◌≤◌}
use native.Mathlib.Nat.{mod-lt, mod-eq_of_lt}
use native.Mathlib.Omega.{arith}
use lib.Bits.{bit_and, and_block, and_mask, and_high, and_zero_r}
use lib.Pow.{pow_pos, pow-add, split}
use lib.Dec.{ltb, leb, eqb}
use lib.ListN.{length, get_or}
use borrow.Author.Tests.{lt-ltb, le-ltb, le-leb, eq-eqb, ne_eqb}
use Rattle.model.specs.Question.{◌and◌}
use Rattle.model.specs.Word.{opcode_of, a_of, b_of, c_of}
use Rattle.model.specs.Machine.{well_formed}
use Rattle.model.specs.Uses.{Use, unused, register, number, divisor, allows, Row, use_rows, formed_by}
use Rattle.model.proofs.Logic.{by_equality, by_less, and_yes, yes_and}
use Rattle.model.proofs.Lists.{get_or-mapped}
use Rattle.model.proofs.Uses.{thirteen}
use Rattle.instruction.specs.Rows.{barred, least, bits, row_words, opcode_rows, formed_by_words}
use Rattle.instruction.proofs.Parts.{opcode-past, row_at, by_row, Small, small-parts}

-- ---- a part of j + 3 bits

module _ (j x : ℕ) (h : x < 2 ^ (j + 3)) where
  -- above the low three bits nothing is set
  low-three : eqb (bit_and x (2 ^ (j + 3) - 8)) 0 ≡ ltb x 8
  low-three =
      let p = pow-add 2 j 3 in
      let l : x / 8 < 2 ^ j = omega arith in
      let e : bit_and x (2 ^ (j + 3) - 8) ≡ x / 8 * 8 = and_high x j 3 ∙ ap (λ (q : ℕ). q * 8) (mod-eq_of_lt l) in
      rw e (by_less x 8 (λ l. eq-eqb (x / 8 * 8) 0 (omega arith) ∙ sym (lt-ltb x 8 l)) (λ g. ne_eqb (x / 8 * 8) 0 (λ z. omega arith) ∙ sym (le-ltb x 8 g)))

  -- a part is allowed where no barred bit is set and it is not below the least
  allowed : (u : Use) → allows u x ≡ eqb (bit_and x (barred (j + 3) u)) 0 and leb (least u) x
  unfolding allows ◌and◌
  allowed unused = rw (and_mask x (j + 3), mod-eq_of_lt h, le-leb 0 x (omega arith)) (sym (yes_and (eqb x 0) true refl))
  allowed register = rw (low-three, le-leb 0 x (omega arith)) (sym (yes_and (ltb x 8) true refl))
  allowed number = rw (and_zero_r x, le-leb 0 x (omega arith))
  allowed divisor = rw (and_zero_r x)

  -- where the least is 0 the bits alone decide
  small-allowed : (u : Use) → Small u → allows u x ≡ eqb (bit_and x (barred (j + 3) u)) 0
  small-allowed u s = allowed u ∙ yes_and _ _ (rw (least_zero u s) (le-leb 0 x (omega arith)))
    where
      least_zero : (u : Use) → Small u → least u ≡ 0
      least_zero unused s = refl
      least_zero register s = refl
      least_zero number s = absurd s
      least_zero divisor s = absurd s

barred-4 : (u : Use) → barred 4 u < 16
barred-4 unused = omega arith
barred-4 register = omega arith
barred-4 number = omega arith
barred-4 divisor = omega arith

barred-16 : (u : Use) → barred 16 u < 65536
barred-16 unused = omega arith
barred-16 register = omega arith
barred-16 number = omega arith
barred-16 divisor = omega arith

-- ---- a word

-- the k low bits, and the others
cut : (n m k r : ℕ) → r < 2 ^ k → bit_and n (m * 2 ^ k + r) ≡ bit_and (n / 2 ^ k) m * 2 ^ k + bit_and (n % 2 ^ k) r
cut n m k r h = ap (λ (u : ℕ). bit_and u (m * 2 ^ k + r)) (sym (split n k)) ∙ and_block k (n / 2 ^ k) m (n % 2 ^ k) r (mod-lt n (pow_pos k)) h

low : (n r : ℕ) → r < 16 → bit_and n r ≡ bit_and (n % 16) r
low n r h =
    let z = and_zero_r (n / 16) in
    ap (bit_and n) (omega arith) ∙ cut n 0 4 r h ∙ omega arith

parts : (w x y z : ℕ) → x < 16 → y < 16 → z < 65536 → bit_and w (bits x y z) ≡ bits (bit_and (a_of w) x) (bit_and (b_of w) y) (bit_and (c_of w) z)
parts w x y z hx hy hz =
    let e : w / 65536 / 16 ≡ w / 1048576 = omega arith in
    cut w (x * 16 + y) 16 z hz ∙ rw (cut (w / 65536) x 4 y hy, e, low (w / 1048576) x hx)

bits-zero : (x y z : ℕ) → eqb (bits x y z) 0 ≡ eqb x 0 and eqb y 0 and eqb z 0
unfolding ◌and◌
bits-zero x y z =
    by_equality x 0
    (λ p. by_equality y 0
    (λ q. rw (p, q) (by_equality z 0 (λ e. rw e) (λ n. ne_eqb (bits 0 0 z) 0 (λ e. n (omega arith)) ∙ sym (ne_eqb z 0 n))))
    (λ n. rw (p, ne_eqb y 0 n) (ne_eqb (bits 0 y z) 0 (λ e. n (omega arith)))))
    (λ n. rw (ne_eqb x 0 n) (ne_eqb (bits x y z) 0 (λ e. n (omega arith))))

and_last : (p q s t : Bool) → p and q and s and t ≡ (p and q and s) and t
unfolding ◌and◌
and_last true true s t = refl
and_last true false s t = refl
and_last false q s t = refl

-- ---- a row

module _ (w : ℕ) (r : Row) (s : Small r.a × Small r.b) where
  abbrev x : ℕ
  x = barred 4 r.a

  abbrev y : ℕ
  y = barred 4 r.b

  abbrev z : ℕ
  z = barred 16 r.c

  judged : formed_by w r ≡ eqb (bit_and w (bits x y z)) 0 and leb (least r.c) (c_of w)
  unfolding formed_by
  judged =
      rw (
        small-allowed 1 (a_of w) (mod-lt (w / 1048576) (pow_pos 4)) r.a s.0,
        small-allowed 1 (b_of w) (mod-lt (w / 65536) (pow_pos 4)) r.b s.1,
        allowed 13 (c_of w) (mod-lt w (pow_pos 16)) r.c,
        parts w x y z (barred-4 r.a) (barred-4 r.b) (barred-16 r.c),
        bits-zero (bit_and (a_of w) x) (bit_and (b_of w) y) (bit_and (c_of w) z),
      )
      (and_last _ _ _ _)

-- ---- Q7

-- by any rows
module _ (w : ℕ) (rows : List (List ℕ)) where
  abbrev found : List ℕ
  found = get_or rows (opcode_of w) []

  pub no_row : 13 ≤ opcode_of w → false ≡ formed_by_words rows w
  unfolding formed_by_words ◌and◌
  no_row h = sym (rw (le-ltb (opcode_of w) (length use_rows) (omega (arith, thirteen))))

  module _ (h : opcode_of w < 13) where
    has-row : formed_by_words rows w ≡ eqb (bit_and w (get_or found 0 0)) 0 and leb (get_or found 1 0) (c_of w)
    unfolding formed_by_words
    has-row = and_yes _ _ (lt-ltb (opcode_of w) (length use_rows) (omega (arith, thirteen)))

    pub set-bit : (bit_and w (get_or found 0 0) ≡ 0 → ⊥) → false ≡ formed_by_words rows w
    unfolding ◌and◌
    set-bit n = sym (has-row ∙ rw (ne_eqb (bit_and w (get_or found 0 0)) 0 n))

    pub no-bit : bit_and w (get_or found 0 0) ≡ 0 → leb (get_or found 1 0) (c_of w) ≡ formed_by_words rows w
    no-bit e = sym (has-row ∙ and_yes _ _ (eq-eqb (bit_and w (get_or found 0 0)) 0 e))

-- by those of the code it is document 01's
pub formed-by-words : (w : ℕ) (rows : List (List ℕ)) → rows ≡ opcode_rows → formed_by_words rows w ≡ well_formed w
formed-by-words w rows t =
    by_less (opcode_of w) 13
    (λ h. let e : get_or rows (opcode_of w) [] ≡ row_words (row_at w) =
    ap (λ (l : List (List ℕ)). get_or l (opcode_of w) []) t ∙ get_or-mapped row_words use_rows (opcode_of w) [] _ (omega (arith, thirteen)) in
    has-row w rows h ∙ rw e (sym (judged w (row_at w) (small-parts w)) ∙ sym (by_row w h)))
    (λ h. sym (no_row w rows h) ∙ opcode-past w h)
