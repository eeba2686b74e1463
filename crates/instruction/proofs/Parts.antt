-- What the row of its opcode says of a word's parts.
use mathlib.Core.Path.{◌≡◌, sym, ◌∙◌}
use mathlib.Core.Bool.{true, false, false≢true}
use Prim.Native.Nat.{ℕ, ◌<◌, ◌≤◌}
use native.Mathlib.Omega.{arith}
use lib.ListN.{get_or}
use borrow.Author.Tests.{eqb-true, ltb-true, leb-true}
use Rattle.model.specs.Word.{opcode_of, a_of, b_of, c_of}
use Rattle.model.specs.Machine.{well_formed}
use Rattle.model.specs.Uses.{Use, unused, register, number, divisor, allows, Row, use_rows, formed_by}
use Rattle.model.proofs.Logic.{by_equality, by_less, and-true}
use Rattle.model.proofs.Lists.{Each, none, more, each_at}
use Rattle.model.proofs.Uses.{same, past, thirteen, empty_row, rows_at}

-- ---- the row of an opcode

pub opcode-past : (w : ℕ) → 13 ≤ opcode_of w → false ≡ well_formed w
opcode-past w h = sym (past w (omega (arith, thirteen))) ∙ same w

-- a well-formed word has one of the thirteen opcodes
pub known : (w : ℕ) → well_formed w ≡ true → opcode_of w ≤ 12
known w q = by_less (opcode_of w) 13 (λ h. omega arith) (λ h. absurd (false≢true (opcode-past w h ∙ q)))

abbrev pub row_at : ℕ → Row
row_at w = get_or use_rows (opcode_of w) empty_row

pub by_row : (w : ℕ) → opcode_of w < 13 → well_formed w ≡ formed_by w (row_at w)
by_row w h = sym (same w) ∙ rows_at use_rows w (omega (arith, thirteen))

-- a use that allows nothing from 8 on
abbrev pub Small : Use → Type 0
Small unused = Unit {0}
Small register = Unit {0}
Small number = ⊥
Small divisor = ⊥

below-eight : (u : Use) (x : ℕ) → Small u → allows u x ≡ true → x < 8
unfolding allows
below-eight unused x s q = let z : x ≡ 0 = eqb-true x 0 q in omega arith
below-eight register x s q = ltb-true x 8 q
below-eight number x s q = absurd s
below-eight divisor x s q = absurd s

-- every row uses a and b so
abbrev SmallParts : Row → Type 0
SmallParts r = Small r.a × Small r.b

all_small : Each SmallParts use_rows
unfolding use_rows
all_small =
    more (tt, tt) (more (tt, tt) (more (tt, tt) (more (tt, tt) (more (tt, tt) (more (tt, tt) (more (tt, tt) (more (tt, tt) (more (tt, tt)
    (more (tt, tt) (more (tt, tt) (more (tt, tt) (more (tt, tt) none))))))))))))

pub small-parts : (w : ℕ) → SmallParts (row_at w)
small-parts w = each_at empty_row (tt, tt) use_rows (opcode_of w) all_small

-- ---- the parts of a well-formed word

module _ (w : ℕ) (q : well_formed w ≡ true) where
  abbrev r : Row
  r = row_at w

  are-allowed : (allows r.a (a_of w) ≡ true) × (allows r.b (b_of w) ≡ true) × (allows r.c (c_of w) ≡ true)
  unfolding formed_by
  are-allowed = let (x, p) = and-true _ _ (sym (by_row w (omega (arith, known w q))) ∙ q) in let (y, z) = and-true _ _ p in (x, y, z)

  -- a and b are numbers of registers, or 0
  pub registers : (a_of w < 8) × (b_of w < 8)
  registers =
      let (x, y, z) = are-allowed in
      let (s, t) = small-parts w in
      (below-eight r.a (a_of w) s x, below-eight r.b (b_of w) t y)

  -- c by its opcode
  pub halt-c : opcode_of w ≡ 0 → c_of w ≡ 0
  unfolding use_rows allows
  halt-c e = eqb-true (c_of w) 0 (rw e at are-allowed.2)

  pub arithmetic-c : 2 < opcode_of w → opcode_of w < 6 → c_of w < 8
  unfolding use_rows allows
  arithmetic-c l h =
      ltb-true (c_of w) 8
      (by_equality (opcode_of w) 3 (λ e. rw e at are-allowed.2)
      (λ n. by_equality (opcode_of w) 4 (λ e. rw e at are-allowed.2)
      (λ m. let e : opcode_of w ≡ 5 = omega arith in rw e at are-allowed.2)))

  pub divide-c : opcode_of w ≡ 6 → 0 < c_of w
  unfolding use_rows allows
  divide-c e = leb-true 1 (c_of w) (rw e at are-allowed.2)
