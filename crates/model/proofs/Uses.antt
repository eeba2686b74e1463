-- The rows of operand uses ask Q7 as document 01 has it, and no other rows do.
use mathlib.Core.Path.{◌≡◌, refl, sym, ap, ◌∙◌}
use mathlib.Core.Bool.{Bool, true, false, false≢true}
use mathlib.Core.List.{List, ◌∷◌, map}
use Prim.Native.Nat.{ℕ, ◌+◌, ◌*◌, ◌^◌, ◌≤◌, ◌<◌}
use native.Mathlib.Omega.{arith}
use lib.ListN
use lib.ListN.{length, get_or, length-map}
use lib.Seq.{ext_get_or}
use Rattle.model.specs.Question.{◌and◌}
use Rattle.model.specs.Word.{opcode_of, a_of, b_of, c_of}
use Rattle.model.specs.Machine.{Instruction, malformed, formed, by_opcode, decode, has_form, well_formed}
use Rattle.model.specs.Uses.{Use, unused, register, number, divisor, allows, Row, use_rows, agrees, formed_by, by_rows, RowsAre01}
use Rattle.model.proofs.Logic.{by_less, and-true, true-and, and_yes, yes_and}
use Rattle.model.proofs.Lists.{get_or-mapped, get_or-past}

-- ---- the rows are document 01's

pub has-form : (t : Bool) (x : Instruction) → has_form x ≡ true → has_form (formed t x) ≡ t
unfolding formed
has-form true x e = e
has-form false x e = refl

-- the answer of a row is the test of document 01
is : (x : Instruction) → has_form x ≡ true → {s t : Bool} → s ≡ t → s ≡ has_form (formed t x)
is x h {t = t} e = e ∙ sym (has-form t x h)

-- where c is a number, a and b alone are tested
two : (s t : Bool) → s and t and true ≡ s and t
two s t = ap (λ (x : Bool). s and x) (yes_and t true refl)

cons : {x y : Bool} {xs ys : List Bool} → x ≡ y → xs ≡ ys → x ∷ xs ≡ y ∷ ys
cons p q = λ i. p i ∷ q i

rows_same : (w : ℕ) → map (formed_by w) use_rows ≡ map has_form (by_opcode (a_of w) (b_of w) (c_of w))
unfolding use_rows by_opcode formed_by allows
rows_same w =
    cons (is _ refl refl) (cons (is _ refl (two _ _)) (cons (is _ refl refl) (cons (is _ refl refl) (cons (is _ refl refl) (cons (is _ refl refl)
    (cons (is _ refl refl) (cons (is _ refl (two _ _)) (cons (is _ refl (two _ _)) (cons (is _ refl (two _ _)) (cons (is _ refl (two _ _))
    (cons (is _ refl (two _ _)) (cons (is _ refl (two _ _)) refl))))))))))))

pub same : (w : ℕ) → by_rows use_rows w ≡ well_formed w
unfolding by_rows well_formed decode
same w =
    ap (λ (l : List Bool). get_or l (opcode_of w) false) (rows_same w)
    ∙ ListN.get_or-map has_form (by_opcode (a_of w) (b_of w) (c_of w)) (opcode_of w) malformed

pub thirteen : length use_rows ≡ 13
unfolding use_rows
thirteen = refl

-- ---- an opcode past some rows, and one that has a row

rows-past : (rows : List Row) (w : ℕ) → length rows ≤ opcode_of w → by_rows rows w ≡ false
unfolding by_rows
rows-past rows w h = get_or-past (map (formed_by w) rows) (opcode_of w) false (omega (arith, length-map rows (formed_by w)))

pub past : (w : ℕ) → length use_rows ≤ opcode_of w → by_rows use_rows w ≡ false
past w h = rows-past use_rows w h

-- what stands for a row where there is none
abbrev pub empty_row : Row
empty_row = record { a = unused; b = unused; c = unused }

pub rows_at : (rows : List Row) (w : ℕ) → opcode_of w < length rows → by_rows rows w ≡ formed_by w (get_or rows (opcode_of w) empty_row)
unfolding by_rows
rows_at rows w h = get_or-mapped (formed_by w) rows (opcode_of w) false empty_row h

-- ---- rows that judge alike

-- two uses that allow the same of 0, 1 and 8 are one
use-told : (u v : Use) → ((x : ℕ) → x < 16 → allows u x ≡ allows v x) → u ≡ v
unfolding allows
use-told unused unused h = refl
use-told unused register h = absurd (false≢true (h 1 (omega arith)))
use-told unused number h = absurd (false≢true (h 1 (omega arith)))
use-told unused divisor h = absurd (false≢true (h 1 (omega arith)))
use-told register unused h = absurd (false≢true (sym (h 1 (omega arith))))
use-told register register h = refl
use-told register number h = absurd (false≢true (h 8 (omega arith)))
use-told register divisor h = absurd (false≢true (h 8 (omega arith)))
use-told number unused h = absurd (false≢true (sym (h 1 (omega arith))))
use-told number register h = absurd (false≢true (sym (h 8 (omega arith))))
use-told number number h = refl
use-told number divisor h = absurd (false≢true (sym (h 0 (omega arith))))
use-told divisor unused h = absurd (false≢true (h 0 (omega arith)))
use-told divisor register h = absurd (false≢true (h 0 (omega arith)))
use-told divisor number h = absurd (false≢true (h 0 (omega arith)))
use-told divisor divisor h = refl

-- every use allows some part of four bits
some-part : (u : Use) → (x : ℕ) × (x < 16) × (allows u x ≡ true)
unfolding allows
some-part unused = (0, omega arith, refl)
some-part register = (0, omega arith, refl)
some-part number = (0, omega arith, refl)
some-part divisor = (1, omega arith, refl)

agree : (r : Row) (a b c : ℕ) → allows r.a a ≡ true → allows r.b b ≡ true → allows r.c c ≡ true → agrees r a b c ≡ true
agree r a b c p q s = true-and _ _ p (true-and _ _ q s)

-- where two parts are allowed the third decides
first_alone : (x y z : Bool) → y ≡ true → z ≡ true → x and y and z ≡ x
first_alone x y z p q = yes_and x (y and z) (true-and y z p q)

second-alone : (x y z : Bool) → x ≡ true → z ≡ true → x and y and z ≡ y
second-alone x y z p q = and_yes x (y and z) p ∙ yes_and y z q

third-alone : (x y z : Bool) → x ≡ true → y ≡ true → x and y and z ≡ z
third-alone x y z p q = and_yes x (y and z) p ∙ and_yes y z q

module _ (r s : Row) (h : (a b c : ℕ) → a < 16 → b < 16 → c < 16 → agrees r a b c ≡ agrees s a b c) where
  rows_told : r ≡ s
  rows_told =
      let (a, la, pa) = some-part r.a in
      let (b, lb, pb) = some-part r.b in
      let (c, lc, pc) = some-part r.c in
      let (qa, more) = and-true (allows s.a a) _ (sym (h a b c la lb lc) ∙ agree r a b c pa pb pc) in
      let (qb, qc) = and-true (allows s.b b) _ more in
      let a-same : r.a ≡ s.a =
      use-told r.a s.a (λ x l. sym (first_alone _ _ _ pb pc) ∙ h x b c l lb lc ∙ first_alone _ _ _ qb qc) in
      let b-same : r.b ≡ s.b =
      use-told r.b s.b (λ x l. sym (second-alone _ _ _ pa pc) ∙ h a x c la l lc ∙ second-alone _ _ _ qa qc) in
      let c-same : r.c ≡ s.c =
      use-told r.c s.c (λ x l. sym (third-alone _ _ _ pa pb) ∙ h a b x la lb l ∙ third-alone _ _ _ qa qb) in
      λ i. record { a = a-same i; b = b-same i; c = c-same i }

-- ---- no other rows

-- a word of given parts
abbrev word : ℕ → ℕ → ℕ → ℕ → ℕ
word k a b c = ((k * 16 + a) * 16 + b) * 2 ^ 16 + c

module _ (k a b c : ℕ) (ha : a < 16) (hb : b < 16) (hc : c < 16) where
  opcode-is : opcode_of (word k a b c) ≡ k
  opcode-is = omega arith

  a-is : a_of (word k a b c) ≡ a
  a-is = omega arith

  b-is : b_of (word k a b c) ≡ b
  b-is = omega arith

  c-is : c_of (word k a b c) ≡ c
  c-is = omega arith

  -- what rows say of it
  judged : (rows : List Row) → k < length rows → by_rows rows (word k a b c) ≡ agrees (get_or rows k empty_row) a b c
  unfolding formed_by
  judged rows h = rows_at rows (word k a b c) (rw opcode-is h) ∙ rw (opcode-is, a-is, b-is, c-is)

-- rows that have a row for an opcode pass some word of it
passes-some : (rows : List Row) (k : ℕ) → k < length rows → (a : ℕ) × (b : ℕ) × (c : ℕ) × (a < 16) × (b < 16) × (c < 16) × (by_rows rows (word k a b c) ≡ true)
passes-some rows k h =
    let r = get_or rows k empty_row in
    let (a, la, pa) = some-part r.a in
    let (b, lb, pb) = some-part r.b in
    let (c, lc, pc) = some-part r.c in
    (a, b, c, la, lb, lc, judged k a b c la lb lc rows h ∙ agree r a b c pa pb pc)

-- so rows that judge alike have a row for the same opcodes
no_longer : (xs ys : List Row) → length xs ≤ 256 → ((w : ℕ) → w < 2 ^ 32 → by_rows xs w ≡ by_rows ys w) → length xs ≤ length ys
no_longer xs ys n h =
    by_less (length ys) (length xs)
    (λ l. let k : ℕ = length ys in
    let (a, b, c, la, lb, lc, p) = passes-some xs k l in
    let w : ℕ = word k a b c in
    let o : opcode_of w ≡ k = opcode-is k a b c la lb lc in
    absurd (false≢true (sym (rows-past ys w (omega arith)) ∙ sym (h w (omega arith)) ∙ p)))
    (λ g. g)

only : (rows : List Row) → length rows ≤ 256 → ((w : ℕ) → w < 2 ^ 32 → by_rows rows w ≡ well_formed w) → rows ≡ use_rows
only rows n h =
    let alike : (w : ℕ) → w < 2 ^ 32 → by_rows rows w ≡ by_rows use_rows w = λ w l. h w l ∙ sym (same w) in
    let e : length rows ≡ length use_rows =
    omega (arith, no_longer rows use_rows n alike, no_longer use_rows rows (omega (arith, thirteen)) (λ w l. sym (alike w l))) in
    ext_get_or empty_row rows use_rows e
    (λ k l. rows_told (get_or rows k empty_row) (get_or use_rows k empty_row)
    (λ a b c ha hb hc. sym (judged k a b c ha hb hc rows l) ∙ alike (word k a b c) (omega (arith, thirteen))
    ∙ judged k a b c ha hb hc use_rows (omega arith)))

-- what `past` and `only` assume is met
pub past-met : length use_rows ≤ opcode_of (13 * 2 ^ 24)
past-met = omega (arith, thirteen)

pub only-met : (length use_rows ≤ 256) × ((w : ℕ) → w < 2 ^ 32 → by_rows use_rows w ≡ well_formed w)
only-met = (omega (arith, thirteen), λ w l. same w)

pub rows-are-01 : RowsAre01
rows-are-01 = record { same = same; past = past; only = only }
