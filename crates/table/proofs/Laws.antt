-- Laws of the tables for the crates above: rows, what each passed question gives, and the answers to Q16.
use mathlib.Core.Path.{◌≡◌, refl, ap, sym, ◌∙◌}
use mathlib.Core.Bool.{Bool, true}
use mathlib.Core.List.{List}
use Prim.Native.Nat.{ℕ, zero, suc, ◌+◌, ◌-◌, ◌*◌, ◌/◌, ◌%◌, ◌<◌, ◌≤◌}
use native.Mathlib.Numerals.{add-one}
use native.Mathlib.Omega.{arith}
use lib.ListN.{length, take, drop, get_or, length-drop}
use lib.Seq.{take_all}
use lib.Dec.{ltb, leb, eqb}
use borrow.Author.Tests.{lt-ltb, le-ltb, le-leb, ne_eqb, leb-true, ltb-true, eqb-true}
use Rattle.model.specs.declared.Verdict.{Verdict}
use Rattle.model.specs.Question.{◌and◌, ◌or◌, pick, ok, refusal, passed, refusing, verdict_of, provided, AllPassed}
use Rattle.model.specs.declared.questions.Question.TheVariants.{StartBlock as q16}
use Rattle.model.specs.Word.{kind_of, record_of, first_of, second_of}
use Rattle.model.specs.Table.{row_of, rows, head_of, words_of, start_of, tables_of, routine_of, whole_rows, type_lengths_ask, code_lengths_ask, count_ask}
use Rattle.model.specs.Table.{field_well, fields_ask, tag_ask, types_ask, uses_record, uses_first, uses_second, dependency, well_made, blocks_ask, lengths_ask}
use Rattle.model.specs.Table.{annotation_well, annotation_ask, annotations_ask, start_ask, types_questions, Code}
pub use Rattle.model.proofs.Rows.{row-length, row_at, head_at, word-in-row, word_at, words-length}
use Rattle.model.proofs.Logic.{either, by_equality, and-true, or-true, ask-ok, every_true, first_no-ok, all-passed}
use Rattle.table.proofs.Questions.{no-refusal}

-- ---- rows

-- what is taken of a table as its row, and the type words as a part of it
module _ (table own : List ℕ) (k : ℕ) where
  pub part-is : own ≡ row_of table k → take (length own - 1) (drop 1 own) ≡ words_of table k
  part-is e = rw e (take_all (length (row_of table k) - 1) (drop 1 (row_of table k)) (omega (arith, length-drop 1 (row_of table k))))

  module _ (h : k * 9 + 9 ≤ length table) where
    pub part_length : own ≡ row_of table k → length (take (length own - 1) (drop 1 own)) ≡ 8
    part_length e = ap length (part-is e) ∙ words-length table k h

    pub row_words : own ≡ row_of table k → length own ≡ 9
    row_words e = ap length e ∙ row-length table k h

    -- the words alone
    pub own-eight : own ≡ words_of table k → length own ≡ 8
    own-eight e = ap length e ∙ words-length table k h

-- a row below the count lies in the table
pub row_inside : (n k : ℕ) → k < n / 9 → k * 9 + 9 ≤ n
row_inside n k h = omega arith

-- ---- where a block starts

module _ (blocks : List ℕ) where
  pub start_none : start_of blocks 0 ≡ 0
  unfolding start_of
  start_none = refl

  pub start-more : (b : ℕ) → start_of blocks (b + 1) ≡ start_of blocks b + head_of blocks b
  unfolding start_of
  start-more b = rw add-one

-- ---- what is read of the tables

module _ (types tags : List ℕ) where
  pub tables-count : (tables_of types tags).count ≡ rows types
  unfolding tables_of
  tables-count = refl

  pub tables-size : (t : ℕ) → (tables_of types tags).size t ≡ head_of types t
  unfolding tables_of
  tables-size t = refl

  pub tables-words : (t : ℕ) → (tables_of types tags).words t ≡ words_of types t
  unfolding tables_of
  tables-words t = refl

  pub tables-tags : (tables_of types tags).tags ≡ tags
  unfolding tables_of
  tables-tags = refl

module _ (C : Code) where
  pub routine-count : (routine_of C).count ≡ rows C.blocks
  unfolding routine_of
  routine-count = refl

  pub routine-long : (b : ℕ) → (routine_of C).long b ≡ head_of C.blocks b
  unfolding routine_of
  routine-long b = refl

  pub routine-start : (b : ℕ) → (routine_of C).start b ≡ start_of C.blocks b
  unfolding routine_of
  routine-start b = refl

  pub routine-annotation : (b : ℕ) → (routine_of C).annotation b ≡ words_of C.blocks b
  unfolding routine_of
  routine-annotation b = refl

  pub routine-part : (b : ℕ) → (routine_of C).part b ≡ take (head_of C.blocks b) (drop (start_of C.blocks b) C.code)
  unfolding routine_of
  routine-part b = refl

  pub routine-total : (routine_of C).total ≡ length C.code
  unfolding routine_of
  routine-total = refl

-- ---- a well-made type word

-- a record type, or a dependency byte, where a kind uses it and where not
abbrev pub record_part : ℕ → ℕ → ℕ → Bool
record_part count kind t = pick (uses_record kind) (ltb t count) (eqb t 0)

abbrev pub dependency_part : Bool → ℕ → ℕ → Bool
dependency_part used n x = pick used (dependency n x) (eqb x 0)

pub uses-ref : (kind : ℕ) → kind ≡ 1 → true ≡ uses_record kind
unfolding ◌or◌
uses-ref kind e = rw e

pub uses-maybe : (kind : ℕ) → kind ≡ 2 → true ≡ uses_record kind
unfolding ◌or◌
uses-maybe kind e = rw e

pub uses-otherwise : (kind : ℕ) → (kind ≡ 1 → ⊥) → (kind ≡ 2 → ⊥) → leb 6 kind ≡ uses_record kind
unfolding ◌or◌
uses-otherwise kind h l = rw (ne_eqb kind 1 h, ne_eqb kind 2 l)

pub uses-span : (kind : ℕ) → 6 ≤ kind → true ≡ uses_record kind
uses-span kind h = sym (le-leb 6 kind h) ∙ uses-otherwise kind (λ e. omega arith) (λ e. omega arith)

-- a record type in use exists, and a name in use is below n
record-below : (count kind t : ℕ) → uses_record kind ≡ true → record_part count kind t ≡ true → t < count
record-below count kind t e h = ltb-true t count (rw e at h)

name_below : (used : Bool) (n x : ℕ) → used ≡ true → dependency_part used n x ≡ true → x < 8 → x < n
name_below used n x e h l =
    either (or-true (ltb x n) (leb 8 x) (rw e at h)) (λ a. ltb-true x n a) (λ a. absurd (omega (arith, leb-true 8 x a)))

module _ (count n w : ℕ) (h : well_made count n w ≡ true) where
  parts : (leb (kind_of w) 8 ≡ true)
      × (record_part count (kind_of w) (record_of w) ≡ true)
      × (dependency_part (uses_first (kind_of w)) n (first_of w) ≡ true)
      × (dependency_part (uses_second (kind_of w)) n (second_of w) ≡ true)
  unfolding well_made
  parts =
      let (k, q) = and-true (leb (kind_of w) 8) _ h in
      let (r, q₁) = and-true (record_part count (kind_of w) (record_of w)) _ q in
      let (d, e) = and-true (dependency_part (uses_first (kind_of w)) n (first_of w)) _ q₁ in
      (k, r, d, e)

  pub kind-bound : kind_of w ≤ 8
  kind-bound = leb-true (kind_of w) 8 parts.0

  pub record-part : record_part count (kind_of w) (record_of w) ≡ true
  record-part = parts.1

  pub first_part : dependency_part (uses_first (kind_of w)) n (first_of w) ≡ true
  first_part = parts.2

  pub second-part : dependency_part (uses_second (kind_of w)) n (second_of w) ≡ true
  second-part = parts.3

  -- Ref, Maybe, and Run, From and In have a record type that exists
  pub record-of-ref : kind_of w ≡ 1 → record_of w < count
  record-of-ref e = record-below count (kind_of w) (record_of w) (sym (uses-ref (kind_of w) e)) record-part

  pub record-of-maybe : kind_of w ≡ 2 → record_of w < count
  record-of-maybe e = record-below count (kind_of w) (record_of w) (sym (uses-maybe (kind_of w) e)) record-part

  pub record-of-span : 6 ≤ kind_of w → record_of w < count
  record-of-span l = record-below count (kind_of w) (record_of w) (sym (uses-span (kind_of w) l)) record-part

  -- a dependency that is a name is one of the n names
  pub first-name : 3 ≤ kind_of w → first_of w < 8 → first_of w < n
  first-name l = name_below (uses_first (kind_of w)) n (first_of w) (le-leb 3 (kind_of w) l) first_part

  pub second-name : 6 ≤ kind_of w → second_of w < 8 → second_of w < n
  second-name l = name_below (uses_second (kind_of w)) n (second_of w) (le-leb 6 (kind_of w) l) second-part

-- ---- Q1 passed

whole-rows-facts : (most n : ℕ) → whole_rows most n ≡ true → (n % 9 ≡ 0) × (9 ≤ n) × (n ≤ 9 * most)
whole-rows-facts most n h =
    let (a, q) = and-true (eqb (n % 9) 0) _ h in
    let (b, c) = and-true (leb 9 n) _ q in
    (eqb-true (n % 9) 0 a, leb-true 9 n b, leb-true n (9 * most) c)

pub record TypeLengths (types tags : ℕ) : Type 0 where
  pub whole : types % 9 ≡ 0
  pub least : 9 ≤ types
  pub most : types ≤ 576
  pub tagged : tags ≤ 64

pub type-lengths-passed : (types tags : ℕ) → type_lengths_ask types tags ≡ ok tt → TypeLengths types tags
unfolding type_lengths_ask
type-lengths-passed types tags e =
    let (a, q) = ask-ok (whole_rows 64 types) _ _ e in
    let (whole, least, most) = whole-rows-facts 64 types a in
    record { whole = whole; least = least; most = most; tagged = leb-true tags 64 (ask-ok (leb tags 64) _ _ q).0 }

pub record CodeLengths (blocks code : ℕ) : Type 0 where
  pub whole : blocks % 9 ≡ 0
  pub least : 9 ≤ blocks
  pub most : blocks ≤ 2304
  pub some : 1 ≤ code
  pub long : code ≤ 8192

pub code-lengths-passed : (blocks code : ℕ) → code_lengths_ask blocks code ≡ ok tt → CodeLengths blocks code
unfolding code_lengths_ask
code-lengths-passed blocks code e =
    let (a, q) = ask-ok (whole_rows 256 blocks) _ _ e in
    let (b, c) = and-true (leb 1 code) _ (ask-ok (leb 1 code and leb code 8192) _ _ q).0 in
    let (whole, least, most) = whole-rows-facts 256 blocks a in
    record { whole = whole; least = least; most = most; some = leb-true 1 code b; long = leb-true code 8192 c }

-- ---- Q2 to Q4 passed

module _ (types tags : List ℕ) (e : types_ask types tags ≡ ok tt) where
  each-ok : AllPassed (types_questions types tags)
  unfolding types_ask
  each-ok = all-passed (types_questions types tags) e

  -- each size is 1 to 8
  pub size-bounds : (t : ℕ) → t < rows types → (1 ≤ head_of types t) × (head_of types t ≤ 8)
  unfolding count_ask tables_of
  size-bounds t h =
      let (a, b) = and-true (leb 1 (head_of types t)) _ (ask-ok _ _ _ (first_no-ok _ 0 _ each-ok.0 t (omega arith) (omega arith))).0 in
      (leb-true 1 (head_of types t) a, leb-true (head_of types t) 8 b)

  field-answer : (t f : ℕ) → t < rows types → f < 8 → field_well (tables_of types tags) t f ≡ true
  unfolding fields_ask
  field-answer t f h l =
      every_true 8 0 _ (ask-ok _ _ _ (first_no-ok _ 0 _ each-ok.1.0 t (omega arith) (omega arith))).0 f (omega arith) (omega arith)

  -- a field's word is well made, and a word past the fields zero
  pub field-well-made : (t f : ℕ) → t < rows types → f < 8 → f < head_of types t
      → well_made (rows types) (head_of types t) (get_or (words_of types t) f 0) ≡ true
  unfolding field_well tables_of
  field-well-made t f h l m = rw (lt-ltb f (head_of types t) m) at (field-answer t f h l)

  pub past-fields-zero : (t f : ℕ) → t < rows types → f < 8 → head_of types t ≤ f → get_or (words_of types t) f 0 ≡ 0
  unfolding field_well tables_of
  past-fields-zero t f h l m = eqb-true (get_or (words_of types t) f 0) 0 (rw (le-ltb f (head_of types t) m) at (field-answer t f h l))

  -- each tag names a type
  pub tag-bound : (k : ℕ) → k < length tags → get_or tags k 0 < rows types
  unfolding tag_ask tables_of
  tag-bound k h =
      ltb-true (get_or tags k 0) (rows types) (ask-ok _ _ _ (first_no-ok _ 0 _ each-ok.1.1.0 k (omega arith) (omega arith))).0

-- ---- Q5 passed

-- a length is 1 to 32, and the block ends inside the code
abbrev pub length_well : ℕ → ℕ → ℕ → Bool
length_well n i total = leb 1 n and leb n 32 and leb (i + n) total

pub length-facts : (n i total : ℕ) → length_well n i total ≡ true → (1 ≤ n) × (n ≤ 32) × (i + n ≤ total)
length-facts n i total h =
    let (a, q) = and-true (leb 1 n) _ h in
    let (b, c) = and-true (leb n 32) _ q in
    (leb-true 1 n a, leb-true n 32 b, leb-true (i + n) total c)

module _ (blocks : List ℕ) (total : ℕ) where
  first_block : (n b i : ℕ) → blocks_ask blocks total (suc n) b i ≡ ok tt
      → (length_well (head_of blocks b) i total ≡ true) × (blocks_ask blocks total n (suc b) (i + head_of blocks b) ≡ ok tt)
  unfolding blocks_ask
  first_block n b i o = ask-ok (length_well (head_of blocks b) i total) _ _ o

  next_start : (b : ℕ) → start_of blocks b + head_of blocks b ≡ start_of blocks (suc b)
  unfolding start_of
  next_start b = refl

  -- of the n blocks from b on
  each-block : (n b : ℕ) → blocks_ask blocks total n b (start_of blocks b) ≡ ok tt
      → (j : ℕ) → b ≤ j → j < b + n → length_well (head_of blocks j) (start_of blocks j) total ≡ true
  each-block zero b o j lo hi = absurd (omega arith)
  each-block (suc n) b o j lo hi =
      let (a, q) = first_block n b (start_of blocks b) o in
      by_equality j b (λ s. rw s a) (λ d. each-block n (suc b) (rw (next_start b) at q) j (omega arith) (omega arith))

  covered : (n b : ℕ) → blocks_ask blocks total n b (start_of blocks b) ≡ ok tt → (j : ℕ) → j ≡ b + n → start_of blocks j ≡ total
  unfolding blocks_ask
  covered zero b o j e =
      let s : j ≡ b = omega arith in
      rw s (eqb-true (start_of blocks b) total (ask-ok (eqb (start_of blocks b) total) _ _ o).0)
  covered (suc n) b o j e = covered n (suc b) (rw (next_start b) at (first_block n b (start_of blocks b) o).1) j (omega arith)

module _ (blocks : List ℕ) (total : ℕ) (q : lengths_ask blocks total ≡ ok tt) where
  blocks-ok : blocks_ask blocks total (rows blocks) 0 (start_of blocks 0) ≡ ok tt
  unfolding lengths_ask start_of
  blocks-ok = q

  pub block-bounds : (b : ℕ) → b < rows blocks → (1 ≤ head_of blocks b) × (head_of blocks b ≤ 32) × (start_of blocks b + head_of blocks b ≤ total)
  block-bounds b h =
      length-facts (head_of blocks b) (start_of blocks b) total (each-block blocks total (rows blocks) 0 blocks-ok b (omega arith) (omega arith))

  -- the blocks cover the code
  pub code-covered : start_of blocks (rows blocks) ≡ total
  code-covered = covered blocks total (rows blocks) 0 blocks-ok (rows blocks) (omega arith)

-- ---- Q6 passed

module _ (count : ℕ) (blocks : List ℕ) (q : annotations_ask count blocks ≡ ok tt) where
  pub annotation-well-made : (b r : ℕ) → b < rows blocks → r < 8 → well_made count 8 (get_or (words_of blocks b) r 0) ≡ true
  unfolding annotations_ask annotation_ask annotation_well
  annotation-well-made b r h l =
      (and-true _ _ (every_true 8 0 _ (ask-ok _ _ _ (first_no-ok _ 0 _ q b (omega arith) (omega arith))).0 r (omega arith) (omega arith))).1

-- ---- Q16

module _ (blocks : List ℕ) (b : ℕ) where
  pub start-passed : start_ask blocks b ≡ ok tt → b < rows blocks
  unfolding start_ask
  start-passed e = ltb-true b (rows blocks) (ask-ok (ltb b (rows blocks)) _ _ e).0
