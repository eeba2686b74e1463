-- One law for each way out of a function.
use mathlib.Core.Path.{◌≡◌, refl, sym, ◌∙◌}
use mathlib.Core.Logic.{⊎_elim}
use mathlib.Core.Bool.{Bool, true, false}
use mathlib.Core.List.{List}
use Prim.Native.Nat.{ℕ, ◌+◌, ◌*◌, ◌%◌, ◌-◌, ◌<◌, ◌≤◌}
use native.Mathlib.Nat.{eq-or-lt_of_le, sub_self, sub-zero}
use native.Mathlib.Numerals.{add-one}
use native.Mathlib.Omega.{arith}
use lib.Dec.{ltb, leb, eqb}
use lib.ListN.{length, drop, get_or, set, length-set}
use lib.Seq.{get_or-set_same, get_or-set_other}
use borrow.Author.Tests.{lt-ltb, le-ltb, le-leb, lt-leb, eq-eqb, ne_eqb}
use Rattle.model.specs.Question.{◌and◌, ◌or◌, every, refusal, Outcome, ok, refused, passed, refusing, verdict_of, provided}
use Rattle.model.specs.declared.questions.Question.TheVariants.{FieldCount as q2, FieldType as q3, Tag as q4, BlockLength as q5, Annotation as q6}
use Rattle.model.specs.Word.{kind_of, locked_of, record_of, first_of, second_of}
use Rattle.model.specs.Table.{whole_rows, well_made, head_of, words_of, rows, tables_of, count_ask, field_well, fields_ask, tag_ask, types_ask, start_of}
use Rattle.model.specs.Table.{blocks_ask, lengths_ask, annotation_well, annotation_ask, types_questions}
use Rattle.table.specs.Row.{place_well, row_well}
use Rattle.model.proofs.Logic.{pick_true}
use Rattle.table.proofs.Laws.{record_part, dependency_part, length_well, start_none, uses-span}
use Rattle.table.proofs.Questions.{left, ComesTo}

-- ---- Q1

module _ (most n : ℕ) where
  pub rows-broken : (n % 9 ≡ 0 → ⊥) → false ≡ whole_rows most n
  unfolding ◌and◌
  rows-broken h = rw (ne_eqb (n % 9) 0 h)

  pub rows_none : n % 9 ≡ 0 → n < 9 → false ≡ whole_rows most n
  unfolding ◌and◌
  rows_none e h = rw (e, lt-leb 9 n h)

  pub rows-bounded : n % 9 ≡ 0 → 9 ≤ n → leb n (9 * most) ≡ whole_rows most n
  unfolding ◌and◌
  rows-bounded e h = rw (e, le-leb 9 n h)

-- ---- type words

module _ (used : Bool) (n x : ℕ) where
  pub dependency-unused : used ≡ false → eqb x 0 ≡ dependency_part used n x
  dependency-unused e = rw e

  pub dependency-name : used ≡ true → x < n → true ≡ dependency_part used n x
  unfolding ◌or◌
  dependency-name e h = rw (e, lt-ltb x n h)

  pub dependency-constant : used ≡ true → n ≤ x → leb 8 x ≡ dependency_part used n x
  unfolding ◌or◌
  dependency-constant e h = rw (e, le-ltb x n h)

pub well-any : (count n w : ℕ) → w ≡ 0 → true ≡ well_made count n w
unfolding well_made ◌and◌ ◌or◌
well-any count n w e = rw e

module _ (count n w k : ℕ) (ek : k ≡ kind_of w) where
  pub well-kind : 8 < k → false ≡ well_made count n w
  unfolding well_made ◌and◌
  well-kind h = rw (← ek, lt-leb k 8 h)

  module _ (h : k ≤ 8) (t : ℕ) (et : t ≡ record_of w) where
    pub well-record : record_part count k t ≡ false → false ≡ well_made count n w
    unfolding well_made ◌and◌
    well-record e = rw (← ek, ← et, le-leb k 8 h, e)

    module _ (e : record_part count k t ≡ true) (x : ℕ) (ex : x ≡ first_of w) where
      pub well-first : dependency_part (leb 3 k) n x ≡ false → false ≡ well_made count n w
      unfolding well_made ◌and◌
      well-first l = rw (← ek, ← et, ← ex, le-leb k 8 h, e, l)

      pub well-unused : dependency_part (leb 3 k) n x ≡ true → k < 6 → (y : ℕ) → y ≡ second_of w → eqb y 0 ≡ well_made count n w
      unfolding well_made ◌and◌
      well-unused l m y ey = rw (← ek, ← et, ← ex, ← ey, le-leb k 8 h, e, l, lt-leb 6 k m)

      pub well-second : dependency_part (leb 3 k) n x ≡ true → (y : ℕ) → y ≡ second_of w → dependency_part (leb 6 k) n y ≡ well_made count n w
      unfolding well_made ◌and◌
      well-second l y ey = rw (← ek, ← et, ← ex, ← ey, le-leb k 8 h, e, l)

-- a span uses each part
module _ (count n w : ℕ) (l : 6 ≤ kind_of w) (h : kind_of w ≤ 8) (t : ℕ) (et : t ≡ record_of w) where
  record-used : record_part count (kind_of w) t ≡ ltb t count
  record-used = pick_true _ _ _ (sym (uses-span (kind_of w) l))

  first-used : (x : ℕ) → dependency_part (leb 3 (kind_of w)) n x ≡ dependency_part true n x
  first-used x = rw (le-leb 3 (kind_of w) (omega arith))

  second-used : (y : ℕ) → dependency_part (leb 6 (kind_of w)) n y ≡ dependency_part true n y
  second-used y = rw (le-leb 6 (kind_of w) l)

  pub span-record : count ≤ t → false ≡ well_made count n w
  span-record m = well-record count n w (kind_of w) refl h t et (record-used ∙ le-ltb t count m)

  module _ (m : t < count) (x : ℕ) (ex : x ≡ first_of w) where
    pub span-first : dependency_part true n x ≡ false → false ≡ well_made count n w
    span-first e = well-first count n w (kind_of w) refl h t et (record-used ∙ lt-ltb t count m) x ex (first-used x ∙ e)

    pub span_second : dependency_part true n x ≡ true → (y : ℕ) → y ≡ second_of w → dependency_part true n y ≡ well_made count n w
    span_second e y ey =
        sym (second-used y)
        ∙ well-second count n w (kind_of w) refl h t et (record-used ∙ lt-ltb t count m) x ex (first-used x ∙ e) y ey

-- the word w of place f, by whether marks are allowed
module _ (count n : ℕ) (marks : Bool) (f w : ℕ) where
  pub place-past : n ≤ f → eqb w 0 ≡ place_well count n marks f w
  unfolding place_well
  place-past h = rw (le-ltb f n h)

  module _ (h : f < n) where
    pub place-allowed : marks ≡ true → well_made count n w ≡ place_well count n marks f w
    unfolding place_well ◌or◌ ◌and◌
    place-allowed m = rw (lt-ltb f n h, m)

    pub place-marked : marks ≡ false → locked_of w ≡ true → false ≡ place_well count n marks f w
    unfolding place_well ◌or◌ ◌and◌
    place-marked m l = rw (lt-ltb f n h, m, l)

    pub place-unmarked : marks ≡ false → locked_of w ≡ false → well_made count n w ≡ place_well count n marks f w
    unfolding place_well ◌or◌ ◌and◌
    place-unmarked m l = rw (lt-ltb f n h, m, l)

pub place_is : (count n : ℕ) (marks : Bool) (words : List ℕ) (f w : ℕ) → w ≡ get_or words f 0 → place_well count n marks f w ≡ row_well count n marks words f
unfolding row_well
place_is count n marks words f w e = rw e

-- ---- Q2 to Q4, of one row

module _ (types tags : List ℕ) (t n : ℕ) (e : n ≡ head_of types t) where
  pub count-yes : leb 1 n and leb n 8 ≡ true → count_ask (tables_of types tags) t ≡ ok tt
  unfolding count_ask tables_of provided
  count-yes h = rw (← e, h)

  pub count-no : leb 1 n and leb n 8 ≡ false → count_ask (tables_of types tags) t ≡ refused (refusal q2 t 0)
  unfolding count_ask tables_of provided
  count-no h = rw (← e, h)

  fields-are : every 8 0 (row_well (rows types) n true (words_of types t)) ≡ every 8 0 (field_well (tables_of types tags) t)
  unfolding row_well place_well field_well tables_of every ◌or◌ ◌and◌
  fields-are = rw e

  module _ (own : List ℕ) (eo : own ≡ words_of types t) where
    pub fields-yes : every 8 0 (row_well (rows types) n true own) ≡ true → fields_ask (tables_of types tags) t ≡ ok tt
    unfolding fields_ask provided
    fields-yes h = rw (← fields-are, ← eo, h)

    pub fields-no : every 8 0 (row_well (rows types) n true own) ≡ false → fields_ask (tables_of types tags) t ≡ refused (refusal q3 t 0)
    unfolding fields_ask provided
    fields-no h = rw (← fields-are, ← eo, h)

module _ (types tags : List ℕ) (k : ℕ) where
  pub tag-yes : get_or tags k 0 < rows types → tag_ask (tables_of types tags) k ≡ ok tt
  unfolding tag_ask tables_of provided
  tag-yes h = rw (lt-ltb (get_or tags k 0) (rows types) h)

  pub tag-no : rows types ≤ get_or tags k 0 → tag_ask (tables_of types tags) k ≡ refused (refusal q4 k 0)
  unfolding tag_ask tables_of provided
  tag-no h = rw (le-ltb (get_or tags k 0) (rows types) h)

-- ---- Q2 to Q4, in order

module _ (types tags : List ℕ) where
  -- past k questions, those left come to what all come to
  abbrev pub TypesPast : ℕ → Type 0
  TypesPast k = ComesTo (verdict_of (types_ask types tags)) (drop k (types_questions types tags))

  pub types-begin : TypesPast 0
  unfolding types_ask
  types-begin = record { asked = refl }

-- ---- Q5

module _ (n i total : ℕ) where
  pub length_none : n < 1 → false ≡ length_well n i total
  unfolding ◌and◌
  length_none h = rw (lt-leb 1 n h)

  pub length-long : 1 ≤ n → 32 < n → false ≡ length_well n i total
  unfolding ◌and◌
  length-long h l = rw (le-leb 1 n h, lt-leb n 32 l)

  pub length-inside : 1 ≤ n → n ≤ 32 → leb (i + n) total ≡ length_well n i total
  unfolding ◌and◌
  length-inside h l = rw (le-leb 1 n h, le-leb n 32 l)

pub lengths-start : (blocks : List ℕ) (total : ℕ) → lengths_ask blocks total ≡ blocks_ask blocks total (rows blocks - 0) 0 0
unfolding lengths_ask
lengths-start blocks total = rw sub-zero

-- whole is what the blocks from b on, at code index i, come to
module _ (blocks : List ℕ) (total b i : ℕ) (whole : Outcome (Unit {0})) (e : whole ≡ blocks_ask blocks total (rows blocks - b) b i) where
  module _ (h : b < rows blocks) (n : ℕ) (en : n ≡ head_of blocks b) where
    pub lengths-on : length_well n i total ≡ true → whole ≡ blocks_ask blocks total (rows blocks - (b + 1)) (b + 1) (i + n)
    unfolding blocks_ask provided
    lengths-on l = rw (e, left (rows blocks) b h, ← en, l, add-one b)

    pub lengths-refused : length_well n i total ≡ false → refused (refusal q5 b 0) ≡ whole
    unfolding blocks_ask provided
    lengths-refused l = rw (e, left (rows blocks) b h, ← en, l)

    pub lengths-stop : length_well n i total ≡ false → refusing (refusal q5 b 0) ≡ verdict_of whole
    unfolding blocks_ask provided verdict_of
    lengths-stop l = rw (e, left (rows blocks) b h, ← en, l)

  module _ (h : b ≡ rows blocks) where
    pub lengths-rest : (n : ℕ) → n ≡ rows blocks → (i ≡ total → ⊥) → refused (refusal q5 n 0) ≡ whole
    unfolding blocks_ask provided
    lengths-rest n f l = rw (e, h, f, sub_self, ne_eqb i total l)

    pub lengths-passed : i ≡ total → ok tt ≡ whole
    unfolding blocks_ask provided
    lengths-passed l = rw (e, h, sub_self, eq-eqb i total l)

    pub lengths_short : (i ≡ total → ⊥) → refusing (refusal q5 (rows blocks) 0) ≡ verdict_of whole
    unfolding blocks_ask provided verdict_of
    lengths_short l = rw (e, h, sub_self, ne_eqb i total l)

    pub lengths-pass : i ≡ total → passed ≡ verdict_of whole
    unfolding blocks_ask provided verdict_of
    lengths-pass l = rw (e, h, sub_self, eq-eqb i total l)

-- starts has where blocks 0 to b start
abbrev pub Filled : List ℕ → List ℕ → ℕ → Type 0
Filled blocks starts b = length starts ≡ 257 → (k : ℕ) → k ≤ b → get_or starts k 0 ≡ start_of blocks k

module _ (blocks starts : List ℕ) where
  pub filled_none : Filled blocks (set starts 0 0) 0
  filled_none e k h =
      let z : k ≡ 0 = omega arith in
      rw z (get_or-set_same starts 0 0 0 (omega (arith, length-set starts 0 0)) ∙ sym (start_none blocks))

  module _ (b v : ℕ) (f : Filled blocks starts b) (l : b + 1 < 257) (ev : v ≡ start_of blocks (b + 1)) where
    pub filled_more : Filled blocks (set starts (b + 1) v) (b + 1)
    filled_more e k h =
        ⊎_elim
        (λ (z : k ≡ b + 1). rw z (get_or-set_same starts (b + 1) v 0 (omega (arith, length-set starts (b + 1) v)) ∙ ev))
        (λ (m : k < b + 1). get_or-set_other starts (b + 1) k v 0 (λ (z : k ≡ b + 1). omega arith) ∙ f (sym (length-set starts (b + 1) v) ∙ e) k (omega arith))
        (eq-or-lt_of_le h)

-- ---- Q6

pub annotation-is : (count : ℕ) (words : List ℕ) → every 8 0 (row_well count 8 false words) ≡ every 8 0 (λ f. annotation_well count (get_or words f 0))
unfolding row_well place_well annotation_well every ◌or◌
annotation-is count words = refl

-- own is the words of block b's row
module _ (count : ℕ) (blocks own : List ℕ) (b : ℕ) (e : own ≡ words_of blocks b) where
  pub annotation-yes : every 8 0 (λ f. annotation_well count (get_or own f 0)) ≡ true → annotation_ask count blocks b ≡ ok tt
  unfolding annotation_ask provided
  annotation-yes h = rw (← e, h)

  pub annotation-no : every 8 0 (λ f. annotation_well count (get_or own f 0)) ≡ false → annotation_ask count blocks b ≡ refused (refusal q6 b 0)
  unfolding annotation_ask provided
  annotation-no h = rw (← e, h)
