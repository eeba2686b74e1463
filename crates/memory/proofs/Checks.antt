-- The table of owners of a passed layout, and one law for each answer to Q20 and Q21.
use mathlib.Core.Path.{◌≡◌, refl, sym, ap, ◌∙◌}
use mathlib.Core.List.{List, ◌∷◌}
use Prim.Native.Nat.{ℕ, zero, suc, ◌+◌, ◌-◌, ◌*◌, ◌/◌, ◌≤◌, ◌<◌}
use native.Mathlib.Numerals.{add-one}
use native.Mathlib.Omega.{arith}
use lib.ListN.{length, get_or, take, drop, length-drop, drop_of_length-le, replicate, length-replicate}
use lib.Seq.{take_all}
use borrow.Author.Tests.{ltb-true}
use Rattle.model.specs.Question.{refusal, ok, refused, then, first_no}
use Rattle.model.specs.declared.questions.Question.TheVariants.{Field as q20, Register as q21}
use Rattle.model.specs.Table.{rows, head_of, words_of, Tables, tables_of, annotations_ask, start_ask, Code}
use Rattle.model.specs.MemoryCheck.{field_ask, records_ask, register_ask, layout_ask, routine_ask, routine_questions}
use Rattle.model.proofs.Logic.{ask-ok, all-passed}
use Rattle.table.proofs.Laws.{words-length, annotation-well-made}
use Rattle.layout.proofs.Layouts.{RowAt, rows-from}
use Rattle.layout.proofs.Passed.{InPlace, layout-well, layout-types, layout-memory, layout-even, layout-laid, layout-sizes, layout_row}
use Rattle.meaning.specs.Owners.{owners_of, CanBeLaid, Owned}
use Rattle.meaning.specs.Search.{first_false, place_meets, EachHasField, WordsLegible}
use Rattle.meaning.proofs.Owners.{owned}
use Rattle.std.proofs.Common.{Option, Some, None, length-take-le, get_or-take}
use Rattle.meaning.proofs.Search.{found_at, searched, found-below, field_is, register-is}

-- zeros, as many as there are addresses or any other number
zero-at : (n x : ℕ) → ◌≡◌ {A = ℕ} (get_or (replicate n 0) x 0) 0
zero-at zero x = refl
zero-at (suc n) zero = refl
zero-at (suc n) (suc x) = zero-at n x

-- ---- the table of owners of a passed layout

module _ (types tags allocations : List ℕ) (top : ℕ) (q : layout_ask types tags allocations top ≡ ok tt) where
  pub layout-fields : EachHasField types
  layout-fields t h = (layout-sizes types tags allocations top q t h).0

  pub layout-can-be-laid : CanBeLaid types allocations
  layout-can-be-laid = record {
    few = omega (arith, layout-types types tags allocations top q);
    even = layout-even types tags allocations top q;
    each = λ k h.
        let R : RowAt allocations k (get_or allocations (k * 2) 0) (get_or allocations (k * 2 + 1) 0) = record { whole = h; start = refl; typed = refl } in
        let P = layout_row types tags allocations top q R in
        record { exists = P.exists; some = P.some; inside = omega (arith, P.inside, layout-memory types tags allocations top q) };
  }

  -- the table filled from zeros
  pub layout-owned : (n : ℕ) {owners : List ℕ} (filled : List ℕ) → n ≡ 16384 → owners ≡ replicate n 0
      → filled ≡ owners_of (λ t. head_of types t) allocations owners → Owned (tables_of types tags) allocations filled
  unfolding tables_of
  layout-owned n filled h z e =
      owned (tables_of types tags) top (layout-memory types tags allocations top q) layout-fields
      (replicate n 0) (length-replicate n 0 ∙ h) (zero-at n) allocations filled (layout-laid types tags allocations top q) (rw z at e)

-- ---- Q20, as a loop asks it

-- the records from row k on come to what all come to
pub record RecordsLeft (types tags allocations memory : List ℕ) (k : ℕ) : Type 0 where
  pub rest : records_ask (tables_of types tags) allocations memory allocations 0
      ≡ records_ask (tables_of types tags) allocations memory (drop (k * 2) allocations) k
  pub within : k ≤ length allocations / 2

pub records-begin : (types tags allocations memory : List ℕ) → RecordsLeft types tags allocations memory 0
records-begin types tags allocations memory = record { rest = refl; within = omega arith }

-- row k of the allocations, as it is read: a record of type t at p
pub row-read : {allocations : List ℕ} {k p t : ℕ} → k < length allocations / 2 → p ≡ get_or allocations (k * 2) 0 → t ≡ get_or allocations (k * 2 + 1) 0
    → RowAt allocations k p t
row-read h s e = record { whole = omega arith; start = s; typed = e }

-- with its n type words, and its words at the head of names
pub record Fields (types allocations memory : List ℕ) (k p t n : ℕ) (words names : List ℕ) : Type 0 where
  pub row : RowAt allocations k p t
  pub size : n ≡ head_of types t
  pub typed : words ≡ take n (words_of types t)
  pub named : names ≡ drop p memory

pub fields-read : {types allocations memory : List ℕ} {k p t n : ℕ} {w : List ℕ} → RowAt allocations k p t → n ≡ head_of types t → w ≡ words_of types t
    → Fields types allocations memory k p t n (take n w) (take (length memory - p) (drop p memory))
fields-read {memory} {p} {n} R h e = record {
  row = R;
  size = h;
  typed = ap (λ (l : List ℕ). take n l) e;
  named = take_all (length memory - p) (drop p memory) (omega (arith, length-drop p memory));
}

module _ {types : List ℕ} (tags : List ℕ) {allocations memory : List ℕ} (q : layout_ask types tags allocations (length memory) ≡ ok tt)
    {k p t n : ℕ} {words names : List ℕ} (F : Fields types allocations memory k p t n words names) where
  place : InPlace types (length memory) p t
  place = layout_row types tags allocations (length memory) q F.row

  words-count : length words ≡ n
  words-count =
      let l : length (words_of types t) ≡ 8 = words-length types t (omega (arith, place)) in
      ap length F.typed ∙ length-take-le n (words_of types t) (omega (arith, F.size, place))

  word-is : (j : ℕ) → j < n → get_or words j 0 ≡ get_or (words_of types t) j 0
  word-is j h = rw F.typed (get_or-take n (words_of types t) j 0 h)

  pub fields-legible : WordsLegible (rows types) words names
  fields-legible = record {
    named = omega (arith, words-count, F.size, place, ap length F.named, length-drop p memory);
    well = λ i l. rw (words-count, word-is i (omega (arith, words-count)))
        (layout-well types tags allocations (length memory) q t n place.exists F.size i (omega (arith, words-count)));
  }

  module _ (L : RecordsLeft types tags allocations memory k) where
    abbrev search : Option ℕ
    search = first_false (length words) 0 (place_meets (tables_of types tags) allocations words names)

    row-asked : first_no n 0 (field_ask (tables_of types tags) allocations memory k p t) ≡ found_at (λ f. refusal q20 k f) search
    unfolding tables_of
    row-asked =
        rw (words-count, F.named) (searched _ _ _ n 0 (λ j h. field_is (tables_of types tags) allocations memory words k p t j (word-is j (omega arith))))

    row-rest : records_ask (tables_of types tags) allocations memory allocations 0
        ≡ records_ask (tables_of types tags) allocations memory (p ∷ t ∷ drop ((k + 1) * 2) allocations) k
    row-rest = L.rest ∙ ap (λ (l : List ℕ). records_ask (tables_of types tags) allocations memory l k) (rows-from F.row)

    pub records-on : {r : Option ℕ} → r ≡ search → r ≡ None → RecordsLeft types tags allocations memory (k + 1)
    unfolding records_ask tables_of then
    records-on er e = record { rest = row-rest ∙ rw (← F.size, row-asked, ← er, e, add-one k); within = omega (arith, F.row.whole) }

    pub records-stop : {r : Option ℕ} {f : ℕ} → r ≡ search → r ≡ Some f
        → refused (refusal q20 k f) ≡ records_ask (tables_of types tags) allocations memory allocations 0
    unfolding records_ask tables_of then
    records-stop er e = rw (row-rest, ← F.size, row-asked, ← er, e)

    pub field-below : {r : Option ℕ} {f : ℕ} → r ≡ search → r ≡ Some f → f < 8
    field-below er e = omega (arith, found-below _ _ _ (sym er ∙ e), words-count, F.size, place)

pub records-end : {types tags allocations memory : List ℕ} {k : ℕ} → RecordsLeft types tags allocations memory k → length allocations ≤ k * 2
    → ok tt ≡ records_ask (tables_of types tags) allocations memory allocations 0
unfolding records_ask
records-end {allocations} L h = rw (L.rest, drop_of_length-le allocations h)

-- ---- Q1 for blocks and code, Q5, Q6 and Q16, in order

module _ (count : ℕ) (C : Code) (b : ℕ) where
  -- what the passed questions of a routine give
  module _ (q : routine_ask count C b ≡ ok tt) where
    routine-parts : (annotations_ask count C.blocks ≡ ok tt) × (b < rows C.blocks)
    unfolding routine_ask start_ask
    routine-parts =
        let (a, (c, (d, (e, u)))) = all-passed (routine_questions count C b) q in
        (d, ltb-true b (rows C.blocks) (ask-ok _ _ _ e).0)

    pub routine-block : b < rows C.blocks
    routine-block = routine-parts.1

    pub routine-legible : (annotation registers : List ℕ) → annotation ≡ words_of C.blocks b → length annotation ≡ 8 → length registers ≡ 8
        → WordsLegible count annotation registers
    routine-legible annotation registers e a r = record {
      named = omega arith;
      well = λ i l. rw (a, e) (annotation-well-made count C.blocks routine-parts.0 b i routine-block (omega arith));
    }

-- ---- Q21

module _ (𝒯 : Tables) (allocations annotation registers : List ℕ) (n : ℕ) where
  abbrev found : Option ℕ
  found = first_false n 0 (place_meets 𝒯 allocations annotation registers)

  registers-asked : first_no n 0 (register_ask 𝒯 allocations annotation registers) ≡ found_at (λ j. refusal q21 j 0) found
  registers-asked = searched _ _ _ n 0 (λ j h. register-is 𝒯 allocations annotation registers j)

  pub registers-stop : {r : ℕ} → found ≡ Some r → refused (refusal q21 r 0) ≡ first_no n 0 (register_ask 𝒯 allocations annotation registers)
  registers-stop e = rw (registers-asked, e)

  pub registers-pass : found ≡ None → ok tt ≡ first_no n 0 (register_ask 𝒯 allocations annotation registers)
  registers-pass e = rw (registers-asked, e)
