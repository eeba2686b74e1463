-- What a passed layout gives: the bounds of its lengths, the sizes of the types, the place of each record, well-made type words.
use mathlib.Core.Path.{◌≡◌, refl}
use mathlib.Core.Bool.{true}
use mathlib.Core.List.{List, [], ◌∷◌}
use Prim.Native.Nat.{ℕ, zero, suc, ◌+◌, ◌*◌, ◌%◌, ◌≤◌, ◌<◌}
use native.Mathlib.Omega.{arith}
use lib.ListN.{length, get_or}
use borrow.Author.Tests.{eq-eqb, eqb-true, leb-true}
use Rattle.model.specs.Question.{ok}
use Rattle.model.specs.Table.{rows, head_of, words_of, tables_of, type_lengths_ask, types_ask, well_made, memory_length_ask}
use Rattle.model.specs.Allocation.{is_allocated, rows_ask, allocations_ask}
use Rattle.model.specs.MemoryCheck.{layout_ask, layout_questions}
use Rattle.model.proofs.Logic.{and-true, true-and, true-or, or-of-true, ask-ok, all-passed}
use Rattle.model.proofs.TableLaws.{rows-laid, memory-length}
use Rattle.layout.proofs.Layouts.{RowAt}
use Rattle.table.proofs.Laws.{type-lengths-passed, size-bounds, field-well-made}

-- each row of a list is allocated
row-allocated : (k : ℕ) (l : List ℕ) → k * 2 + 1 < length l → is_allocated l (get_or l (k * 2) 0) (get_or l (k * 2 + 1) 0) ≡ true
unfolding is_allocated
row-allocated k [] h = absurd (omega arith)
row-allocated k (p ∷ []) h = absurd (omega arith)
row-allocated zero (p ∷ t ∷ rest) h = true-or _ _ (true-and _ _ (eq-eqb p p refl) (eq-eqb t t refl))
row-allocated (suc k) (p ∷ t ∷ rest) h =
    let i : suc k * 2 ≡ suc (suc (k * 2)) = omega arith in
    let j : suc k * 2 + 1 ≡ suc (suc (k * 2 + 1)) = omega arith in
    rw (j, i) (or-of-true _ _ (row-allocated k rest (omega arith)))

-- a record in its place: its type, its size, and its last word
pub record InPlace (types : List ℕ) (top p t : ℕ) : Type 0 where
  pub exists : t < rows types
  pub some : 1 ≤ head_of types t
  pub most : head_of types t ≤ 8
  pub inside : p + head_of types t ≤ top

-- the questions before Q20, each passed, and Q19 taken apart
record LayoutParts (types tags allocations : List ℕ) (top : ℕ) : Type 0 where
  lengths : type_lengths_ask (length types) (length tags) ≡ ok tt
  made : types_ask types tags ≡ ok tt
  memory : memory_length_ask top ≡ ok tt
  even : length allocations % 2 ≡ 0
  most : length allocations ≤ 8192
  laid : rows_ask (tables_of types tags) top allocations 0 1 ≡ ok tt

module _ (types tags allocations : List ℕ) (top : ℕ) (q : layout_ask types tags allocations top ≡ ok tt) where
  layout-parts : LayoutParts types tags allocations top
  unfolding layout_ask allocations_ask
  layout-parts =
      let (lengths, (made, (memory, (allocated, u)))) = all-passed (layout_questions types tags allocations top) q in
      let (whole, laid) = ask-ok _ _ _ allocated in
      let (even, most) = and-true _ _ whole in
      record { lengths = lengths; made = made; memory = memory; even = eqb-true _ 0 even; most = leb-true _ _ most; laid = laid }

  pub layout-types : length types ≤ 576
  layout-types = (type-lengths-passed (length types) (length tags) layout-parts.lengths).most

  pub layout-memory : top ≤ 16384
  layout-memory = (memory-length top layout-parts.memory).1

  pub layout-even : length allocations % 2 ≡ 0
  layout-even = layout-parts.even

  pub layout-laid : rows_ask (tables_of types tags) top allocations 0 1 ≡ ok tt
  layout-laid = layout-parts.laid

  pub layout-rows : length allocations ≤ 8192
  layout-rows = layout-parts.most

  pub layout-sizes : (t : ℕ) → t < rows types → (1 ≤ head_of types t) × (head_of types t ≤ 8)
  layout-sizes t h = size-bounds types tags layout-parts.made t h

  pub layout_row : {k p t : ℕ} → RowAt allocations k p t → InPlace types top p t
  unfolding tables_of
  layout_row {k} R =
      let L = rows-laid (tables_of types tags) top allocations 0 1 _ _ layout-laid (row-allocated k allocations R.whole) in
      let (some, most) = layout-sizes _ L.exists in
      rw (R.start, R.typed) (record { exists = L.exists; some = some; most = most; inside = L.inside })

  pub layout-well : (t n : ℕ) → t < rows types → n ≡ head_of types t → (i : ℕ) → i < n → well_made (rows types) n (get_or (words_of types t) i 0) ≡ true
  layout-well t n h e i l =
      rw e (field-well-made types tags layout-parts.made t i h (omega (arith, layout-sizes t h)) (omega arith))
