-- One law for each answer to Q19.
use mathlib.Core.Path.{◌≡◌, refl, ap, ◌∙◌}
use mathlib.Core.Bool.{true, false}
use mathlib.Core.List.{List, ◌∷◌}
use Prim.Native.Nat.{ℕ, suc, ◌+◌, ◌*◌, ◌/◌, ◌%◌, ◌≤◌, ◌<◌}
use native.Mathlib.Numerals.{add-one}
use native.Mathlib.Omega.{arith}
use lib.ListN.{length, get_or, drop, drop_of_length-le}
use lib.Seq.{drop-cons}
use lib.Dec.{leb}
use borrow.Author.Tests.{lt-ltb, le-ltb, le-leb, lt-leb, eq-eqb, ne_eqb, ltb-true}
use Rattle.model.specs.Question.{refusal, ok, refused, provided}
use Rattle.model.specs.declared.questions.Question.TheVariants.{Allocation as q19}
use Rattle.model.specs.Table.{rows, head_of, tables_of}
use Rattle.model.specs.Allocation.{laid, rows_ask}
use Rattle.model.proofs.Logic.{and-true}

-- ---- row k of the allocations

-- a record of type t starts at p
pub record RowAt (allocations : List ℕ) (k p t : ℕ) : Type 0 where
  pub whole : k * 2 + 1 < length allocations
  pub start : p ≡ get_or allocations (k * 2) 0
  pub typed : t ≡ get_or allocations (k * 2 + 1) 0

-- the rows from it on
pub rows-from : {allocations : List ℕ} {k p t : ℕ} → RowAt allocations k p t → drop (k * 2) allocations ≡ p ∷ t ∷ drop ((k + 1) * 2) allocations
rows-from {allocations} {k} R =
    let i : suc (k * 2) ≡ k * 2 + 1 = omega arith in
    let j : suc (k * 2 + 1) ≡ (k + 1) * 2 = omega arith in
    let rest = drop-cons allocations (k * 2 + 1) 0 R.whole ∙ ap (λ (n : ℕ). get_or allocations (k * 2 + 1) 0 ∷ drop n allocations) j in
    drop-cons allocations (k * 2) 0 (omega arith) ∙ rw (R.start, R.typed, i) (ap (λ (r : List ℕ). get_or allocations (k * 2) 0 ∷ r) rest)

-- ---- Q19 of one row

module _ (types tags : List ℕ) (top low p t : ℕ) where
  -- the type of a row that is laid
  pub laid-exists : laid (tables_of types tags) top low p t ≡ true → t < rows types
  unfolding laid tables_of
  laid-exists h = ltb-true t (rows types) (and-true _ _ h).0

-- ---- Q19 of the rows, as a loop asks it

-- the rows from row k on, none of which may start below low, come to what all come to, whatever the tags
pub record AllocationsLeft (types allocations : List ℕ) (top k low : ℕ) : Type 0 where
  pub rest : (tags : List ℕ) → rows_ask (tables_of types tags) top allocations 0 1 ≡ rows_ask (tables_of types tags) top (drop (k * 2) allocations) k low
  pub within : k ≤ length allocations / 2

pub allocations-begin : (types allocations : List ℕ) (top : ℕ) → AllocationsLeft types allocations top 0 1
allocations-begin types allocations top = record { rest = λ tags. refl; within = omega arith }

module _ {types allocations : List ℕ} {top k low : ℕ} (L : AllocationsLeft types allocations top k low) where
  module _ {p t : ℕ} (R : RowAt allocations k p t) where
    row-rest : (tags : List ℕ) → rows_ask (tables_of types tags) top allocations 0 1
        ≡ rows_ask (tables_of types tags) top (p ∷ t ∷ drop ((k + 1) * 2) allocations) k low
    row-rest tags = L.rest tags ∙ ap (λ (l : List ℕ). rows_ask (tables_of types tags) top l k low) (rows-from R)

    pub row_laid : (n : ℕ) → n ≡ head_of types t → ((tags : List ℕ) → laid (tables_of types tags) top low p t ≡ true)
        → AllocationsLeft types allocations top (k + 1) (p + n)
    unfolding rows_ask tables_of provided
    row_laid n e y = record { rest = λ tags. row-rest tags ∙ rw (y tags, e, add-one k); within = omega (arith, R.whole) }

    pub row-not-laid : (tags : List ℕ) → laid (tables_of types tags) top low p t ≡ false
        → refused (refusal q19 k 0) ≡ rows_ask (tables_of types tags) top allocations 0 1
    unfolding rows_ask provided
    row-not-laid tags y = rw (row-rest tags, y)

  pub allocations-end : (tags : List ℕ) → length allocations ≤ k * 2 → ok tt ≡ rows_ask (tables_of types tags) top allocations 0 1
  unfolding rows_ask
  allocations-end tags h = rw (L.rest tags, drop_of_length-le allocations h)
