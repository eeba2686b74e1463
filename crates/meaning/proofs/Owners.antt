-- The table of owners, laid from allocations that passed Q19, tells what they say.
use mathlib.Core.Path.{◌≡◌, refl, sym, ap, ◌∙◌}
use mathlib.Core.Bool.{Bool, true, false, false≢true}
use mathlib.Core.List.{List, [], ◌∷◌}
use Prim.Native.Nat.{ℕ, suc, ◌+◌, ◌*◌, ◌/◌, ◌%◌, ◌≤◌, ◌<◌}
use native.Mathlib.Omega.{arith}
use lib.Dec.{ltb, eqb}
use lib.ListN.{length, get_or, set, length-set, drop, drop_of_length-le}
use lib.Seq.{get_or-set_same, get_or-set_other}
use borrow.Author.Tests.{lt-ltb, le-ltb, eq-eqb, ne_eqb, eqb-true}
use Rattle.model.specs.Question.{◌and◌, ◌or◌, pick, ok}
use Rattle.model.specs.Table.{Tables}
use Rattle.model.specs.Allocation.{is_allocated, rows_ask}
use Rattle.model.proofs.Logic.{by_test, by_equality, by_less, true-and, true-or, pick_true, pick-false, ask-ok}
use Rattle.model.proofs.Lists.{get_or-past}
use Rattle.model.proofs.TableLaws.{Row, rows-laid}
use Rattle.layout.proofs.Layouts.{RowAt, rows-from}
use Rattle.meaning.specs.Owners.{owner_at, starts_at, entry_of, owners_of, RowCanBeLaid, CanBeLaid, Owned}

-- ---- the parts of an entry

pub entry-type : (t x : ℕ) → x < 65536 → ((t + 1) * 65536 + x) / 65536 ≡ t + 1
entry-type t x h = omega arith

pub entry-end : (t x : ℕ) → x < 65536 → ((t + 1) * 65536 + x) % 65536 ≡ x
entry-end t x h = omega arith

eqb-more : (a b : ℕ) → eqb a b ≡ eqb (a + 1) (b + 1)
eqb-more a b =
    by_equality a b
    (λ e. eq-eqb a b e ∙ sym (eq-eqb _ _ (ap (λ (n : ℕ). n + 1) e)))
    (λ d. ne_eqb a b d ∙ sym (ne_eqb _ _ (λ (e : a + 1 ≡ b + 1). d (omega arith))))

no-type : (t : ℕ) → eqb (0 / 65536) (t + 1) ≡ false
no-type t = ne_eqb (0 / 65536) (t + 1) (λ e. omega arith)

pick_same : (a b : Bool) (x y z : ℕ) → a ≡ b → x ≡ y → pick a x z ≡ pick b y z
pick_same a b x y z e f = rw (e, f)

-- ---- entries, as they are read and made

module _ (owners : List ℕ) (x : ℕ) where
  pub owner-is : length owners ≡ 16384 → get_or owners x 0 ≡ owner_at owners x
  unfolding owner_at
  owner-is e = by_less x 16384 (λ h. rw (lt-ltb x 16384 h)) (λ h. rw (le-ltb x 16384 h) (get_or-past owners x 0 (omega arith)))

  module _ (t : ℕ) where
    pub entry-goes-on : starts_at owners x t ≡ true → owner_at owners x ≡ entry_of owners x t
    unfolding entry_of
    entry-goes-on h = sym (pick_true _ _ _ h)

    pub entry-ends : starts_at owners x t ≡ false → (t + 1) * 65536 + x ≡ entry_of owners x t
    unfolding entry_of
    entry-ends h = sym (pick-false _ _ _ h)

-- ---- one row laid over the others

module _ (size : ℕ → ℕ) (blank : List ℕ) where
  owners-length : (l : List ℕ) → length (owners_of size l blank) ≡ length blank
  unfolding owners_of
  owners-length [] = refl
  owners-length (p ∷ []) = refl
  owners-length (p ∷ t ∷ rest) = length-set (owners_of size rest blank) p _ ∙ owners-length rest

  at_row : (p t : ℕ) (rest : List ℕ) → length blank ≡ 16384 → p < 16384
      → owner_at (owners_of size (p ∷ t ∷ rest) blank) p ≡ entry_of (owners_of size rest blank) (p + size t) t
  unfolding owners_of owner_at
  at_row p t rest e h = rw (lt-ltb p 16384 h) (get_or-set_same (owners_of size rest blank) p _ 0 (omega (arith, owners-length rest)))

  off-row : (p t : ℕ) (rest : List ℕ) (x : ℕ) → (x ≡ p → ⊥)
      → owner_at (owners_of size (p ∷ t ∷ rest) blank) x ≡ owner_at (owners_of size rest blank) x
  unfolding owners_of owner_at
  off-row p t rest x d = rw (get_or-set_other (owners_of size rest blank) p x (entry_of (owners_of size rest blank) (p + size t) t) 0 d)

module _ (𝒯 : Tables) (top : ℕ) (high : top ≤ 16384) (positive : (t : ℕ) → t < 𝒯.count → 1 ≤ 𝒯.size t)
    (blank : List ℕ) (long : length blank ≡ 16384) (clear : (x : ℕ) → get_or blank x 0 ≡ 0) where
  abbrev filled : List ℕ → List ℕ
  filled l = owners_of 𝒯.size l blank

  nothing : (x t : ℕ) → starts_at blank x t ≡ false
  unfolding starts_at owner_at
  nothing x t = by_test (ltb x 16384) (λ l. rw (l, clear x) (no-type t)) (λ l. rw l (no-type t))

  -- a list that passed Q19 as the rows from row r on, none of which starts below low
  record Passing (l : List ℕ) (r low : ℕ) : Type 0 where
    asked : rows_ask 𝒯 top l r low ≡ ok tt

  -- with a row at its head
  module _ {p u : ℕ} {rest : List ℕ} {r low : ℕ} (q : Passing (p ∷ u ∷ rest) r low) where
    row-head : Row 𝒯 top low p u
    unfolding is_allocated
    row-head = rows-laid 𝒯 top (p ∷ u ∷ rest) r low p u q.asked (true-or _ _ (true-and _ _ (eq-eqb p p refl) (eq-eqb u u refl)))

    row-size : 1 ≤ 𝒯.size u
    row-size = positive u row-head.exists

    rows-after : Passing rest (suc r) (p + 𝒯.size u)
    unfolding rows_ask
    rows-after = record { asked = (ask-ok _ _ _ q.asked).1 }

    -- the records of the rest start at the end of this one, or beyond it
    beyond : (x t : ℕ) → is_allocated rest x t ≡ true → p + 𝒯.size u ≤ x
    beyond x t a = (rows-laid 𝒯 top rest (suc r) (p + 𝒯.size u) x t rows-after.asked a).above

    not-again : (x t : ℕ) → x ≤ p → is_allocated rest x t ≡ false
    not-again x t h = by_test (is_allocated rest x t) (λ a. absurd (omega (arith, beyond x t a, row-size))) (λ a. a)

    allocated-here : (t : ℕ) → is_allocated (p ∷ u ∷ rest) p t ≡ eqb u t
    unfolding is_allocated ◌and◌ ◌or◌
    allocated-here t = rw (eq-eqb p p refl, not-again p t (omega arith)) (by_test (eqb u t) (λ e. rw e) (λ e. rw e))

    allocated-there : (x t : ℕ) → (x ≡ p → ⊥) → is_allocated (p ∷ u ∷ rest) x t ≡ is_allocated rest x t
    unfolding is_allocated ◌and◌ ◌or◌
    allocated-there x t d = rw (ne_eqb p x (λ e. d (sym e)))

    -- the record at p is of the type of this row
    head-type : (x t : ℕ) → x ≡ p → is_allocated (p ∷ u ∷ rest) x t ≡ true → t ≡ u
    head-type x t e a = sym (eqb-true u t (sym (allocated-here t) ∙ (rw e at a)))

    here : owner_at (filled (p ∷ u ∷ rest)) p ≡ entry_of (filled rest) (p + 𝒯.size u) u
    here = at_row 𝒯.size blank p u rest long (omega (arith, row-head.inside, row-size))

    there : (x : ℕ) → (x ≡ p → ⊥) → owner_at (filled (p ∷ u ∷ rest)) x ≡ owner_at (filled rest) x
    there x d = off-row 𝒯.size blank p u rest x d

    here-type : owner_at (filled (p ∷ u ∷ rest)) p / 65536 ≡ u + 1
    unfolding entry_of starts_at
    here-type = ap (λ (n : ℕ). n / 65536) here
        ∙ by_test (starts_at (filled rest) (p + 𝒯.size u) u) (λ e. rw e (eqb-true _ _ e))
        (λ e. rw e (entry-type u (p + 𝒯.size u) (omega (arith, row-head.inside))))

    -- the run from here, by what stands at the end of this record
    module _ (are : (x t : ℕ) → is_allocated rest x t ≡ starts_at (filled rest) x t) where
      end-apart : p + 𝒯.size u ≡ p → ⊥
      end-apart e = omega (arith, row-size)

      here-ends : owner_at (filled (p ∷ u ∷ rest)) p
          ≡ pick (is_allocated (p ∷ u ∷ rest) (p + 𝒯.size u) u) (owner_at (filled (p ∷ u ∷ rest)) (p + 𝒯.size u)) ((u + 1) * 65536 + (p + 𝒯.size u))
      unfolding entry_of
      here-ends = here ∙ pick_same _ _ _ _ _ (sym (allocated-there (p + 𝒯.size u) u end-apart ∙ are (p + 𝒯.size u) u)) (sym (there (p + 𝒯.size u) end-apart))

      here-reaches : (is_allocated rest (p + 𝒯.size u) u ≡ true → p + 𝒯.size u + 𝒯.size u ≤ owner_at (filled rest) (p + 𝒯.size u) % 65536)
          → p + 𝒯.size u ≤ owner_at (filled (p ∷ u ∷ rest)) p % 65536
      unfolding entry_of
      here-reaches h =
          by_test (starts_at (filled rest) (p + 𝒯.size u) u)
          (λ e. let k : owner_at (filled (p ∷ u ∷ rest)) p ≡ owner_at (filled rest) (p + 𝒯.size u) = here ∙ pick_true _ _ _ e in
          rw k (omega (arith, h (are (p + 𝒯.size u) u ∙ e))))
          (λ e. let k : owner_at (filled (p ∷ u ∷ rest)) p ≡ (u + 1) * 65536 + (p + 𝒯.size u) = here ∙ pick-false _ _ _ e in
          rw k (omega (arith, entry-end u (p + 𝒯.size u) (omega (arith, row-head.inside)))))

  nobody : (x t : ℕ) → is_allocated [] x t ≡ true → ⊥
  unfolding is_allocated
  nobody x t a = false≢true a

  nobody-half : (p x t : ℕ) → is_allocated (p ∷ []) x t ≡ true → ⊥
  unfolding is_allocated
  nobody-half p x t a = false≢true a

  starts-are : (l : List ℕ) {r low : ℕ} → Passing l r low → (x t : ℕ) → is_allocated l x t ≡ starts_at (filled l) x t
  unfolding is_allocated owners_of starts_at
  starts-are [] q x t = sym (nothing x t)
  starts-are (p ∷ []) q x t = sym (nothing x t)
  starts-are (p ∷ u ∷ rest) q x t =
      by_equality x p
      (λ e. rw e (allocated-here q t ∙ eqb-more u t ∙ ap (λ (n : ℕ). eqb n (t + 1)) (sym (here-type q))))
      (λ d. allocated-there q x t d ∙ starts-are rest (rows-after q) x t ∙ ap (λ (n : ℕ). eqb (n / 65536) (t + 1)) (sym (there q x d)))

  ends-are : (l : List ℕ) {r low : ℕ} → Passing l r low → (x t : ℕ) → is_allocated l x t ≡ true
      → owner_at (filled l) x ≡ pick (is_allocated l (x + 𝒯.size t) t) (owner_at (filled l) (x + 𝒯.size t)) ((t + 1) * 65536 + (x + 𝒯.size t))
  ends-are [] q x t a = absurd (nobody x t a)
  ends-are (p ∷ []) q x t a = absurd (nobody-half p x t a)
  ends-are (p ∷ u ∷ rest) q x t a =
      by_equality x p
      (λ e. rw (head-type q x t e a, e) (here-ends q (starts-are rest (rows-after q))))
      (λ d. let b = sym (allocated-there q x t d) ∙ a in
      let n : x + 𝒯.size t ≡ p → ⊥ = λ e. omega (arith, beyond q x t b, row-size q) in
      there q x d ∙ ends-are rest (rows-after q) x t b
      ∙ pick_same _ _ _ _ _ (sym (allocated-there q (x + 𝒯.size t) t n)) (sym (there q (x + 𝒯.size t) n)))

  reaches-are : (l : List ℕ) {r low : ℕ} → Passing l r low → (x t : ℕ) → is_allocated l x t ≡ true → x + 𝒯.size t ≤ owner_at (filled l) x % 65536
  reaches-are [] q x t a = absurd (nobody x t a)
  reaches-are (p ∷ []) q x t a = absurd (nobody-half p x t a)
  reaches-are (p ∷ u ∷ rest) q x t a =
      by_equality x p
      (λ e. rw (head-type q x t e a, e) (here-reaches q (starts-are rest (rows-after q)) (λ b. reaches-are rest (rows-after q) (p + 𝒯.size u) u b)))
      (λ d. rw (there q x d) (reaches-are rest (rows-after q) x t (sym (allocated-there q x t d) ∙ a)))

  -- the table of a passed list of allocations
  pub owned : (l owners : List ℕ) → rows_ask 𝒯 top l 0 1 ≡ ok tt → owners ≡ owners_of 𝒯.size l blank → Owned 𝒯 l owners
  owned l owners o e =
      let q : Passing l 0 1 = record { asked = o } in
      rw e (record {
        starts = starts-are l q;
        reaches = reaches-are l q;
        goes_on = λ x t a b. ends-are l q x t a ∙ pick_true _ _ _ b;
        ends = λ x t a b. ap (λ (n : ℕ). n % 65536) (ends-are l q x t a ∙ pick-false _ _ _ b)
            ∙ entry-end t (x + 𝒯.size t) (omega (arith, (rows-laid 𝒯 top l 0 1 x t o a).inside));
      })

-- ---- the rows as a loop lays them, the last first

-- the table holds the rows from row k on, over what it held before
pub record LaidFrom (size : ℕ → ℕ) (allocations blank owners : List ℕ) (k : ℕ) : Type 0 where
  pub table : owners ≡ owners_of size (drop (k * 2) allocations) blank
  pub within : k ≤ length allocations / 2

-- past the last row nothing is laid
pub laid_none : (size : ℕ → ℕ) (allocations blank : List ℕ) → length allocations % 2 ≡ 0 → LaidFrom size allocations blank blank (length allocations / 2)
unfolding owners_of
laid_none size allocations blank h =
    let past : length allocations ≤ length allocations / 2 * 2 = omega arith in
    record { table = rw (drop_of_length-le allocations past); within = omega arith }

module _ {size : ℕ → ℕ} {allocations blank owners : List ℕ} {n : ℕ} (L : LaidFrom size allocations blank owners n) where
  pub laid-row : {k p t : ℕ} → RowAt allocations k p t → n ≡ k + 1 → (z e : ℕ) → z ≡ size t → e ≡ entry_of owners (p + z) t
      → LaidFrom size allocations blank (set owners p e) k
  unfolding owners_of
  laid-row R en z e ez ee = record { table = rw (rows-from R, ← en, ← L.table, ← ez, ← ee); within = omega (arith, L.within) }

  pub laid-all : n ≡ 0 → owners ≡ owners_of size allocations blank
  laid-all z = rw z at L.table

-- a row of allocations that can be laid, by its start and type
pub row-can-be-laid : {types allocations : List ℕ} {k p t : ℕ} → CanBeLaid types allocations → RowAt allocations k p t → RowCanBeLaid types p t
row-can-be-laid {k = k} C R = rw (R.start, R.typed) (C.each k R.whole)
