-- What passed table questions say: sizes, names, block lengths, and the laws of a list of allocations.
use mathlib.Core.Path.{◌≡◌, refl, sym, ap, ◌∙◌}
use mathlib.Core.Logic.{◌⊎◌, inl, inr}
use mathlib.Core.Bool.{true, false≢true}
use mathlib.Core.List.{List, [], ◌∷◌}
use Prim.Native.Nat.{ℕ, zero, suc, ◌+◌, ◌*◌, ◌%◌, ◌≤◌, ◌<◌}
use native.Mathlib.Omega.{arith}
use lib.Dec.{ltb, leb, eqb}
use lib.ListN.{length, get_or, take, drop, length-take, length-drop}
use borrow.Author.Tests.{ltb-true, leb-true, le-leb, eqb-true, le-ltb, lt-ltb}
use Rattle.model.specs.Question.{◌and◌, pick, ok}
use Rattle.model.specs.Word.{kind_of, record_of, first_of, second_of}
use Rattle.model.specs.Types.{dep_of, of_kind, type_of}
use Rattle.model.specs.Table.{Tables, field_of, start_of, routine_of, uses_first, uses_second, dependency, well_made, count_ask, field_well, fields_ask}
use Rattle.model.specs.Table.{types_ask, blocks_ask, lengths_ask, annotation_well, annotation_ask, annotations_ask, memory_length_ask, Code, head_of}
use Rattle.model.specs.Table.{types_questions, tables_of, Routine, type_lengths_ask, rows, row_of}
use Rattle.model.specs.Allocation.{is_allocated, Allocated, laid, rows_ask, allocations_ask}
use Rattle.model.proofs.Logic.{by_test, by_equality, by_less, either, and-true, or-true, every_true, ask-ok, first_no-ok, all-passed}
use Rattle.model.proofs.Lists.{get_or-past}
use Rattle.model.proofs.Rows.{eight-words}
use Rattle.model.proofs.Mean.{DepBelow, TyBelow}
use Rattle.model.proofs.Lawful.{Lawful, Tabled}

-- ---- what passed table questions leave

-- the types, as Q2 and Q3 leave them
pub record TypesOk (𝒯 : Tables) : Type 0 where
  pub positive : (t : ℕ) → t < 𝒯.count → 1 ≤ 𝒯.size t
  pub small : (t : ℕ) → t < 𝒯.count → 𝒯.size t ≤ 8
  pub names : (t f : ℕ) → t < 𝒯.count → f < 𝒯.size t → TyBelow (𝒯.size t) (field_of 𝒯 t f)
  pub past : (t f : ℕ) → t < 𝒯.count → f < 8 → 𝒯.size t ≤ f → get_or (𝒯.words t) f 0 ≡ 0

-- the lengths of blocks, as Q5 leaves them
pub record Sized (P : Routine) : Type 0 where
  pub least : (b : ℕ) → b < P.count → 1 ≤ P.long b
  pub most : (b : ℕ) → b < P.count → P.long b ≤ 32
  pub inside : (b : ℕ) → b < P.count → P.start b + P.long b ≤ P.total

-- a routine whose annotations are well made
pub record Annotated (P : Routine) : Type 0 where
  pub names : (b i : ℕ) → b < P.count → i < 8 → TyBelow 8 (type_of (get_or (P.annotation b) i 0))
  pub eight : (b : ℕ) → length (P.annotation b) ≤ 8

-- ---- Q3 and Q6: well-made words name fields that exist

dep-below : (n x : ℕ) → dependency n x ≡ true → DepBelow n (dep_of x)
dep-below n x q =
    by_test (ltb x 8)
    (λ l. rw l (either (or-true _ _ q) (λ a. ltb-true x n a) (λ a. absurd (omega (arith, ltb-true x 8 l, leb-true 8 x a)))))
    (λ l. rw l tt)

kind-below : (n k t x y : ℕ) → pick (uses_first k) (dependency n x) (eqb x 0) ≡ true → pick (uses_second k) (dependency n y) (eqb y 0) ≡ true
    → TyBelow n (of_kind k t (dep_of x) (dep_of y))
kind-below n zero t x y a b = tt
kind-below n (suc zero) t x y a b = tt
kind-below n (suc (suc zero)) t x y a b = tt
kind-below n (suc (suc (suc zero))) t x y a b = dep-below n x a
kind-below n (suc (suc (suc (suc zero)))) t x y a b = dep-below n x a
kind-below n (suc (suc (suc (suc (suc zero))))) t x y a b = dep-below n x a
kind-below n (suc (suc (suc (suc (suc (suc k)))))) t x y a b =
    let kind : ℕ = suc (suc (suc (suc (suc (suc k))))) in
    (dep-below n x (rw (le-leb 3 kind (omega arith)) at a), dep-below n y (rw (le-leb 6 kind (omega arith)) at b))

pub well-below : (count n w : ℕ) → well_made count n w ≡ true → TyBelow n (type_of w)
unfolding well_made type_of
well-below count n w q =
    let (k, q₁) = and-true _ _ q in
    let (r, q₂) = and-true _ _ q₁ in
    let (d, e) = and-true _ _ q₂ in
    kind-below n (kind_of w) (record_of w) (first_of w) (second_of w) d e

pub annotated : (count : ℕ) (C : Code) → annotations_ask count C.blocks ≡ ok tt → Annotated (routine_of C)
unfolding annotations_ask annotation_ask annotation_well routine_of
annotated count C q =
    record {
      names =
          λ b i h l. well-below count 8 _
          (and-true _ _ (every_true 8 0 _ (ask-ok _ _ _ (first_no-ok _ 0 _ q b (omega arith) (omega arith))).0 i (omega arith) (omega arith))).1;
      eight = λ b. eight-words C.blocks b;
    }

-- ---- Q2 and Q3

pub types-ok : (types tags : List ℕ) → types_ask types tags ≡ ok tt → TypesOk (tables_of types tags)
unfolding types_ask count_ask fields_ask field_well tables_of
types-ok types tags q =
    let 𝒯 = tables_of types tags in
    let (c, (w, k)) = all-passed (types_questions types tags) q in
    let count : (t : ℕ) → t < 𝒯.count → leb 1 (𝒯.size t) and leb (𝒯.size t) 8 ≡ true =
    λ t h. (ask-ok _ _ _ (first_no-ok _ 0 _ c t (omega arith) (omega arith))).0 in
    let word : (t f : ℕ) → t < 𝒯.count → f < 8
    → pick (ltb f (𝒯.size t)) (well_made 𝒯.count (𝒯.size t) (get_or (𝒯.words t) f 0)) (eqb (get_or (𝒯.words t) f 0) 0) ≡ true =
    λ t f h l. every_true 8 0 _ (ask-ok _ _ _ (first_no-ok _ 0 _ w t (omega arith) (omega arith))).0 f (omega arith) (omega arith) in
    let few : (t : ℕ) → t < 𝒯.count → 𝒯.size t ≤ 8 = λ t h. leb-true _ _ (and-true _ _ (count t h)).1 in
    record {
      positive = λ t h. leb-true _ _ (and-true _ _ (count t h)).0;
      small = few;
      names = λ t f h l. well-below 𝒯.count (𝒯.size t) _ (rw (lt-ltb f (𝒯.size t) l) at (word t f h (omega (arith, few t h))));
      past = λ t f h k l. eqb-true _ 0 (rw (le-ltb f (𝒯.size t) l) at (word t f h k));
    }

-- ---- Q1 and Q2: a row that does not exist has no fields

pub sizes-eight : (types tags : List ℕ) → type_lengths_ask (length types) (length tags) ≡ ok tt → types_ask types tags ≡ ok tt
    → (t : ℕ) → (tables_of types tags).size t ≤ 8
unfolding type_lengths_ask tables_of row_of
sizes-eight types tags q ok₂ t =
    by_less t (rows types) (λ h. (types-ok types tags ok₂).small t h)
    (λ h. let whole : length types % 9 ≡ 0 = eqb-true _ _ (and-true _ _ (ask-ok _ _ _ q).0).0 in
    let taken = length-take 9 (drop (t * 9) types) in
    let dropped = length-drop (t * 9) types in
    rw (get_or-past (take 9 (drop (t * 9) types)) 0 0 (omega arith)) (omega arith))

-- ---- Q5

sized_on : (blocks : List ℕ) (total n b i : ℕ) → i ≡ start_of blocks b → blocks_ask blocks total n b i ≡ ok tt → (j : ℕ) → b ≤ j → j < b + n
    → (1 ≤ head_of blocks j) × (head_of blocks j ≤ 32) × (start_of blocks j + head_of blocks j ≤ total)
unfolding blocks_ask start_of
sized_on blocks total zero b i e q j lo hi = absurd (omega arith)
sized_on blocks total (suc n) b i e q j lo hi =
    let (h, q₁) = ask-ok _ _ _ q in
    let (h₁, h₂) = and-true _ _ h in
    let (h₃, h₄) = and-true _ _ h₂ in
    let a : 1 ≤ head_of blocks b = leb-true _ _ h₁ in
    let c : head_of blocks b ≤ 32 = leb-true _ _ h₃ in
    let d : start_of blocks b + head_of blocks b ≤ total = rw e at (leb-true (i + head_of blocks b) total h₄) in
    by_equality j b (λ s. rw s (a, c, d))
    (λ x. sized_on blocks total n (suc b) (i + head_of blocks b) (ap (λ (y : ℕ). y + head_of blocks b) e) q₁ j (omega arith) (omega arith))

pub sized : (C : Code) → lengths_ask C.blocks (length C.code) ≡ ok tt → Sized (routine_of C)
unfolding lengths_ask routine_of start_of
sized C q =
    let all = sized_on C.blocks (length C.code) _ 0 0 refl q in
    record {
      least = λ b h. (all b (omega arith) (omega arith)).0;
      most = λ b h. (all b (omega arith) (omega arith)).1;
      inside = λ b h. (all b (omega arith) (omega arith)).2;
    }

-- ---- Q17 and Q19

pub memory-length : (n : ℕ) → memory_length_ask n ≡ ok tt → (1 ≤ n) × (n ≤ 16384)
unfolding memory_length_ask
memory-length n q = let (a, b) = and-true _ _ (ask-ok _ _ _ q).0 in (leb-true _ _ a, leb-true _ _ b)

module _ (𝒯 : Tables) (top : ℕ) where
  pub record Row (low p t : ℕ) : Type 0 where
    pub above : low ≤ p
    pub inside : p + 𝒯.size t ≤ top
    pub exists : t < 𝒯.count

  row_laid : (low p t : ℕ) → laid 𝒯 top low p t ≡ true → Row low p t
  unfolding laid
  row_laid low p t q =
      let (a, q₁) = and-true _ _ q in
      let (b, c) = and-true _ _ q₁ in
      record { above = leb-true _ _ b; inside = leb-true _ _ c; exists = ltb-true _ _ a }

  same_row : (x y p t : ℕ) → eqb x p and eqb y t ≡ true → (x ≡ p) × (y ≡ t)
  same_row x y p t s = let (a, b) = and-true _ _ s in (eqb-true x p a, eqb-true y t b)

  -- each row of a passed list
  pub rows-laid : (l : List ℕ) (r low p t : ℕ) → rows_ask 𝒯 top l r low ≡ ok tt → is_allocated l p t ≡ true → Row low p t
  unfolding rows_ask is_allocated
  rows-laid [] r low p t q a = absurd (false≢true a)
  rows-laid (x ∷ []) r low p t q a = absurd (false≢true a)
  rows-laid (x ∷ y ∷ rest) r low p t q a =
      let (h, q₁) = ask-ok _ _ _ q in
      let R = row_laid low x y h in
      either (or-true _ _ a)
      (λ s. let (i, j) = same_row x y p t s in rw (← i, ← j) R)
      (λ s. let K = rows-laid rest (suc r) (x + 𝒯.size y) p t q₁ s in
      record { above = omega (arith, R.above, K.above); inside = K.inside; exists = K.exists })

  -- two rows are one, or one record ends before the other starts
  rows_apart : (l : List ℕ) (r low p t q u : ℕ) → rows_ask 𝒯 top l r low ≡ ok tt → is_allocated l p t ≡ true → is_allocated l q u ≡ true
      → ((p ≡ q) × (t ≡ u)) ⊎ ((p + 𝒯.size t ≤ q) ⊎ (q + 𝒯.size u ≤ p))
  unfolding rows_ask is_allocated
  rows_apart [] r low p t q u e a b = absurd (false≢true a)
  rows_apart (x ∷ []) r low p t q u e a b = absurd (false≢true a)
  rows_apart (x ∷ y ∷ rest) r low p t q u e a b =
      let (h, e') = ask-ok _ _ _ e in
      either (or-true _ _ a)
      (λ s. let (i, j) = same_row x y p t s in
      either (or-true _ _ b)
      (λ s'. let (i', j') = same_row x y q u s' in inl (sym i ∙ i', sym j ∙ j'))
      (λ s'. let K = rows-laid rest (suc r) (x + 𝒯.size y) q u e' s' in inr (inl (rw (i, j) at K.above))))
      (λ s. let K = rows-laid rest (suc r) (x + 𝒯.size y) p t e' s in
      either (or-true _ _ b)
      (λ s'. let (i', j') = same_row x y q u s' in inr (inr (rw (i', j') at K.above)))
      (λ s'. rows_apart rest (suc r) (x + 𝒯.size y) p t q u e' s s'))

  rows_of : (l : List ℕ) → allocations_ask 𝒯 top l ≡ ok tt → rows_ask 𝒯 top l 0 1 ≡ ok tt
  unfolding allocations_ask
  rows_of l q = (ask-ok _ _ _ q).1

  pub allocated-exists : (l : List ℕ) → allocations_ask 𝒯 top l ≡ ok tt → (p t : ℕ) → Allocated l p t → t < 𝒯.count
  allocated-exists l q p t a = (rows-laid l 0 1 p t (rows_of l q) a).exists

  -- a passed list of allocations has the two laws
  pub lawful : (l : List ℕ) → allocations_ask 𝒯 top l ≡ ok tt → Lawful 𝒯 (Allocated l) top
  lawful l q =
      let e = rows_of l q in
      record {
        start = λ p t a. (rows-laid l 0 1 p t e a).above;
        inside = λ p t a. (rows-laid l 0 1 p t e a).inside;
        apart = λ p t r u i j a b hi hj s.
            either (rows_apart l 0 1 p t r u e a b) (λ k. (k.0, k.1, let z = k.0 in omega arith))
            (λ k. absurd (either k (λ (x : p + 𝒯.size t ≤ r). omega arith) (λ (x : r + 𝒯.size u ≤ p). omega arith)));
      }

  pub tabled : (l : List ℕ) → allocations_ask 𝒯 top l ≡ ok tt → TypesOk 𝒯 → ((t : ℕ) → length (𝒯.words t) ≤ 8) → Tabled 𝒯 (Allocated l)
  tabled l q T w =
      let is = allocated-exists l q in
      record {
        positive = λ p t a. T.positive t (is p t a);
        small = λ p t a. T.small t (is p t a);
        names = λ p t f a h. T.names t f (is p t a) h;
        past = λ p t f a h. by_less f 8 (λ k. T.past t f (is p t a) k h) (λ k. get_or-past (𝒯.words t) f 0 (let z = w t in omega arith));
        eight = w;
      }
