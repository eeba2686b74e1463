-- The entry of a block, and its edges: where they meet the next block's annotation, the registers do.
use mathlib.Core.Path.{◌≡◌, refl, sym, ap, ◌∙◌}
use mathlib.Core.Bool.{true, false≢true}
use mathlib.Core.List.{List, map}
use Prim.Native.Nat.{ℕ, zero, suc, ◌+◌, ◌^◌, ◌≤◌, ◌<◌}
use native.Mathlib.Omega.{arith}
use native.Mathlib.Nat.{zero-add}
use lib.Dec.{ltb, eqb}
use lib.ListN.{length, get_or, length-map}
use lib.Seq.{ext_get_or}
use borrow.Author.Tests.{eqb-true, eqb-false, ltb-true, ltb-false}
use Rattle.model.specs.Question.{◌and◌, pick, Question, Refusal, ok}
use Rattle.model.specs.Word.{kind_of, record_of, first_of, second_of, with_kind}
use Rattle.model.specs.Types.{Dep, name, Ty, dep_of, of_kind, type_of, word_of, rename, rename_dep}
use Rattle.model.specs.Table.{Tables, Routine}
use Rattle.model.specs.Meaning.{Allocation, RecordMeets, RegistersMeet}
use Rattle.model.specs.Machine.{End, halt, jump, if_equal, if_less, reg, Next, stop, enter, next, targets_exist}
use Rattle.model.specs.Values.{Values, birthplace, typed, known_equal}
use Rattle.model.specs.Reading.{Reading, up_from, entry, learned, rekinded, not_zero, below, not_below, taken, untaken}
use Rattle.model.specs.Check.{value_in, edge_meets, read_edges}
use Rattle.model.proofs.Logic.{by_test, by_less, either, and-true, ask-ok}
use Rattle.model.proofs.Lists.{set-every, get_or-mapped, get_or-past, zeros-at, up_from-at, length-up_from}
use Rattle.model.proofs.RulesDecide.{equal-known}
use Rattle.model.proofs.Tidy.{Tidy, entry-word}
use Rattle.model.proofs.Mean.{kinded, TyBelow, Mean, mean, mean-rename}
use Rattle.model.proofs.Lawful.{Lawful, Tabled}
use Rattle.model.proofs.TableLaws.{Annotated}
use Rattle.model.proofs.Decode.{EndFine}
use Rattle.model.proofs.Invariant.{ValuesOk, Kept, Invariant}
use Rattle.model.proofs.FitsSound.{equal-sound, row-sound}
use Rattle.model.proofs.StepSound.{reg-is}

module _ (𝒯 : Tables) (Is : Allocation) where
  -- the registers can go on from block b
  pub record Stands (P : Routine) (b : ℕ) (r : List ℕ) : Type 0 where
    pub exists : b < P.count
    pub eight : length r ≡ 8
    pub meets : RegistersMeet 𝒯 Is (P.annotation b) r

  -- memory is in type
  pub record MemoryFit (memory₀ m : List ℕ) : Type 0 where
    pub records : (p t : ℕ) → Is p t → RecordMeets 𝒯 Is m p t
    pub kept : Kept 𝒯 Is memory₀ m

  abbrev pub Went : Routine → List ℕ → Next → Type 0
  Went P r stop = Unit {0}
  Went P r (enter t) = Stands P t r

module _ (𝒯 : Tables) (Is : Allocation) (memory₀ : List ℕ) (narrow : length memory₀ < 2 ^ 32) (law : Lawful 𝒯 Is (length memory₀))
    (tab : Tabled 𝒯 Is) (ρ : ℕ → ℕ) where
  -- ---- entry

  pub entry-ok : (annotation r m : List ℕ) → length annotation ≤ 8 → ((i : ℕ) → i < 8 → TyBelow 8 (type_of (get_or annotation i 0)))
      → ((i : ℕ) → i < 8 → ρ i ≡ get_or r i 0)
      → length r ≡ 8 → RegistersMeet 𝒯 Is annotation r → MemoryFit 𝒯 Is memory₀ m → Invariant 𝒯 Is memory₀ ρ (entry annotation) r m
  unfolding entry typed
  entry-ok annotation r m h b same' e R M =
      record {
        values = record {
          types = λ v. rw (entry-word annotation v h, zeros-at 32 (birthplace v))
              (by_less v 8
              (λ l. mean-rename 𝒯 Is 8 (type_of (get_or annotation v 0)) (λ x. 0 + x) ρ (λ q. get_or r q 0) (ρ v) (b v l) (λ g k. rw (zero-add g) (same' g k))
              (rw (same' v l) (mean 𝒯 Is (type_of (get_or annotation v 0)) (λ q. get_or r q 0) (get_or r v 0) (R v l))))
              (λ l. rw (get_or-past annotation v 0 (omega arith)) (unfold rename type_of in tt)));
          constants = λ v c q. absurd (let z = zeros-at 32 (birthplace v) in omega arith);
          tested = λ c q. absurd (omega arith);
        };
        regs = ext_get_or 0 r (map ρ (up_from 0 8)) (rw (length-map, length-up_from) e) (λ i l.
            let k : i < 8 = omega arith in
            sym (get_or-mapped ρ (up_from 0 8) i 0 0 (rw (length-up_from 0 8) k) ∙ ap ρ (up_from-at 0 8 i k ∙ zero-add i) ∙ same' i k));
        shut = λ z. record { records = M.records; seen = λ v l. absurd (let z = zeros-at 256 v in omega arith) };
        opened = λ z. absurd (false≢true z);
        kept = M.kept;
      }

  -- ---- what an edge tells

  learned-ok : (vs : Values) (v c : ℕ) → ValuesOk 𝒯 Is ρ vs → ρ v ≡ c → ValuesOk 𝒯 Is ρ (learned vs v c)
  unfolding typed
  learned-ok vs v c H e = record { types = H.types; constants = H.constants; tested = λ k q. e ∙ omega arith }

  -- the frame of a value
  abbrev frame : Values → ℕ → ℕ → ℕ
  frame vs v x = get_or vs.frames (birthplace v) 0 + x

  abbrev word_at : Values → ℕ → ℕ
  word_at vs v = get_or vs.words v 0

  -- the type of v, with kind k
  abbrev with_rank : Values → ℕ → ℕ → Ty
  with_rank vs v k = rename (frame vs v) (of_kind k (record_of (word_at vs v)) (dep_of (first_of (word_at vs v))) (dep_of (second_of (word_at vs v))))

  rekinded-ok : (vs : Values) (v k : ℕ) → k ≤ 8 → ValuesOk 𝒯 Is ρ vs → Mean 𝒯 Is (with_rank vs v k) ρ (ρ v) → ValuesOk 𝒯 Is ρ (rekinded vs v k)
  unfolding typed
  rekinded-ok vs v k small H M =
      record {
        types =
            set-every (λ j x. Mean 𝒯 Is (rename (frame vs j) (type_of x)) ρ (ρ j)) vs.words v (with_kind k (word_at vs v)) 0 H.types
            (rw (kinded k (word_at vs v) small) M);
        constants = H.constants;
        tested = H.tested;
      }

  -- a value's type is that of its own kind
  own-kind : (vs : Values) (v : ℕ) → typed vs v ≡ with_rank vs v (kind_of (word_at vs v))
  unfolding typed type_of
  own-kind vs v = refl

  -- each refinement, by the kind of the value: the same values, or one of another kind
  not_zero-kind : (vs : Values) (v k : ℕ) → ValuesOk 𝒯 Is ρ vs → (ρ v ≡ 0 → ⊥) → Mean 𝒯 Is (with_rank vs v k) ρ (ρ v)
      → ValuesOk 𝒯 Is ρ (not_zero vs v (with_rank vs v k))
  unfolding rename not_zero
  not_zero-kind vs v zero H n m = H
  not_zero-kind vs v (suc zero) H n m = H
  not_zero-kind vs v (suc (suc zero)) H n m = rekinded-ok vs v 1 (omega arith) H (either m (λ z. absurd (n z)) (λ a. a))
  not_zero-kind vs v (suc (suc (suc zero))) H n m = rekinded-ok vs v 4 (omega arith) H (either m (λ z. absurd (n z)) (λ a. a), n)
  not_zero-kind vs v (suc (suc (suc (suc zero)))) H n m = H
  not_zero-kind vs v (suc (suc (suc (suc (suc zero))))) H n m = H
  not_zero-kind vs v (suc (suc (suc (suc (suc (suc k)))))) H n m = H

  not_zero-ok : (vs : Values) (v : ℕ) → ValuesOk 𝒯 Is ρ vs → (ρ v ≡ 0 → ⊥) → ValuesOk 𝒯 Is ρ (not_zero vs v (typed vs v))
  not_zero-ok vs v H n = rw (own-kind vs v) (not_zero-kind vs v (kind_of (word_at vs v)) H n (rw (own-kind vs v) at (H.types v)))

  known-word : (vs : Values) (w : ℕ) (d : Dep) → ValuesOk 𝒯 Is ρ vs → known_equal vs (name w) d ≡ true → ρ w ≡ word_of ρ d
  known-word vs w d H e = equal-sound 𝒯 Is (length memory₀) narrow law tab ρ vs H (name w) d (equal-known 𝒯 vs (name w) d e)

  below-kind : (vs : Values) (v w k : ℕ) → ValuesOk 𝒯 Is ρ vs → ρ v < ρ w → Mean 𝒯 Is (with_rank vs v k) ρ (ρ v)
      → ValuesOk 𝒯 Is ρ (below vs v w (with_rank vs v k))
  unfolding rename below
  below-kind vs v w zero H l m = H
  below-kind vs v w (suc zero) H l m = H
  below-kind vs v w (suc (suc zero)) H l m = H
  below-kind vs v w (suc (suc (suc zero))) H l m = H
  below-kind vs v w (suc (suc (suc (suc zero)))) H l m = H
  below-kind vs v w (suc (suc (suc (suc (suc zero))))) H l m = H
  below-kind vs v w (suc (suc (suc (suc (suc (suc k)))))) H l m =
      by_test (eqb k 1 and known_equal vs (name w) (rename_dep (frame vs v) (dep_of (second_of (word_at vs v)))))
      (λ q. let (one, e) = and-true _ _ q in
      let r : word_of ρ (rename_dep (frame vs v) (dep_of (first_of (word_at vs v)))) ≤ ρ v = rw (eqb-true k 1 one) at m.1 in
      rw q (rekinded-ok vs v 8 (omega arith) H (m.0, (r, rw (← known-word vs w _ H e) l))))
      (λ q. rw q H)

  below-ok : (vs : Values) (v w : ℕ) → ValuesOk 𝒯 Is ρ vs → ρ v < ρ w → ValuesOk 𝒯 Is ρ (below vs v w (typed vs v))
  below-ok vs v w H l = rw (own-kind vs v) (below-kind vs v w (kind_of (word_at vs v)) H l (rw (own-kind vs v) at (H.types v)))

  not_below-kind : (vs : Values) (v w k : ℕ) → ValuesOk 𝒯 Is ρ vs → ρ w ≤ ρ v → Mean 𝒯 Is (with_rank vs v k) ρ (ρ v)
      → ValuesOk 𝒯 Is ρ (not_below vs v w (with_rank vs v k))
  unfolding rename not_below
  not_below-kind vs v w zero H l m = H
  not_below-kind vs v w (suc zero) H l m = H
  not_below-kind vs v w (suc (suc zero)) H l m = H
  not_below-kind vs v w (suc (suc (suc zero))) H l m = H
  not_below-kind vs v w (suc (suc (suc (suc zero)))) H l m = H
  not_below-kind vs v w (suc (suc (suc (suc (suc zero))))) H l m = H
  not_below-kind vs v w (suc (suc (suc (suc (suc (suc k)))))) H l m =
      by_test (eqb k 0 and known_equal vs (name w) (rename_dep (frame vs v) (dep_of (first_of (word_at vs v)))))
      (λ q. let (one, e) = and-true _ _ q in rw q (rekinded-ok vs v 7 (omega arith) H (m.0, rw (← known-word vs w _ H e) l)))
      (λ q. rw q H)

  not_below-ok : (vs : Values) (v w : ℕ) → ValuesOk 𝒯 Is ρ vs → ρ w ≤ ρ v → ValuesOk 𝒯 Is ρ (not_below vs v w (typed vs v))
  not_below-ok vs v w H l = rw (own-kind vs v) (not_below-kind vs v w (kind_of (word_at vs v)) H l (rw (own-kind vs v) at (H.types v)))

  -- ---- a block's end

  module _ (P : Routine) (A : Annotated P) where
    edge-ok : (st : Reading) (r m : List ℕ) (g : ℕ) (vs : Values) (b : ℕ) → Invariant 𝒯 Is memory₀ ρ st r m → Tidy st g → ValuesOk 𝒯 Is ρ vs → b < P.count
        → edge_meets 𝒯 P st vs b ≡ true → Stands 𝒯 Is P b r
    edge-ok st r m g vs b I T H l e =
        record {
          exists = l;
          eight = rw (I.regs, length-map) T.eight;
          meets = row-sound 𝒯 Is (length memory₀) narrow law tab ρ vs H 8 (P.annotation b) st.registers (λ q. get_or r q 0) (λ i h. A.names b i l h)
              (λ i h. sym (reg-is 𝒯 Is memory₀ narrow law tab ρ st r m g I T i h)) e;
        }

    pub edges-ok : (place : Question → Refusal) (st : Reading) (r m : List ℕ) (g b : ℕ) (e : End) → EndFine e → Invariant 𝒯 Is memory₀ ρ st r m → Tidy st g
        → targets_exist P.count b e ≡ true → read_edges 𝒯 P place (suc b) e st ≡ ok tt → Went 𝒯 Is P r (next e b r)
    unfolding next targets_exist read_edges taken untaken
    edges-ok place st r m g b halt f I T t q = tt
    edges-ok place st r m g b (jump c) f I T t q = edge-ok st r m g st.values c I T I.values (ltb-true _ _ t) (ask-ok _ _ _ q).0
    edges-ok place st r m g b (if_equal x k c) f I T t q =
        let (t₁, t₂) = and-true _ _ t in
        let (y₁, q₁) = ask-ok _ _ _ q in
        let (y₂, q₂) = ask-ok _ _ _ q₁ in
        let is : reg r x ≡ ρ (value_in st x) = reg-is 𝒯 Is memory₀ narrow law tab ρ st r m g I T x f in
        by_test (eqb (reg r x) k)
        (λ p. rw p (edge-ok st r m g _ c I T (learned-ok st.values (value_in st x) k I.values (sym is ∙ eqb-true _ _ p)) (ltb-true _ _ t₁) y₁))
        (λ p. rw p (edge-ok st r m g _ (suc b) I T (nonzero-values k (value_in st x) (λ z. eqb-false _ _ p (is ∙ z))) (ltb-true _ _ t₂) y₂))
      where
        nonzero-values : (k v : ℕ) → (ρ v ≡ k → ⊥) → ValuesOk 𝒯 Is ρ (pick (eqb k 0) (not_zero st.values v (typed st.values v)) st.values)
        nonzero-values k v n =
            by_test (eqb k 0) (λ p. rw p (not_zero-ok st.values v I.values (λ z. n (z ∙ sym (eqb-true k 0 p))))) (λ p. rw p I.values)
    edges-ok place st r m g b (if_less x y c) f I T t q =
        let (t₁, t₂) = and-true _ _ t in
        let (y₁, q₁) = ask-ok _ _ _ q in
        let (y₂, q₂) = ask-ok _ _ _ q₁ in
        let ix : reg r x ≡ ρ (value_in st x) = reg-is 𝒯 Is memory₀ narrow law tab ρ st r m g I T x f.0 in
        let iy : reg r y ≡ ρ (value_in st y) = reg-is 𝒯 Is memory₀ narrow law tab ρ st r m g I T y f.1 in
        by_test (ltb (reg r x) (reg r y))
        (λ p. let H = below-ok st.values (value_in st x) (value_in st y) I.values (rw (ix, iy) at (ltb-true (reg r x) (reg r y) p)) in
        rw p (edge-ok st r m g _ c I T H (ltb-true _ _ t₁) y₁))
        (λ p. let H = not_below-ok st.values (value_in st x) (value_in st y) I.values (rw (ix, iy) at (ltb-false (reg r x) (reg r y) p)) in
        rw p (edge-ok st r m g _ (suc b) I T H (ltb-true _ _ t₂) y₂))
