-- The reading of Check decides what an edge tells.
use mathlib.Core.Path.{◌≡◌, refl, sym, ap, fun_ext, subst, ◌∙◌}
use mathlib.Core.Bool.{false, false≢true}
use Prim.Native.Nat.{ℕ, zero, suc, ◌+◌, ◌≤◌, ◌<◌}
use native.Mathlib.Omega.{arith}
use lib.Dec.{eqb}
use lib.ListN.{length, get_or}
use lib.Seq.{get_or-set_same, get_or-set_other}
use borrow.Author.Tests.{eqb-true, eq-eqb, ne_eqb}
use Rattle.model.specs.Question.{◌and◌, pick}
use Rattle.model.specs.Word.{kind_of, record_of, first_of, second_of, with_kind}
use Rattle.model.specs.Types.{Dep, name, Ty, any, ref, maybe, tagged, present, same, span, dep_of, of_kind, type_of, rename}
use Rattle.model.specs.Table.{Tables}
use Rattle.model.specs.Machine.{End, halt, jump, if_equal, if_less}
use Rattle.model.specs.Rules.{Known}
use Rattle.model.specs.ReadingRules.{BlockState, holds, NotZero, maybe_to_ref, tagged_to_present, Below, from_to_in, NotBelow, run_to_from}
use Rattle.model.specs.ReadingRules.{becoming, Becomes, becomes, stays, Taken, jumps, is_equal, is_less, Untaken, is_not_zero, not_equal, not_less}
use Rattle.model.specs.Values.{Values, birthplace, own_constant, typed, known_equal}
use Rattle.model.specs.Reading.{Reading, learned, rekinded, not_zero, below, not_below, taken, untaken}
use Rattle.model.specs.Check.{value_in}
use Rattle.model.proofs.Logic.{by_test, by_equality, and-true, true-and, pick-both}
use Rattle.model.proofs.Lists.{set-every}
use Rattle.model.proofs.KnownValues.{option_of, known_of, any-typed}
use Rattle.model.proofs.RulesDecide.{Chained, equal-known, known-equal}
use Rattle.model.proofs.Tidy.{word_same, Tidy}
use Rattle.model.proofs.Unique.{chained}
use Rattle.model.proofs.Mean.{kinded}
use Rattle.model.proofs.ReadingStates.{state_of}

clash : (n : ◌≡◌ {A = ℕ} 0 1) → ⊥
clash n = omega arith

-- ---- a word with another kind

module _ (σ : ℕ → ℕ) (w : ℕ) where
  abbrev of_word : ℕ → Ty
  of_word k = rename σ (of_kind k (record_of w) (dep_of (first_of w)) (dep_of (second_of w)))

  maybe-kind : (k t : ℕ) → of_word k ≡ maybe t → of_word 1 ≡ ref t
  unfolding rename
  maybe-kind zero t e = absurd (clash cc)
  maybe-kind (suc zero) t e = absurd (clash cc)
  maybe-kind (suc (suc zero)) t e = cc
  maybe-kind (suc (suc (suc zero))) t e = absurd (clash cc)
  maybe-kind (suc (suc (suc (suc zero)))) t e = absurd (clash cc)
  maybe-kind (suc (suc (suc (suc (suc zero))))) t e = absurd (clash cc)
  maybe-kind (suc (suc (suc (suc (suc (suc k)))))) t e = absurd (clash cc)

  tagged-kind : (k : ℕ) (d : Dep) → of_word k ≡ tagged d → of_word 4 ≡ present d
  unfolding rename
  tagged-kind zero d e = absurd (clash cc)
  tagged-kind (suc zero) d e = absurd (clash cc)
  tagged-kind (suc (suc zero)) d e = absurd (clash cc)
  tagged-kind (suc (suc (suc zero))) d e = cc
  tagged-kind (suc (suc (suc (suc zero)))) d e = absurd (clash cc)
  tagged-kind (suc (suc (suc (suc (suc zero))))) d e = absurd (clash cc)
  tagged-kind (suc (suc (suc (suc (suc (suc k)))))) d e = absurd (clash cc)

  span-kind : (k r t q : ℕ) (d e : Dep) → of_word k ≡ span r t d e → of_word (suc (suc (suc (suc (suc (suc q)))))) ≡ span q t d e
  unfolding rename
  span-kind zero r t q d e h = absurd (clash cc)
  span-kind (suc zero) r t q d e h = absurd (clash cc)
  span-kind (suc (suc zero)) r t q d e h = absurd (clash cc)
  span-kind (suc (suc (suc zero))) r t q d e h = absurd (clash cc)
  span-kind (suc (suc (suc (suc zero)))) r t q d e h = absurd (clash cc)
  span-kind (suc (suc (suc (suc (suc zero))))) r t q d e h = absurd (clash cc)
  span-kind (suc (suc (suc (suc (suc (suc k)))))) r t q d e h = cc

-- ---- chains on the edges

-- a test changes no type
learned-chained : (vs : Values) (v c : ℕ) → Chained vs → Chained (learned vs v c)
unfolding typed
learned-chained vs v c Z = record { joins = Z.joins; near = Z.near }

-- another kind than that of Same makes no Same
rekinded-chained : (vs : Values) (v k : ℕ) → k ≤ 8 → (k ≡ 5 → ⊥) → Chained vs → Chained (rekinded vs v k)
unfolding typed
rekinded-chained vs v k small other Z =
    record {
      joins = Z.joins;
      near = λ u w q.
          set-every (λ j x. (w : ℕ) → rename (λ i. get_or vs.frames (birthplace j) 0 + i) (type_of x) ≡ same (name w) → birthplace w ≡ birthplace j)
          vs.words v (with_kind k (get_or vs.words v 0)) 0 (λ j w q. Z.near j w q)
          (λ w q. absurd (other (let z = (word_same _ (with_kind k (get_or vs.words v 0)) (name w) q).0 in omega arith))) u w q;
    }

module _ (vs : Values) (Z : Chained vs) where
  not-zero-chained : (v : ℕ) (ty : Ty) → Chained (not_zero vs v ty)
  unfolding not_zero
  not-zero-chained v any = Z
  not-zero-chained v (ref t) = Z
  not-zero-chained v (maybe t) = rekinded-chained vs v 1 (omega arith) (λ e. omega arith) Z
  not-zero-chained v (tagged d) = rekinded-chained vs v 4 (omega arith) (λ e. omega arith) Z
  not-zero-chained v (present d) = Z
  not-zero-chained v (same d) = Z
  not-zero-chained v (span k t d e) = Z

  below-chained : (v w : ℕ) (ty : Ty) → Chained (below vs v w ty)
  unfolding below
  below-chained v w any = Z
  below-chained v w (ref t) = Z
  below-chained v w (maybe t) = Z
  below-chained v w (tagged d) = Z
  below-chained v w (present d) = Z
  below-chained v w (same d) = Z
  below-chained v w (span k t d e) =
      pick-both Chained (eqb k 1 and known_equal vs (name w) e) _ vs (λ q. rekinded-chained vs v 8 (omega arith) (λ e. omega arith) Z) (λ q. Z)

  not-below-chained : (v w : ℕ) (ty : Ty) → Chained (not_below vs v w ty)
  unfolding not_below
  not-below-chained v w any = Z
  not-below-chained v w (ref t) = Z
  not-below-chained v w (maybe t) = Z
  not-below-chained v w (tagged d) = Z
  not-below-chained v w (present d) = Z
  not-below-chained v w (same d) = Z
  not-below-chained v w (span k t d e) =
      pick-both Chained (eqb k 0 and known_equal vs (name w) d) _ vs (λ q. rekinded-chained vs v 7 (omega arith) (λ e. omega arith) Z) (λ q. Z)

pub taken-chained : (e : End) (st : Reading) → Chained st.values → Chained (taken e st)
unfolding taken
taken-chained halt st Z = Z
taken-chained (jump t) st Z = Z
taken-chained (if_equal x k t) st Z = learned-chained st.values (value_in st x) k Z
taken-chained (if_less x y t) st Z = below-chained st.values Z (value_in st x) (value_in st y) _

pub untaken-chained : (e : End) (st : Reading) → Chained st.values → Chained (untaken e st)
unfolding untaken
untaken-chained halt st Z = Z
untaken-chained (jump t) st Z = Z
untaken-chained (if_equal x k t) st Z =
    pick-both Chained (eqb k 0) _ st.values (λ q. not-zero-chained st.values Z (value_in st x) _) (λ q. Z)
untaken-chained (if_less x y t) st Z = not-below-chained st.values Z (value_in st x) (value_in st y) _

-- ---- what the edges make of a value

-- the place of a type's kind among those that an edge tells apart
abbrev kind_number : Ty → ℕ
kind_number any = 0
kind_number (ref t) = 1
kind_number (maybe t) = 2
kind_number (tagged d) = 3
kind_number (present d) = 4
kind_number (same d) = 5
kind_number (span k t d e) = 6

module _ (𝒯 : Tables) (vs : Values) (Z : Chained vs) (v : ℕ) (there : v < length vs.words) where
  abbrev frame : ℕ → ℕ
  frame x = get_or vs.frames (birthplace v) 0 + x

  abbrev word : ℕ
  word = get_or vs.words v 0

  -- a value that has a type other than Any, before and after, has no constant from opcode 1
  own-kept : (k : ℕ) → (word ≡ 0 → ⊥) → (x : ℕ) → own_constant (rekinded vs v (suc k)) x ≡ own_constant vs x
  own-kept k n x =
      by_equality x v
      (λ q. let at = get_or-set_same vs.words v (with_kind (suc k) word) 0 there in
      let m : with_kind (suc k) word ≡ 0 → ⊥ = λ (z : with_kind (suc k) word ≡ 0). omega arith in
      rw (q, at, ne_eqb (with_kind (suc k) word) 0 m, ne_eqb word 0 n) refl)
      (λ d. rw (get_or-set_other vs.words v x (with_kind (suc k) word) 0 d) refl)

  -- v has another kind, which makes its type ty
  rekinded-known : (k : ℕ) (ty : Ty) → k < 8 → (word ≡ 0 → ⊥) → of_word frame word (suc k) ≡ ty
      → known_of (rekinded vs v (suc k)) ≡ becoming 𝒯 (known_of vs) v ty
  unfolding typed
  rekinded-known k ty small n e =
      λ i. record { type = fun_ext each i; constant = fun_ext (λ x. ap option_of (own-kept k n x)) i; tested = (known_of vs).tested }
    where
      each : (x : ℕ) → typed (rekinded vs v (suc k)) x ≡ pick (eqb x v) ty (typed vs x)
      each x =
          by_equality x v
          (λ q. rw (q, eq-eqb v v refl, get_or-set_same vs.words v (with_kind (suc k) word) 0 there, kinded (suc k) word (omega arith)) e)
          (λ d. rw (ne_eqb x v d, get_or-set_other vs.words v x (with_kind (suc k) word) 0 d) refl)

  typed-of : typed vs v ≡ of_word frame word (kind_of word)
  unfolding typed type_of
  typed-of = refl

  -- a value of another type than Any becomes one of type ty
  become : (R : Ty → Ty → Type 0) (k : ℕ) (x ty : Ty) → k < 8 → typed vs v ≡ x → (kind_number x ≡ 0 → ⊥) → of_word frame word (suc k) ≡ ty
      → R (typed vs v) ty → Becomes 𝒯 R (known_of vs) v (known_of (rekinded vs v (suc k)))
  become R k x ty small h n e r =
      let w : word ≡ 0 → ⊥ = λ z. n (ap kind_number (sym h ∙ any-typed vs v z)) in
      subst (λ (K : Known). Becomes 𝒯 R (known_of vs) v K) (sym (rekinded-known k ty small w e)) (becomes r)

  -- a span of another rank
  pub span-known : (q r t : ℕ) (d e : Dep) → q ≤ 2 → typed vs v ≡ span r t d e
      → known_of (rekinded vs v (suc (suc (suc (suc (suc (suc q))))))) ≡ becoming 𝒯 (known_of vs) v (span q t d e)
  span-known q r t d e most h =
      rekinded-known (suc (suc (suc (suc (suc q))))) (span q t d e) (omega arith)
      (λ z. clash (let k : any ≡ span r t d e = sym (any-typed vs v z) ∙ h in cc))
      (span-kind frame word (kind_of word) r t q d e (sym typed-of ∙ h))

  -- ---- each test

  stays-zero : (x : Ty) → typed vs v ≡ x → (kind_number x ≡ 2 → ⊥) → (kind_number x ≡ 3 → ⊥) → Becomes 𝒯 (NotZero 𝒯) (known_of vs) v (known_of vs)
  stays-zero x h m t = stays (λ ty n. no n)
    where
      no : {ty : Ty} → NotZero 𝒯 (typed vs v) ty → ⊥
      no (maybe_to_ref e) = m (ap kind_number (sym h ∙ e))
      no (tagged_to_present e) = t (ap kind_number (sym h ∙ e))

  not-zero-tells : (ty : Ty) → typed vs v ≡ ty → Becomes 𝒯 (NotZero 𝒯) (known_of vs) v (known_of (not_zero vs v ty))
  unfolding not_zero
  not-zero-tells any h = stays-zero any h (λ z. omega arith) (λ z. omega arith)
  not-zero-tells (ref t) h = stays-zero (ref t) h (λ z. omega arith) (λ z. omega arith)
  not-zero-tells (maybe t) h =
      become (NotZero 𝒯) 0 (maybe t) (ref t) (omega arith) h (λ z. omega arith) (maybe-kind frame word (kind_of word) t (sym typed-of ∙ h)) (maybe_to_ref h)
  not-zero-tells (tagged d) h =
      become (NotZero 𝒯) 3 (tagged d) (present d) (omega arith) h (λ z. omega arith) (tagged-kind frame word (kind_of word) d (sym typed-of ∙ h))
      (tagged_to_present h)
  not-zero-tells (present d) h = stays-zero (present d) h (λ z. omega arith) (λ z. omega arith)
  not-zero-tells (same d) h = stays-zero (same d) h (λ z. omega arith) (λ z. omega arith)
  not-zero-tells (span k t d f) h = stays-zero (span k t d f) h (λ z. omega arith) (λ z. omega arith)

  stays-below : (w : ℕ) (x : Ty) → typed vs v ≡ x → (kind_number x ≡ 6 → ⊥) → Becomes 𝒯 (Below 𝒯 (known_of vs) w) (known_of vs) v (known_of vs)
  stays-below w x h m = stays (λ ty n. no n)
    where
      no : {ty : Ty} → Below 𝒯 (known_of vs) w (typed vs v) ty → ⊥
      no (from_to_in e q) = m (ap kind_number (sym h ∙ e))

  below-tells : (w : ℕ) (ty : Ty) → typed vs v ≡ ty → Becomes 𝒯 (Below 𝒯 (known_of vs) w) (known_of vs) v (known_of (below vs v w ty))
  unfolding below
  below-tells w any h = stays-below w any h (λ z. omega arith)
  below-tells w (ref t) h = stays-below w (ref t) h (λ z. omega arith)
  below-tells w (maybe t) h = stays-below w (maybe t) h (λ z. omega arith)
  below-tells w (tagged d) h = stays-below w (tagged d) h (λ z. omega arith)
  below-tells w (present d) h = stays-below w (present d) h (λ z. omega arith)
  below-tells w (same d) h = stays-below w (same d) h (λ z. omega arith)
  below-tells w (span k t d f) h =
      by_test (eqb k 1 and known_equal vs (name w) f)
      (λ q. let (one, e) = and-true _ _ q in
      let is : typed vs v ≡ span 1 t d f = h ∙ ap (λ (x : ℕ). span x t d f) (eqb-true k 1 one) in
      let to = span-kind frame word (kind_of word) 1 t 2 d f (sym typed-of ∙ is) in
      rw q (become (Below 𝒯 (known_of vs) w) 7 (span 1 t d f) (span 2 t d f) (omega arith) is (λ z. omega arith) to
      (from_to_in is (equal-known 𝒯 vs (name w) f e))))
      (λ q. rw q (stays (λ ty n. no q n)))
    where
      no : {ty : Ty} → eqb k 1 and known_equal vs (name w) f ≡ false → Below 𝒯 (known_of vs) w (typed vs v) ty → ⊥
      no q (from_to_in {t = u} {d = x} {e = y} e E) =
          let kr : k ≡ 1 = cc in
          let de : f ≡ y = cc in
          false≢true (sym q ∙ true-and _ _ (eq-eqb k 1 kr) (rw de (known-equal 𝒯 vs Z (name w) y E)))

  stays-not-below : (w : ℕ) (x : Ty) → typed vs v ≡ x → (kind_number x ≡ 6 → ⊥) → Becomes 𝒯 (NotBelow 𝒯 (known_of vs) w) (known_of vs) v (known_of vs)
  stays-not-below w x h m = stays (λ ty n. no n)
    where
      no : {ty : Ty} → NotBelow 𝒯 (known_of vs) w (typed vs v) ty → ⊥
      no (run_to_from e q) = m (ap kind_number (sym h ∙ e))

  not-below-tells : (w : ℕ) (ty : Ty) → typed vs v ≡ ty → Becomes 𝒯 (NotBelow 𝒯 (known_of vs) w) (known_of vs) v (known_of (not_below vs v w ty))
  unfolding not_below
  not-below-tells w any h = stays-not-below w any h (λ z. omega arith)
  not-below-tells w (ref t) h = stays-not-below w (ref t) h (λ z. omega arith)
  not-below-tells w (maybe t) h = stays-not-below w (maybe t) h (λ z. omega arith)
  not-below-tells w (tagged d) h = stays-not-below w (tagged d) h (λ z. omega arith)
  not-below-tells w (present d) h = stays-not-below w (present d) h (λ z. omega arith)
  not-below-tells w (same d) h = stays-not-below w (same d) h (λ z. omega arith)
  not-below-tells w (span k t d f) h =
      by_test (eqb k 0 and known_equal vs (name w) d)
      (λ q. let (none, e) = and-true _ _ q in
      let is : typed vs v ≡ span 0 t d f = h ∙ ap (λ (x : ℕ). span x t d f) (eqb-true k 0 none) in
      let to = span-kind frame word (kind_of word) 0 t 1 d f (sym typed-of ∙ is) in
      rw q (become (NotBelow 𝒯 (known_of vs) w) 6 (span 0 t d f) (span 1 t d f) (omega arith) is (λ z. omega arith) to
      (run_to_from is (equal-known 𝒯 vs (name w) d e))))
      (λ q. rw q (stays (λ ty n. no q n)))
    where
      no : {ty : Ty} → eqb k 0 and known_equal vs (name w) d ≡ false → NotBelow 𝒯 (known_of vs) w (typed vs v) ty → ⊥
      no q (run_to_from {t = u} {d = x} {e = y} e E) =
          let kr : k ≡ 0 = cc in
          let de : d ≡ x = cc in
          false≢true (sym q ∙ true-and _ _ (eq-eqb k 0 kr) (rw de (known-equal 𝒯 vs Z (name w) x E)))

-- ---- a rule tells one thing

not-zero-one : (𝒯 : Tables) {x a b : Ty} → NotZero 𝒯 x a → NotZero 𝒯 x b → a ≡ b
not-zero-one 𝒯 (maybe_to_ref e) (maybe_to_ref f) = cc
not-zero-one 𝒯 (maybe_to_ref e) (tagged_to_present f) = absurd (clash cc)
not-zero-one 𝒯 (tagged_to_present e) (maybe_to_ref f) = absurd (clash cc)
not-zero-one 𝒯 (tagged_to_present e) (tagged_to_present f) = cc

below_one : (𝒯 : Tables) (K : Known) (w : ℕ) {x a b : Ty} → Below 𝒯 K w x a → Below 𝒯 K w x b → a ≡ b
below_one 𝒯 K w (from_to_in e p) (from_to_in f q) = cc

not-below-one : (𝒯 : Tables) (K : Known) (w : ℕ) {x a b : Ty} → NotBelow 𝒯 K w x a → NotBelow 𝒯 K w x b → a ≡ b
not-below-one 𝒯 K w (run_to_from e p) (run_to_from f q) = cc

becomes-one : (𝒯 : Tables) (R : Ty → Ty → Type 0) (K : Known) (v : ℕ) {L M : Known} → ((x a b : Ty) → R x a → R x b → a ≡ b)
    → Becomes 𝒯 R K v L → Becomes 𝒯 R K v M → L ≡ M
becomes-one 𝒯 R K v one (becomes r) (becomes q) = ap (λ (ty : Ty). becoming 𝒯 K v ty) (one _ _ _ r q)
becomes-one 𝒯 R K v one (becomes r) (stays n) = absurd (n _ r)
becomes-one 𝒯 R K v one (stays n) (becomes q) = absurd (n _ q)
becomes-one 𝒯 R K v one (stays n) (stays m) = refl

module _ (𝒯 : Tables) (st : Reading) (g : ℕ) (T : Tidy st g) (few : g ≤ 32) where
  pub there : (r : ℕ) → value_in st r < length st.values.words
  there r = let h = T.registers r in let l = T.values.words in omega arith

  pub chains : Chained st.values
  chains = chained 𝒯 st.values g T.values

  -- what the reading knows on each edge is what the rules tell
  pub jump-tells : (t : ℕ) → Taken 𝒯 (state_of st) (jump t) (known_of (taken (jump t) st))
  unfolding taken
  jump-tells t = jumps

  pub equal-tells : (x k t : ℕ) → Taken 𝒯 (state_of st) (if_equal x k t) (known_of (taken (if_equal x k t) st))
  unfolding taken typed
  equal-tells x k t = is_equal

  pub less-tells : (x y t : ℕ) → Taken 𝒯 (state_of st) (if_less x y t) (known_of (taken (if_less x y t) st))
  unfolding taken
  less-tells x y t = is_less (below-tells 𝒯 st.values chains (value_in st x) (there x) (value_in st y) _ refl)

  pub unequal-tells : (x k t : ℕ) → Untaken 𝒯 (state_of st) (if_equal x k t) (known_of (untaken (if_equal x k t) st))
  unfolding untaken
  unequal-tells x zero t = is_not_zero (not-zero-tells 𝒯 st.values chains (value_in st x) (there x) _ refl)
  unequal-tells x (suc k) t =
      let d : suc k ≡ 0 → ⊥ = λ (e : suc k ≡ 0). omega arith in
      rw (ne_eqb (suc k) 0 d) (not_equal d)

  pub not-less-tells : (x y t : ℕ) → Untaken 𝒯 (state_of st) (if_less x y t) (known_of (untaken (if_less x y t) st))
  unfolding untaken
  not-less-tells x y t = not_less (not-below-tells 𝒯 st.values chains (value_in st x) (there x) (value_in st y) _ refl)

-- and nothing else
pub taken-one : (𝒯 : Tables) (s : BlockState) {e : End} {K L : Known} → Taken 𝒯 s e K → Taken 𝒯 s e L → K ≡ L
taken-one 𝒯 s jumps jumps = refl
taken-one 𝒯 s is_equal is_equal = refl
taken-one 𝒯 s (is_less {x = x} {y = y} p) (is_less q) =
    becomes-one 𝒯 (Below 𝒯 s.known (holds s y)) s.known (holds s x) (λ o x' y' a b. below_one 𝒯 s.known (holds s y) a b) p q

pub untaken-one : (𝒯 : Tables) (s : BlockState) {e : End} {K L : Known} → Untaken 𝒯 s e K → Untaken 𝒯 s e L → K ≡ L
untaken-one 𝒯 s (is_not_zero {x = x} p) (is_not_zero q) =
    becomes-one 𝒯 (NotZero 𝒯) s.known (holds s x) (λ o x' y' a b. not-zero-one 𝒯 a b) p q
untaken-one 𝒯 s (is_not_zero p) (not_equal n) = absurd (n refl)
untaken-one 𝒯 s (not_equal n) (is_not_zero p) = absurd (n refl)
untaken-one 𝒯 s (not_equal n) (not_equal m) = refl
untaken-one 𝒯 s (not_less {x = x} {y = y} p) (not_less q) =
    becomes-one 𝒯 (NotBelow 𝒯 s.known (holds s y)) s.known (holds s x) (λ o x' y' a b. not-below-one 𝒯 s.known (holds s y) a b) p q
