-- What holds of a reading, in the terms of the rules, and how each part of the reading changes it.
use mathlib.Core.Path.{◌≡◌, refl, sym, ap, fun_ext, subst, ◌∙◌}
use mathlib.Core.Logic.{◌⊎◌, inl, inr}
use mathlib.Core.Bool.{true, false, false≢true}
use mathlib.Core.Option.{Option, none, some}
use mathlib.Core.List.{List, [], ◌∷◌}
use Prim.Native.Nat.{ℕ, zero, suc, ◌+◌, ◌*◌, ◌/◌, ◌%◌, ◌≤◌, ◌<◌}
use native.Mathlib.Omega.{arith}
use lib.Dec.{eqb}
use lib.ListN.{length, get_or, set}
use lib.Seq.{get_or-set_same, get_or-set_other}
use borrow.Author.Tests.{eq-eqb, ne_eqb, lt-ltb, le-ltb}
use Rattle.model.specs.Question.{pick}
use Rattle.model.specs.Types.{Ty, type_of, rename}
use Rattle.model.specs.Table.{Tables, field_of}
use Rattle.model.specs.ReadingRules.{made, eight_made, BlockState, knowing, alone, giving, seeing, closing, opening, loading, Sees, again, newly}
use Rattle.model.specs.Values.{Values, birthplace, own_constant, typed}
use Rattle.model.specs.Reading.{row_fits, Reading, up_from, born, fresh, is_open, seen, viewed_before, viewed, look, stored}
use Rattle.model.proofs.Logic.{by_test, by_equality, either, pick_true, pick-false, pick-both}
use Rattle.model.proofs.KnownValues.{option_of, known_of}
use Rattle.model.proofs.Tidy.{TidyValues, Tidy, word-here, word-there, typed-here, typed-there, constant-here, constant-there}

-- ---- the state of a reading

abbrev pub view_of : Reading → ℕ → Option (List ℕ)
view_of st v = pick (seen st v) (some (up_from (8 * get_or st.views v 0) 8)) none

abbrev pub seen_of : Reading → ℕ → Option (List ℕ)
seen_of st v = pick (is_open st) (pick (eqb v st.base) (some st.fields) (view_of st v)) (view_of st v)

abbrev pub through_of : Reading → Option ℕ
through_of st = pick (is_open st) (some st.base) none

abbrev pub state_of : Reading → BlockState
state_of st = record { known = known_of st.values; registers = st.registers; seen = λ v. seen_of st v; through = through_of st }

-- ---- values made

-- the values made at j, whose type words are row, are known to have the types f; they have a constant only where all are Any
module _ (vs : Values) (j : ℕ) (row : List ℕ) (frame c : ℕ) (T : TidyValues vs (suc j)) (small : suc j < 32) (short : length row ≤ 8)
    (single : (c ≡ 0) ⊎ (row ≡ 0 ∷ [])) (f : ℕ → Ty) (F : (i : ℕ) → i < 8 → f i ≡ rename (λ x. frame + x) (type_of (get_or row i 0))) where
  abbrev with_made : Values
  with_made = born vs (suc j) row frame c

  type-made : (v : ℕ) → typed with_made v ≡ pick (eqb (v / 8) (suc j)) (f (v % 8)) (typed vs v)
  type-made v =
      by_equality (v / 8) (suc j)
      (λ e. let is : 8 * suc j + v % 8 ≡ v = omega arith in
      ap (λ (x : ℕ). typed with_made x) (sym is)
      ∙ typed-here vs (suc j) row frame c T small short (v % 8) (omega arith)
      ∙ sym (F (v % 8) (omega arith))
      ∙ sym (pick_true _ (f (v % 8)) (typed vs v) (eq-eqb (v / 8) (suc j) e)))
      (λ d. typed-there vs (suc j) row frame c T small short v d ∙ sym (pick-false _ (f (v % 8)) (typed vs v) (ne_eqb (v / 8) (suc j) d)))

  zero_row : (i : ℕ) → row ≡ 0 ∷ [] → get_or row i 0 ≡ 0
  zero_row zero e = rw e
  zero_row (suc i) e = rw e

  word_made : (v : ℕ) → v / 8 ≡ suc j → row ≡ 0 ∷ [] → get_or with_made.words v 0 ≡ 0
  word_made v e z =
      let is : 8 * suc j + v % 8 ≡ v = omega arith in
      ap (λ (x : ℕ). get_or with_made.words x 0) (sym is) ∙ word-here vs (suc j) row frame c T small short (v % 8) (omega arith) ∙ zero_row (v % 8) z

  constant-at : (v : ℕ) → v / 8 ≡ suc j → get_or with_made.constants (birthplace v) 0 ≡ c
  constant-at v e = ap (λ (x : ℕ). get_or with_made.constants x 0) e ∙ constant-here vs (suc j) row frame c T small short

  own-made : (v : ℕ) → v / 8 ≡ suc j → own_constant with_made v ≡ c
  own-made v e =
      either single
      (λ z. pick-both (λ (x : ℕ). x ≡ c) (eqb (get_or with_made.words v 0) 0) _ 0 (λ q. constant-at v e) (λ q. sym z))
      (λ z. pick_true _ _ 0 (eq-eqb _ 0 (word_made v e z)) ∙ constant-at v e)

  own-there : (v : ℕ) → (v / 8 ≡ suc j → ⊥) → own_constant with_made v ≡ own_constant vs v
  own-there v d = rw (word-there vs (suc j) row frame c T small short v d, constant-there vs (suc j) row frame c T small short (v / 8) d)

  constant-made : (v : ℕ) → option_of (own_constant with_made v) ≡ pick (eqb (v / 8) (suc j)) (option_of c) (option_of (own_constant vs v))
  constant-made v =
      by_equality (v / 8) (suc j)
      (λ e. ap option_of (own-made v e) ∙ sym (pick_true _ (option_of c) (option_of (own_constant vs v)) (eq-eqb (v / 8) (suc j) e)))
      (λ d. ap option_of (own-there v d) ∙ sym (pick-false _ (option_of c) (option_of (own_constant vs v)) (ne_eqb (v / 8) (suc j) d)))

  pub known-made : known_of with_made ≡ knowing j f (option_of c) (known_of vs)
  unfolding born
  known-made = λ i. record { type = fun_ext type-made i; constant = fun_ext constant-made i; tested = (known_of vs).tested }

-- register a holds a new value
pub fresh-state : (st : Reading) (j a word frame c : ℕ) → Tidy st (suc j) → suc j < 32 → (c ≡ 0) ⊎ (word ≡ 0)
    → state_of (fresh st (suc j) a word frame c) ≡ giving j (state_of st) a (rename (λ x. frame + x) (type_of word)) (option_of c)
unfolding fresh
fresh-state st j a word frame c T s h =
    λ i. record {
      known = known-made st.values j (word ∷ []) frame c T.values s (omega arith) single (alone (rename (λ x. frame + x) (type_of word))) each i;
      registers = set st.registers a (first i);
      seen = λ v. seen_of st v;
      through = through_of st;
    }
  where
    single : (c ≡ 0) ⊎ ((word ∷ []) ≡ 0 ∷ [])
    single = either h (λ z. inl z) (λ z. inr (ap {B = List ℕ} (λ (x : ℕ). x ∷ []) z))

    first : 8 * suc j ≡ made j 0
    first = omega arith

    each : (i : ℕ) → i < 8 → alone (rename (λ x. frame + x) (type_of word)) i ≡ rename (λ x. frame + x) (type_of (get_or (word ∷ []) i 0))
    each zero h = refl
    each (suc i) h = unfold rename type_of in refl

eight_is : (j : ℕ) → up_from (8 * suc j) 8 ≡ eight_made j
unfolding up_from
eight_is j = λ i. p0 i ∷ p1 i ∷ p2 i ∷ p3 i ∷ p4 i ∷ p5 i ∷ p6 i ∷ p7 i ∷ []
  where
    p0 : 8 * suc j ≡ made j 0
    p0 = omega arith

    p1 : suc (8 * suc j) ≡ made j 1
    p1 = omega arith

    p2 : suc (suc (8 * suc j)) ≡ made j 2
    p2 = omega arith

    p3 : suc (suc (suc (8 * suc j))) ≡ made j 3
    p3 = omega arith

    p4 : suc (suc (suc (suc (8 * suc j)))) ≡ made j 4
    p4 = omega arith

    p5 : suc (suc (suc (suc (suc (8 * suc j))))) ≡ made j 5
    p5 = omega arith

    p6 : suc (suc (suc (suc (suc (suc (8 * suc j)))))) ≡ made j 6
    p6 = omega arith

    p7 : suc (suc (suc (suc (suc (suc (suc (8 * suc j))))))) ≡ made j 7
    p7 = omega arith

-- ---- the fields seen

module _ (𝒯 : Tables) where
  -- an open record's fields are those at hand
  open-seen : (st : Reading) → is_open st ≡ true → seen_of st st.base ≡ some st.fields
  open-seen st q = rw (q, eq-eqb st.base st.base refl)

  before-state : (st : Reading) (v : ℕ) → is_open st ≡ false → state_of (viewed_before st v) ≡ state_of st
  before-state st v q =
      λ i. record { known = known_of st.values; registers = st.registers; seen = fun_ext each i; through = through_of st }
    where
      each : (w : ℕ) → seen_of (viewed_before st v) w ≡ seen_of st w
      each w = rw q refl

  viewed-state : (st : Reading) (j v t : ℕ) → Tidy st (suc j) → suc j < 32 → length (𝒯.words t) ≤ 8 → v < 256 → is_open st ≡ false
      → state_of (viewed 𝒯 st (suc j) v t) ≡ loading 𝒯 j v t (state_of st)
  unfolding viewed
  viewed-state st j v t T s l h q =
      λ i. record {
        known =
            known-made st.values j (𝒯.words t) (8 * suc j) 0 T.values s l (inl refl) (λ x. rename (λ g. made j g) (field_of 𝒯 t x))
            (λ x k. refl) i;
        registers = st.registers;
        seen = fun_ext each i;
        through = through_of st;
      }
    where
      each : (w : ℕ) → seen_of (viewed 𝒯 st (suc j) v t) w ≡ seeing v (eight_made j) (λ x. seen_of st x) w
      each w =
          by_equality w v
          (λ e. let at = get_or-set_same st.views v (suc j) 0 (rw T.all_views h) in
          rw (q, e, eq-eqb v v refl, at, lt-ltb st.since (suc j) T.since) (ap {B = Option (List ℕ)} some (eight_is j)))
          (λ d. rw (q, ne_eqb w v d, get_or-set_other st.views v w (suc j) 0 d) refl)

  fields-are : (st : Reading) (j v t : ℕ) → (viewed 𝒯 st (suc j) v t).fields ≡ eight_made j
  unfolding viewed
  fields-are st j v t = eight_is j

  -- the fields at hand in the reading x are seen behind v
  abbrev pub SeesWith : Reading → ℕ → ℕ → ℕ → Reading → Type 0
  SeesWith st j v t x = Sees 𝒯 j v t (state_of st) x.fields (state_of x)

  pub look-sees : (st : Reading) (j v t : ℕ) → Tidy st (suc j) → suc j < 32 → length (𝒯.words t) ≤ 8 → v < 256
      → (is_open st ≡ false) ⊎ (st.base ≡ v) → SeesWith st j v t (look 𝒯 st (suc j) v t)
  unfolding look
  look-sees st j v t T s l h touch = by_test (is_open st) held (λ q. by_test (seen st v) (before q) (anew q))
    where
      held : is_open st ≡ true → SeesWith st j v t (look 𝒯 st (suc j) v t)
      held q =
          let e : st.base ≡ v = either touch (λ z. absurd (false≢true (sym z ∙ q))) (λ e. e) in
          rw (pick_true (is_open st) st (pick (seen st v) (viewed_before st v) (viewed 𝒯 st (suc j) v t)) q)
          (again (ap (λ (x : ℕ). seen_of st x) (sym e) ∙ open-seen st q))

      shut : is_open st ≡ false → look 𝒯 st (suc j) v t ≡ pick (seen st v) (viewed_before st v) (viewed 𝒯 st (suc j) v t)
      shut q = pick-false (is_open st) st (pick (seen st v) (viewed_before st v) (viewed 𝒯 st (suc j) v t)) q

      before : is_open st ≡ false → seen st v ≡ true → SeesWith st j v t (look 𝒯 st (suc j) v t)
      before q p =
          rw (shut q, pick_true (seen st v) (viewed_before st v) (viewed 𝒯 st (suc j) v t) p)
          (subst (λ (s' : BlockState). Sees 𝒯 j v t (state_of st) (up_from (8 * get_or st.views v 0) 8) s') (sym (before-state st v q)) (again (rw (q, p) refl)))

      anew : is_open st ≡ false → seen st v ≡ false → SeesWith st j v t (look 𝒯 st (suc j) v t)
      anew q p =
          rw (shut q, pick-false (seen st v) (viewed_before st v) (viewed 𝒯 st (suc j) v t) p)
          (subst (λ (s' : BlockState). Sees 𝒯 j v t (state_of st) (viewed 𝒯 st (suc j) v t).fields s') (sym (viewed-state st j v t T s l h q))
          (subst (λ (fs : List ℕ). Sees 𝒯 j v t (state_of st) fs (loading 𝒯 j v t (state_of st))) (sym (fields-are st j v t)) (newly (rw (q, p) refl))))

  -- ---- a store

  pub closed-state : (st : Reading) (g v t c x : ℕ) → Tidy st (suc g) → row_fits 𝒯 st.values (𝒯.size t) (𝒯.words t) (set st.fields c x) ≡ true
      → state_of (stored 𝒯 st g v t c x) ≡ closing (state_of st)
  unfolding stored
  closed-state st g v t c x T q =
      λ i. record { known = known_of st.values; registers = st.registers; seen = fun_ext each i; through = shut i }
    where
      each : (w : ℕ) → seen_of (stored 𝒯 st g v t c x) w ≡ none
      each w = rw (q, le-ltb g (get_or st.views w 0) (omega (arith, T.views w))) refl

      shut : through_of (stored 𝒯 st g v t c x) ≡ none
      shut = rw q refl

  pub opened-state : (st : Reading) (g v t c x : ℕ) → v < 256 → (is_open st ≡ false) ⊎ (st.base ≡ v)
      → row_fits 𝒯 st.values (𝒯.size t) (𝒯.words t) (set st.fields c x) ≡ false
      → state_of (stored 𝒯 st g v t c x) ≡ opening (state_of st) v (set st.fields c x)
  unfolding stored
  opened-state st g v t c x h touch q =
      λ i. record { known = known_of st.values; registers = st.registers; seen = fun_ext each i; through = stands i }
    where
      stands : through_of (stored 𝒯 st g v t c x) ≡ some v
      stands = rw (q, lt-ltb v 256 h) refl

      -- another value's view does not depend on the open record
      beside : (w : ℕ) → (w ≡ v → ⊥) → seen_of st w ≡ view_of st w
      beside w d =
          by_test (is_open st)
          (λ p. let e : st.base ≡ v = either touch (λ z. absurd (false≢true (sym z ∙ p))) (λ e. e) in rw (p, e, ne_eqb w v d) refl)
          (λ p. rw p refl)

      each : (w : ℕ) → seen_of (stored 𝒯 st g v t c x) w ≡ seeing v (set st.fields c x) (λ y. seen_of st y) w
      each w =
          by_equality w v
          (λ e. rw (q, lt-ltb v 256 h, eq-eqb w v e) refl)
          (λ d. rw (q, lt-ltb v 256 h, ne_eqb w v d) (sym (beside w d)))
