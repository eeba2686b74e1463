-- One law for each way out of a function.
use mathlib.Core.Path.{◌≡◌, refl, sym, ap, ◌∙◌}
use mathlib.Core.Bool.{Bool, true, false, not, false≢true}
use mathlib.Core.List.{List}
use Rattle.std.specs.Prelude.{Option}
use Prim.Native.Nat.{ℕ, ◌+◌, ◌-◌, ◌<◌, ◌≤◌}
use native.Mathlib.Nat.{sub-zero}
use native.Mathlib.Omega.{arith}
use lib.Dec.{eqb, leb}
use lib.ListN.{get_or}
use mathlib.Core.Logic.{◌⊎◌, inl, inr, ⊎_elim}
use borrow.Author.Tests.{le-leb, lt-leb, eq-eqb, ne_eqb, eqb-true, eqb-false}
use Rattle.model.specs.Question.{◌and◌, ◌or◌, every}
use Rattle.model.specs.Word.{kind_of, record_of, first_of, second_of}
use Rattle.model.specs.Types.{Dep, dep_of, rename_dep, type_of, rename, Ty, any, ref, maybe, tagged, present, same, span}
use Rattle.model.specs.Table.{Tables}
use Rattle.model.specs.Values.{Values, birthplace, typed, constants_of, some, known_equal}
use Rattle.model.specs.Reading.{known_tag, known_zero, is_ref, is_maybe, is_tagged, is_present, is_span, fits, row_fits, first_tag, reference_of}
use Rattle.std.specs.Prelude.{Option}
use Rattle.std.specs.Prelude.{Some, None}
use Rattle.model.proofs.Logic.{by_test, by_equality, either, or-true, or-of-true}
use Rattle.known.specs.Numbers.{dep_at, sibling_of, named_of, serves_as_tag}
use Rattle.known.proofs.Numbers.{or-false, dep-name, type-any, type-ref, type-maybe, type-tagged, type-present, type-same, type-span, by_kind}
use Rattle.fits.specs.Fits.{meant, Refers, to_record, by_tag, by_nothing, refers, refers_of, by_record, by_own_tag, tag_fits, place_fits}
use Rattle.fits.specs.declared.Referred.{Referred}

-- ---- what a value is, by its kind

module _ (vs : Values) (v k : ℕ) (ek : k ≡ kind_of (get_or vs.words v 0)) where
  abbrev σ : ℕ → ℕ
  σ = λ i. get_or vs.frames (birthplace v) 0 + i

  abbrev m : ℕ
  m = get_or vs.words v 0

  module _ (u : ℕ) (eu : u ≡ record_of m) where
    refers-ref : k ≡ 1 → to_record u ≡ refers (typed vs v)
    unfolding refers typed
    refers-ref h = rw (type-ref σ m (sym ek ∙ h), ← eu)

    refers-in : k ≡ 8 → to_record u ≡ refers (typed vs v)
    unfolding refers typed
    refers-in h = rw (type-span σ m 2 (sym ek ∙ h), ← eu)

    pub refers-record : (k ≡ 1) ⊎ (k ≡ 8) → to_record u ≡ refers (typed vs v)
    refers-record h = ⊎_elim refers-ref refers-in h

    pub maybe_maybe : (𝒯 : Tables) (t : ℕ) → k ≡ 2 → eqb u t ≡ is_maybe 𝒯 vs t (typed vs v)
    unfolding is_maybe typed
    maybe_maybe 𝒯 t h = rw (type-maybe σ m (sym ek ∙ h), ← eu)

    -- the tag d wanted is one of its record type
    pub tag-of-record : (𝒯 : Tables) (present : Bool) (d : Dep) → by_record present k ≡ true
        → (b : Bool) → b ≡ some (serves_as_tag false 𝒯 u) (constants_of vs d) → b ≡ tag_fits 𝒯 vs present d (typed vs v)
    unfolding by_record tag_fits is_tagged is_present typed known_tag ◌and◌
    tag-of-record 𝒯 true d h b eb =
        either (or-true (eqb k 1) (eqb k 8) h)
        (λ q. rw (type-ref σ m (sym ek ∙ eqb-true k 1 q), ← eu) eb)
        (λ q. rw (type-span σ m 2 (sym ek ∙ eqb-true k 8 q), ← eu) eb)
    tag-of-record 𝒯 false d h b eb =
        either (or-true (eqb k 1) (eqb k 8 or eqb k 2) h)
        (λ q. rw (type-ref σ m (sym ek ∙ eqb-true k 1 q), ← eu) eb)
        (λ h. either (or-true (eqb k 8) (eqb k 2) h)
        (λ q. rw (type-span σ m 2 (sym ek ∙ eqb-true k 8 q), ← eu) eb)
        (λ q. rw (type-maybe σ m (sym ek ∙ eqb-true k 2 q), ← eu) eb))

  pub refers-other : ((k ≡ 1) ⊎ (k ≡ 8) → ⊥) → (k ≡ 4 → ⊥) → by_nothing ≡ refers (typed vs v)
  unfolding refers typed
  refers-other n n4 =
      by_kind (kind_of m) (λ e. rw (type-any σ m e)) (λ e. absurd (n (inl (ek ∙ e)))) (λ e. rw (type-maybe σ m e)) (λ e. rw (type-tagged σ m e))
      (λ e. absurd (n4 (ek ∙ e))) (λ e. rw (type-same σ m e)) (λ j e. rw (type-span σ m j e, ne_eqb j 2 (λ z. n (inr (omega arith)))))

  pub maybe-other : (𝒯 : Tables) (t : ℕ) → (k ≡ 2 → ⊥) → (k ≡ 3 → ⊥) → false ≡ is_maybe 𝒯 vs t (typed vs v)
  unfolding is_maybe typed
  maybe-other 𝒯 t n2 n3 =
      by_kind (kind_of m) (λ e. rw (type-any σ m e)) (λ e. rw (type-ref σ m e)) (λ e. absurd (n2 (ek ∙ e))) (λ e. absurd (n3 (ek ∙ e)))
      (λ e. rw (type-present σ m e)) (λ e. rw (type-same σ m e)) (λ j e. rw (type-span σ m j e))

  pub tag-other : (𝒯 : Tables) (present : Bool) (d : Dep) → by_record present k ≡ false → by_own_tag present k ≡ false
      → false ≡ tag_fits 𝒯 vs present d (typed vs v)
  unfolding by_record by_own_tag tag_fits is_tagged is_present typed ◌and◌ ◌or◌
  tag-other 𝒯 true d r o =
      by_kind (kind_of m) (λ e. rw (type-any σ m e)) (λ e. absurd (false≢true (sym (rw (ek ∙ e) at r)))) (λ e. rw (type-maybe σ m e))
      (λ e. rw (type-tagged σ m e)) (λ e. absurd (false≢true (sym (rw (ek ∙ e) at o)))) (λ e. rw (type-same σ m e))
      (λ j e. by_equality j 2 (λ z. let q : k ≡ 8 = omega arith in absurd (false≢true (sym (rw q at r)))) (λ n. rw (type-span σ m j e, ne_eqb j 2 n)))
  tag-other 𝒯 false d r o =
      by_kind (kind_of m) (λ e. rw (type-any σ m e)) (λ e. absurd (false≢true (sym (rw (ek ∙ e) at r))))
      (λ e. absurd (false≢true (sym (rw (ek ∙ e) at r)))) (λ e. absurd (false≢true (sym (rw (ek ∙ e) at o))))
      (λ e. absurd (false≢true (sym (rw (ek ∙ e) at o)))) (λ e. rw (type-same σ m e))
      (λ j e. by_equality j 2 (λ z. let q : k ≡ 8 = omega arith in absurd (false≢true (sym (rw q at r)))) (λ n. rw (type-span σ m j e, ne_eqb j 2 n)))

  -- x is the dependency of v
  module _ (x p : ℕ) (ep : p ≡ first_of m) (ex : dep_at x ≡ sibling_of (get_or vs.frames (birthplace v) 0) p) where
    own : dep_at x ≡ rename_dep σ (dep_of (first_of m))
    unfolding sibling_of
    own = ex ∙ rw ep

    pub refers-present : k ≡ 4 → by_tag (dep_at x) ≡ refers (typed vs v)
    unfolding refers typed
    refers-present h = rw (type-present σ m (sym ek ∙ h), ← own)

    pub maybe_tagged : (𝒯 : Tables) (t : ℕ) → k ≡ 3 → (b : Bool) → b ≡ some (serves_as_tag true 𝒯 t) (constants_of vs (dep_at x))
        → b ≡ is_maybe 𝒯 vs t (typed vs v)
    unfolding is_maybe typed
    maybe_tagged 𝒯 t h b eb = rw (type-tagged σ m (sym ek ∙ h), ← own) eb

    -- its own tag is known equal to the tag d wanted
    pub tag-of-own : (𝒯 : Tables) (present : Bool) (d : Dep) → by_own_tag present k ≡ true
        → (b : Bool) → b ≡ known_equal vs (dep_at x) d → b ≡ tag_fits 𝒯 vs present d (typed vs v)
    unfolding by_own_tag tag_fits is_tagged is_present typed
    tag-of-own 𝒯 true d h b eb = rw (type-present σ m (sym ek ∙ eqb-true k 4 h), ← own) eb
    tag-of-own 𝒯 false d h b eb =
        either (or-true (eqb k 4) (eqb k 3) h) (λ q. rw (type-present σ m (sym ek ∙ eqb-true k 4 q), ← own) eb)
        (λ q. rw (type-tagged σ m (sym ek ∙ eqb-true k 3 q), ← own) eb)

-- what makes a value a reference says whether it is Ref t, and which record it refers to
module _ (𝒯 : Tables) (vs : Values) where
  abbrev pub ref_to : ℕ → Refers → Bool
  ref_to t (to_record u) = eqb u t
  ref_to t (by_tag d) = some (serves_as_tag false 𝒯 t) (constants_of vs d)
  ref_to t by_nothing = false

  abbrev pub reference_by : Refers → (Option ℕ)
  reference_by (to_record u) = Some u
  reference_by (by_tag d) = first_tag 𝒯 (constants_of vs d)
  reference_by by_nothing = None

  ref-by : (t : ℕ) (ty : Ty) → ref_to t (refers ty) ≡ is_ref 𝒯 vs t ty
  unfolding refers is_ref known_tag ◌and◌
  ref-by t any = refl
  ref-by t (ref u) = refl
  ref-by t (maybe u) = refl
  ref-by t (tagged d) = refl
  ref-by t (present d) = refl
  ref-by t (same d) = refl
  ref-by t (span k u d e) = by_test (eqb k 2) (λ q. rw q) (λ q. rw q)

  reference-by : (ty : Ty) → reference_by (refers ty) ≡ reference_of 𝒯 vs ty
  unfolding refers reference_of
  reference-by any = refl
  reference-by (ref t) = refl
  reference-by (maybe t) = refl
  reference-by (tagged d) = refl
  reference-by (present d) = refl
  reference-by (same d) = refl
  reference-by (span k t d e) = by_test (eqb k 2) (λ q. rw q) (λ q. rw q)

  -- r is what the code says of the type
  module _ (ty : Ty) (r s : Option Referred) (is : r ≡ s) (e : refers_of r ≡ refers ty) where
    pub ref-told : (t : ℕ) (b : Bool) → b ≡ ref_to t (refers_of s) → b ≡ is_ref 𝒯 vs t ty
    ref-told t b eb = eb ∙ ap (λ x. ref_to t (refers_of x)) (sym is) ∙ ap (ref_to t) e ∙ ref-by t ty

    pub reference-told : (a : (Option ℕ)) → a ≡ reference_by (refers_of s) → a ≡ reference_of 𝒯 vs ty
    reference-told a ea = ea ∙ ap (λ x. reference_by (refers_of x)) (sym is) ∙ ap reference_by e ∙ reference-by ty

-- how a kind fits Tagged, and Present
module _ (present : Bool) (k : ℕ) where
  record-ref : k ≡ 1 → true ≡ by_record present k
  unfolding by_record ◌or◌
  record-ref e = by_test present (λ q. rw (q, e)) (λ q. rw (q, e))

  record-in : k ≡ 8 → true ≡ by_record present k
  unfolding by_record ◌or◌
  record-in e = by_test present (λ q. rw (q, e)) (λ q. rw (q, e))

  pub record_is : (k ≡ 1) ⊎ (k ≡ 8) → true ≡ by_record present k
  record_is h = ⊎_elim record-ref record-in h

  pub record-maybe : k ≡ 2 → not present ≡ by_record present k
  unfolding by_record ◌or◌
  record-maybe e = by_test present (λ q. rw (q, e)) (λ q. rw (q, e))

  pub record-none : ((k ≡ 1) ⊎ (k ≡ 8) → ⊥) → (k ≡ 2 → ⊥) → false ≡ by_record present k
  unfolding by_record ◌or◌
  record-none n n2 =
      let e1 = ne_eqb k 1 (λ e. n (inl e)) in
      let e8 = ne_eqb k 8 (λ e. n (inr e)) in
      by_test present (λ q. rw (q, e1, e8)) (λ q. rw (q, e1, e8, ne_eqb k 2 n2))

  pub own-present : k ≡ 4 → true ≡ by_own_tag present k
  unfolding by_own_tag ◌or◌
  own-present e = by_test present (λ q. rw (q, e)) (λ q. rw (q, e))

  pub own-tagged : k ≡ 3 → not present ≡ by_own_tag present k
  unfolding by_own_tag ◌or◌
  own-tagged e = by_test present (λ q. rw (q, e)) (λ q. rw (q, e))

  pub own-none : (k ≡ 4 → ⊥) → (k ≡ 3 → ⊥) → false ≡ by_own_tag present k
  unfolding by_own_tag ◌or◌
  own-none n4 n3 = by_test present (λ q. rw (q, ne_eqb k 4 n4)) (λ q. rw (q, ne_eqb k 4 n4, ne_eqb k 3 n3))

-- ---- the type wanted, by its kind

module _ (𝒯 : Tables) (vs : Values) (v w : ℕ) (names : List ℕ) (k : ℕ) (ek : k ≡ kind_of w) where
  abbrev τ : ℕ → ℕ
  τ = λ i. get_or names i 0

  abbrev wants : Bool
  wants = fits 𝒯 vs v (meant names w)

  pub fits-any : k ≡ 0 → true ≡ wants
  unfolding fits
  fits-any h = rw (type-any τ w (sym ek ∙ h))

  module _ (t : ℕ) (et : t ≡ record_of w) where
    pub fits-is-ref : 1 ≤ k → k ≤ 2 → is_ref 𝒯 vs t (typed vs v) ≡ true → true ≡ wants
    unfolding fits ◌or◌
    fits-is-ref l h q =
        by_equality k 1 (λ e. rw (type-ref τ w (sym ek ∙ e), ← et, q))
        (λ n. rw (type-maybe τ w (omega arith), ← et, q))

    module _ (q : is_ref 𝒯 vs t (typed vs v) ≡ false) where
      pub fits-ref : k ≡ 1 → false ≡ wants
      unfolding fits
      fits-ref e = rw (type-ref τ w (sym ek ∙ e), ← et, q)

      pub fits-zero : k ≡ 2 → known_zero 𝒯 vs v ≡ true → true ≡ wants
      unfolding fits ◌or◌
      fits-zero e z = rw (type-maybe τ w (sym ek ∙ e), ← et, q, z)

      pub fits-maybe : k ≡ 2 → known_zero 𝒯 vs v ≡ false → (b : Bool) → b ≡ is_maybe 𝒯 vs t (typed vs v) → b ≡ wants
      unfolding fits ◌or◌
      fits-maybe e z b eb = rw (type-maybe τ w (sym ek ∙ e), ← et, q, z) eb

  -- y is the dependency wanted
  module _ (y p : ℕ) (ep : p ≡ first_of w) (ey : dep_at y ≡ named_of names p) where
    wanted : dep_at y ≡ rename_dep τ (dep_of (first_of w))
    unfolding named_of
    wanted = ey ∙ rw ep

    pub fits-same : k ≡ 5 → (x : ℕ) → x ≡ v → x < 256 → (b : Bool) → b ≡ known_equal vs (dep_at x) (dep_at y) → b ≡ wants
    unfolding fits
    fits-same e x ex h b eb = rw (type-same τ w (sym ek ∙ e), ← wanted, ← ex, ← dep-name x h) eb

    -- Tagged, or Present
    module _ (l : 3 ≤ k) (h : k ≤ 4) where
      as-present : eqb k 4 ≡ true → wants ≡ tag_fits 𝒯 vs (eqb k 4) (dep_at y) (typed vs v)
      unfolding fits tag_fits
      as-present q = rw (q, type-present τ w (sym ek ∙ eqb-true k 4 q), ← wanted)

      as-tagged : eqb k 4 ≡ false → wants ≡ known_zero 𝒯 vs v or tag_fits 𝒯 vs (eqb k 4) (dep_at y) (typed vs v)
      unfolding fits tag_fits
      as-tagged q = let n = eqb-false k 4 q in rw (q, type-tagged τ w (omega arith), ← wanted)

      pub fits-tag : tag_fits 𝒯 vs (eqb k 4) (dep_at y) (typed vs v) ≡ true → true ≡ wants
      fits-tag e = by_test (eqb k 4) (λ q. sym (as-present q ∙ e)) (λ q. sym (as-tagged q ∙ or-of-true _ _ e))

      module _ (e : tag_fits 𝒯 vs (eqb k 4) (dep_at y) (typed vs v) ≡ false) where
        pub fits-present : eqb k 4 ≡ true → false ≡ wants
        fits-present q = sym (as-present q ∙ e)

        pub fits-tagged : eqb k 4 ≡ false → (b : Bool) → b ≡ known_zero 𝒯 vs v → b ≡ wants
        fits-tagged q b eb = eb ∙ sym (as-tagged q ∙ rw e (or-false _))

-- ---- a span wanted

-- the dependencies of v are known equal to those wanted: the first, and the second
module _ (vs : Values) (v w : ℕ) (names : List ℕ) where
  abbrev pub firsts : Bool
  firsts = known_equal vs (sibling_of (get_or vs.frames (birthplace v) 0) (first_of (get_or vs.words v 0))) (named_of names (first_of w))

  abbrev pub seconds : Bool
  seconds = known_equal vs (sibling_of (get_or vs.frames (birthplace v) 0) (second_of (get_or vs.words v 0))) (named_of names (second_of w))

-- of the bytes p and q
pub bound_is : (vs : Values) (names : List ℕ) (f p p' q q' : ℕ) → p ≡ p' → q ≡ q'
    → (b : Bool) → b ≡ known_equal vs (sibling_of f p) (named_of names q) → b ≡ known_equal vs (sibling_of f p') (named_of names q')
bound_is vs names f p p' q q' ep eq b eb = rw (← ep, ← eq) eb

module _ (𝒯 : Tables) (vs : Values) (v w : ℕ) (names : List ℕ) (h : 6 ≤ kind_of w) where
  abbrev ρ : ℕ → ℕ
  ρ = λ i. get_or vs.frames (birthplace v) 0 + i

  abbrev μ : ℕ → ℕ
  μ = λ i. get_or names i 0

  abbrev n : ℕ
  n = get_or vs.words v 0

  abbrev fit : Bool
  fit = fits 𝒯 vs v (meant names w)

  as-span : (j : ℕ) → kind_of w ≡ j + 6
      → fit ≡ is_span 𝒯 vs j (record_of w) (rename_dep μ (dep_of (first_of w))) (rename_dep μ (dep_of (second_of w))) (rename ρ (type_of n))
  unfolding fits typed
  as-span j e = rw (type-span μ w j e)

  of-spans : (j i : ℕ) → kind_of w ≡ j + 6 → kind_of n ≡ i + 6 → fit ≡ leb j i and eqb (record_of n) (record_of w) and firsts vs v w names and seconds vs v w names
  unfolding is_span sibling_of named_of
  of-spans j i e f = as-span j e ∙ rw (type-span ρ n i f)

  pub span_below : kind_of n < kind_of w → false ≡ fit
  unfolding is_span ◌and◌
  span_below l =
      let j = kind_of w - 6 in
      let ew : kind_of w ≡ j + 6 = omega arith in
      sym (as-span j ew
      ∙ by_kind (kind_of n) (λ e. rw (type-any ρ n e)) (λ e. rw (type-ref ρ n e)) (λ e. rw (type-maybe ρ n e)) (λ e. rw (type-tagged ρ n e))
      (λ e. rw (type-present ρ n e)) (λ e. rw (type-same ρ n e)) (λ i e. rw (type-span ρ n i e, lt-leb j i (omega arith))))

  module _ (l : kind_of w ≤ kind_of n) where
    span-ranked : fit ≡ eqb (record_of n) (record_of w) and firsts vs v w names and seconds vs v w names
    unfolding ◌and◌
    span-ranked =
        of-spans (kind_of w - 6) (kind_of n - 6) (omega arith) (omega arith)
        ∙ rw (le-leb (kind_of w - 6) (kind_of n - 6) (omega arith))

    -- of the record types r and t
    module _ (r t : ℕ) (er : r ≡ record_of n) (et : t ≡ record_of w) where
      pub span-other : (r ≡ t → ⊥) → false ≡ fit
      unfolding ◌and◌
      span-other d = sym (span-ranked ∙ rw (← er, ← et, ne_eqb r t d))

      module _ (e : r ≡ t) where
        alike : fit ≡ firsts vs v w names and seconds vs v w names
        unfolding ◌and◌
        alike = span-ranked ∙ rw (← er, ← et, eq-eqb r t e)

        pub span-first : (b : Bool) → b ≡ firsts vs v w names → b ≡ false → b ≡ fit
        unfolding ◌and◌
        span-first b eb q = q ∙ sym (alike ∙ rw (← eb, q))

        pub span-both : (b : Bool) → b ≡ firsts vs v w names → b ≡ true → (c : Bool) → c ≡ seconds vs v w names → c ≡ fit
        unfolding ◌and◌
        span-both b eb q c ec = ec ∙ sym (alike ∙ rw (← eb, q))

-- ---- rows

pub row_is : (𝒯 : Tables) (vs : Values) (n : ℕ) (row names : List ℕ) → row_fits 𝒯 vs n row names ≡ every (n - 0) 0 (place_fits 𝒯 vs row names)
unfolding row_fits place_fits
row_is 𝒯 vs n row names = rw sub-zero

pub place_is : (𝒯 : Tables) (vs : Values) (row names : List ℕ) (i : ℕ) (b : Bool)
    → b ≡ fits 𝒯 vs (get_or names i 0) (meant names (get_or row i 0)) → b ≡ place_fits 𝒯 vs row names i
unfolding place_fits
place_is 𝒯 vs row names i b e = e
