-- Inside a block a value has at most one known constant, and the type that Q10 gives is the only one that its base fits.
use mathlib.Core.Path.{◌≡◌, refl, sym, ap, ◌∙◌}
use mathlib.Core.Logic.{◌↔◌}
use mathlib.Core.Bool.{false}
use mathlib.Core.List.{List, [], ◌∷◌}
use Prim.Native.Nat.{ℕ, zero, suc, ◌≤◌, ◌<◌}
use native.Mathlib.Omega.{arith}
use lib.Dec.{ltb, eqb}
use lib.ListN.{length, get_or}
use borrow.Author.Tests.{eqb-true, eqb-false, ltb-true, lt-ltb}
use Rattle.std.specs.Prelude.{Some, None}
use Rattle.model.specs.Question.{ok}
use Rattle.model.specs.Types.{Dep, Ty, any, ref, maybe, tagged, present, same, span}
use Rattle.model.specs.Table.{Tables, tables_of, Routine, routine_of, Code, last_at}
use Rattle.model.specs.Machine.{Instruction, plain, end, malformed, form_ask}
use Rattle.model.specs.Rules.{Constant, KnownTag, Fits, ref_ref, ref_in, ref_present}
use Rattle.model.specs.Values.{Values, typed, constant_held, chain_constant, told, constants_joined, constants_of}
use Rattle.model.specs.Reading.{first_tag, reference_of, Reading}
use Rattle.model.specs.Check.{read_instruction, reading_at, read_end, no_at}
use Rattle.model.proofs.Logic.{by_test, either, ask-ok, then_ok, passed_then, ok_same, not-ok, not-true}
use Rattle.model.proofs.Lists.{Member, first, later, member-split}
use Rattle.model.proofs.KnownValues.{held-is, known_of}
use Rattle.model.proofs.Joined.{no_member, told-nothing, constant-joined}
use Rattle.model.proofs.RulesDecide.{Chained, constant-known, known_constant}
use Rattle.model.proofs.Tidy.{TidyValues, Tidy, tidy-on, plain-tidy, entry-tidy}
use Rattle.model.proofs.Rows.{eight-words, words-eight}

pub to_same : {t u : ℕ} → Some t ≡ Some u → t ≡ u
to_same e = cc

pub not-to : {t : ℕ} → None ≡ Some t → ⊥
not-to e = let z : ◌≡◌ {A = ℕ} 0 1 = cc in omega arith

ref-not-span : {t k u : ℕ} {d e : Dep} → ref t ≡ span k u d e → ⊥
ref-not-span q = let z : ◌≡◌ {A = ℕ} 0 1 = cc in omega arith

ref-not-present : {t : ℕ} {d : Dep} → ref t ≡ present d → ⊥
ref-not-present q = let z : ◌≡◌ {A = ℕ} 0 1 = cc in omega arith

span-not-present : {k u : ℕ} {d e x : Dep} → span k u d e ≡ present x → ⊥
span-not-present q = let z : ◌≡◌ {A = ℕ} 0 1 = cc in omega arith

ref-same : {t u : ℕ} → ref t ≡ ref u → t ≡ u
ref-same q = cc

span_same : {j k t u : ℕ} {d e x y : Dep} → span j t d e ≡ span k u x y → t ≡ u
span_same q = cc

present-same : {d e : Dep} → present d ≡ present e → d ≡ e
present-same q = cc

module _ (𝒯 : Tables) (vs : Values) where
  -- ---- one constant

  module _ (g : ℕ) (T : TidyValues vs g) where
    pub chained : Chained vs
    chained = record { joins = T.joins; near = T.near }

    -- inside a block no taken opcode 11 has told anything
    untold : (x : Dep) → told vs x ≡ false
    untold x = told-nothing vs x T.untested

    -- so all that is known equal has one constant at most
    chain-constant : (x : Dep) (c : ℕ) → Constant 𝒯 (known_of vs) x c → chain_constant vs x ≡ suc c
    unfolding constants_joined
    chain-constant x c C =
        let m = constant-joined 𝒯 vs T.near x c C in
        either (member-split c (constant_held (chain_constant vs x)) [] (rw (untold x) at m)) (λ h. held-is _ c h) (λ h. absurd (no_member c h))

    pub by_one_constant : (x : Dep) (c d : ℕ) → Constant 𝒯 (known_of vs) x c → Constant 𝒯 (known_of vs) x d → c ≡ d
    by_one_constant x c d C D = omega (arith, chain-constant x c C, chain-constant x d D)

    one_tag : (d : Dep) (t u : ℕ) → KnownTag 𝒯 (known_of vs) t d → KnownTag 𝒯 (known_of vs) u d → t ≡ u
    one_tag d t u K L =
        sym K.stands.names ∙ ap (λ (k : ℕ). get_or 𝒯.tags k 0) (by_one_constant d K.tag L.tag K.known L.known) ∙ L.stands.names

    -- ---- one record type

    pub one-reference : (v t u : ℕ) → Fits 𝒯 (known_of vs) v (ref t) → Fits 𝒯 (known_of vs) v (ref u) → t ≡ u
    one-reference v t u (ref_ref e) (ref_ref f) = ref-same (sym e ∙ f)
    one-reference v t u (ref_ref e) (ref_in f) = absurd (ref-not-span (sym e ∙ f))
    one-reference v t u (ref_ref e) (ref_present f L) = absurd (ref-not-present (sym e ∙ f))
    one-reference v t u (ref_in e) (ref_ref f) = absurd (ref-not-span (sym f ∙ e))
    one-reference v t u (ref_in e) (ref_in f) = span_same (sym e ∙ f)
    one-reference v t u (ref_in e) (ref_present f L) = absurd (span-not-present (sym e ∙ f))
    one-reference v t u (ref_present e K) (ref_ref f) = absurd (ref-not-present (sym f ∙ e))
    one-reference v t u (ref_present e K) (ref_in f) = absurd (span-not-present (sym f ∙ e))
    one-reference v t u (ref_present {d = d} e K) (ref_present {d = x} f L) =
        one_tag d t u K (let p : d ≡ x = present-same (sym e ∙ f) in rw p L)

  -- ---- the answer to Q10 is the type that the base fits

  first-tag : (d : Dep) (ks : List ℕ) (t : ℕ) → ((k : ℕ) → Member k ks → Constant 𝒯 (known_of vs) d k) → first_tag 𝒯 ks ≡ Some t → KnownTag 𝒯 (known_of vs) t d
  unfolding first_tag
  first-tag d [] t h e = absurd (not-to e)
  first-tag d (k ∷ ks) t h e =
      by_test (ltb k (length 𝒯.tags))
      (λ q. record { tag = k; known = h k first; stands = record { listed = ltb-true k _ q; names = to_same (rw q at e) } })
      (λ q. first-tag d ks t (λ x m. h x (later m)) (rw q at e))

  reference-typed : (v : ℕ) (ty : Ty) (t : ℕ) → typed vs v ≡ ty → reference_of 𝒯 vs ty ≡ Some t → Fits 𝒯 (known_of vs) v (ref t)
  unfolding reference_of
  reference-typed v any t h e = absurd (not-to e)
  reference-typed v (ref u) t h e = ref_ref (h ∙ ap ref (to_same e))
  reference-typed v (maybe u) t h e = absurd (not-to e)
  reference-typed v (tagged d) t h e = absurd (not-to e)
  reference-typed v (present d) t h e = ref_present h (first-tag d (constants_of vs d) t (λ k m. constant-known 𝒯 vs d k m) e)
  reference-typed v (same d) t h e = absurd (not-to e)
  reference-typed v (span k u d f) t h e =
      by_test (eqb k 2)
      (λ q. ref_in {d = d} {e = f} (h ∙ ap (λ (x : ℕ). span x u d f) (eqb-true k 2 q) ∙ ap (λ (x : ℕ). span 2 x d f) (to_same (rw q at e))))
      (λ q. absurd (not-to (rw q at e)))

  pub reference-fits : (v t : ℕ) → reference_of 𝒯 vs (typed vs v) ≡ Some t → Fits 𝒯 (known_of vs) v (ref t)
  reference-fits v t e = reference-typed v (typed vs v) t refl e

  -- a list of which k is the only member, and k a tag
  only-tag : (k : ℕ) (ks : List ℕ) → k < length 𝒯.tags → Member k ks → ((x : ℕ) → Member x ks → x ≡ k) → first_tag 𝒯 ks ≡ Some (get_or 𝒯.tags k 0)
  unfolding first_tag
  only-tag k [] l m h = elim m [ ]
  only-tag k (x ∷ ks) l m h = let e : x ≡ k = h x first in rw (e, lt-ltb k (length 𝒯.tags) l)

  module _ (g : ℕ) (T : TidyValues vs g) where
    pub fits-reference : (v t : ℕ) → Fits 𝒯 (known_of vs) v (ref t) → reference_of 𝒯 vs (typed vs v) ≡ Some t
    unfolding reference_of
    fits-reference v t (ref_ref e) = rw e
    fits-reference v t (ref_in e) = rw e
    fits-reference v t (ref_present {d = d} e K) =
        rw e
        (only-tag K.tag (constants_of vs d) K.stands.listed (known_constant 𝒯 vs (chained g T) d K.tag K.known)
        (λ x m. by_one_constant g T d x K.tag (constant-known 𝒯 vs d x m) K.known)
        ∙ ap Some K.stands.names)

    pub reference-decides : (v t : ℕ) → (reference_of 𝒯 vs (typed vs v) ≡ Some t) ↔ Fits 𝒯 (known_of vs) v (ref t)
    reference-decides v t = (reference-fits v t, fits-reference v t)

-- ---- every reading of a block is tidy

module _ (types tags : List ℕ) (C : Code) where
  abbrev 𝒯' : Tables
  𝒯' = tables_of types tags

  abbrev P' : Routine
  P' = routine_of C

  pub instruction-tidy : (b j : ℕ) (x : Instruction) (st st' : Reading) → P'.long b ≤ 32 → j < P'.long b → Tidy st (suc j)
      → read_instruction 𝒯' P' (no_at 𝒯' P' b j) b (suc j) (last_at P' b j) x st ≡ ok st' → Tidy st' (suc (suc j))
  unfolding read_instruction form_ask read_end
  instruction-tidy b j (plain x) st st' m l T q =
      let (p, q₁) = ask-ok _ _ _ q in
      let d : suc j ≡ P'.long b → ⊥ = eqb-false (suc j) (P'.long b) (not-true _ p) in
      plain-tidy 𝒯' (words-eight types tags) _ (suc j) x st st' (omega arith) (omega arith) T q₁
  instruction-tidy b j (end e) st st' m l T q =
      let (p, q₁) = ask-ok _ _ _ q in
      let (t, q₂) = ask-ok _ _ _ q₁ in
      let (o, q₃) = ask-ok _ _ _ q₂ in
      let (k, q₄) = passed_then _ _ q₃ in
      rw (← ok_same q₄) (tidy-on st (suc j) T)
  instruction-tidy b j malformed st st' m l T q = absurd (not-ok q)

  pub reading-tidy : (b j : ℕ) (st : Reading) → P'.long b ≤ 32 → j ≤ P'.long b → reading_at 𝒯' P' b j ≡ ok st → Tidy st (suc j)
  unfolding reading_at
  reading-tidy b zero st m l q = rw (← ok_same q) (entry-tidy (P'.annotation b) (unfold routine_of in (eight-words C.blocks b)))
  reading-tidy b (suc j) st m l q =
      let (st₀, r, p) = then_ok _ _ q in
      instruction-tidy b j _ st₀ st m (omega arith) (reading-tidy b j st₀ m (omega arith) r) p
