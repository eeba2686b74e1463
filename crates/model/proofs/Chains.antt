-- A routine without stores that was accepted before card 13 is accepted still.
use mathlib.Core.Path.{◌≡◌, refl, sym, ap, subst, ◌∙◌}
use mathlib.Core.Bool.{Bool, true, false, false≢true}
use mathlib.Core.List.{List, []}
use Prim.Native.Nat.{ℕ, zero, suc, ◌+◌, ◌/◌, ◌%◌, ◌≤◌, ◌<◌}
use native.Mathlib.Omega.{arith}
use lib.Dec.{eqb}
use lib.ListN.{length, get_or, set, take, drop, length-take}
use lib.Seq.{get_or-set_other, get_or-take, get_or-drop}
use borrow.Author.Tests.{eqb-true, eq-eqb, ne_eqb}
use Rattle.std.specs.Prelude.{Some}
use Rattle.model.specs.Question.{◌and◌, pick, Question, Refusal, Outcome, ok}
use Rattle.model.specs.Word.{opcode_of, a_of, b_of, c_of}
use Rattle.model.specs.Types.{Dep, name, Ty, any, ref, maybe, tagged, present, same, span}
use Rattle.model.specs.Table.{Tables, tables_of, Code, Routine, routine_of, head_of, start_of}
use Rattle.model.specs.Rules.{Known, Constant, constant_itself, by_opcode_1, by_type_same, by_taken_11, by_equal, Equal, one_value, by_one_constant}
use Rattle.model.specs.Rules.{same_of, back, chain, KnownTag, Fits, any_fits, same_equal, ref_ref, ref_in, ref_present, maybe_ref, maybe_zero}
use Rattle.model.specs.Rules.{maybe_maybe, maybe_tagged, maybe_beyond, tagged_zero, tagged_tagged, tagged_present, tagged_ref, tagged_in}
use Rattle.model.specs.Rules.{tagged_maybe, present_present, present_ref, present_in, span_span}
use Rattle.model.specs.ReadingRules.{becoming}
use Rattle.model.specs.Values.{Values, typed, known_equal}
use Rattle.model.specs.Machine.{Plain, constant, copy, add, subtract, multiply, divide, move, load, store, End, halt, jump, if_equal, if_less}
use Rattle.model.specs.Machine.{Instruction, plain, end, malformed, formed, by_opcode, decode, instruction_at, form_ask, to_load}
use Rattle.model.specs.Reading.{row_fits, Reading, born, fresh, is_open, seen, look, viewed, loaded, rekinded, not_zero, below, not_below, taken}
use Rattle.model.specs.Reading.{untaken, entry}
use Rattle.model.specs.Check.{value_in, reference_in, read_plain, edge_meets, read_edges, no_at, read_end, read_instruction, read_on, block_ask, judge}
use Rattle.model.specs.Check.{check_ask, check}
use Rattle.model.specs.Chains.{values_apart, reading_apart, block_apart, judge_apart, check_apart, WithoutStores, Keep, two_constants}
use Rattle.model.specs.Cases.{row}
use Rattle.model.proofs.Logic.{by_test, by_equality, by_less, and-true, true-and, ask-ok, ok-ask, then_ok, ok-then, passed_then, ok_same, not-ok}
use Rattle.model.proofs.Logic.{verdict-ok, ok-verdict, first_no-ok, ok-first_no}
use Rattle.model.proofs.Lists.{get_or-past, Each, none, more, each_at}
use Rattle.model.proofs.Rows.{eight-words}
use Rattle.model.proofs.Compute.{computed}
use Rattle.model.proofs.KnownValues.{known_of}
use Rattle.model.proofs.RulesDecide.{Chained, equal-known, known-equal}
use Rattle.model.proofs.ReadingDecides.{row-rule, rule-row}
use Rattle.model.proofs.Tidy.{Tidy, entry-tidy}
use Rattle.model.proofs.TableLaws.{sized}
use Rattle.model.proofs.Exactly.{passed-lengths}
use Rattle.model.proofs.Inversion.{record-ok, record-again}
use Rattle.model.proofs.Unique.{reference-fits, fits-reference, instruction-tidy}
use Rattle.model.proofs.ReadingBlocks.{asks_here}
use Rattle.model.proofs.ReadingEdges.{span-known, taken-chained, untaken-chained, there, chains}

-- ---- more is known

-- a type kept, or a span of a higher rank
data Raised : Ty → Ty → Type 0 where
  kept : {ty : Ty} → Raised ty ty
  higher : {j k t : ℕ} {d e : Dep} → j ≤ k → k ≤ 2 → Raised (span j t d e) (span k t d e)

clash : {A : Type 0} → ◌≡◌ {A = ℕ} 0 1 → A
clash z = absurd (omega arith)

raised-same : {a b : Ty} {d : Dep} → Raised a b → a ≡ same d → b ≡ same d
raised-same kept e = e
raised-same (higher l m) e = clash cc

raised-ref : {a b : Ty} {t : ℕ} → Raised a b → a ≡ ref t → b ≡ ref t
raised-ref kept e = e
raised-ref (higher l m) e = clash cc

raised-maybe : {a b : Ty} {t : ℕ} → Raised a b → a ≡ maybe t → b ≡ maybe t
raised-maybe kept e = e
raised-maybe (higher l m) e = clash cc

raised-tagged : {a b : Ty} {d : Dep} → Raised a b → a ≡ tagged d → b ≡ tagged d
raised-tagged kept e = e
raised-tagged (higher l m) e = clash cc

raised-present : {a b : Ty} {d : Dep} → Raised a b → a ≡ present d → b ≡ present d
raised-present kept e = e
raised-present (higher l m) e = clash cc

raised-span : {a b : Ty} {j t : ℕ} {d e : Dep} → Raised a b → a ≡ span j t d e → (k : ℕ) × (j ≤ k) × (b ≡ span k t d e)
raised-span {j = j} kept q = (j, omega arith, q)
raised-span {j = j} (higher {j = i} {k = k} l m) q = (k, (let a : i ≡ j = cc in omega arith), cc)

-- In is the highest rank
raised-in : {a b : Ty} {t : ℕ} {d e : Dep} → Raised a b → a ≡ span 2 t d e → b ≡ span 2 t d e
raised-in kept q = q
raised-in (higher {j = i} {k = k} l m) q = let a : i ≡ 2 = cc in let z : k ≡ 2 = omega arith in cc

-- of L at least as much is known as of K
record Stronger (K L : Known) : Type 0 where
  constant : (v : ℕ) → L.constant v ≡ K.constant v
  tested : (v : ℕ) → L.tested v ≡ K.tested v
  type : (v : ℕ) → Raised (K.type v) (L.type v)

module _ (𝒯 : Tables) (K L : Known) (S : Stronger K L) where
  mutual
    stronger-constant : {x : Dep} {c : ℕ} → Constant 𝒯 K x c → Constant 𝒯 L x c
    stronger-constant constant_itself = constant_itself
    stronger-constant (by_opcode_1 {v = v} e) = by_opcode_1 (S.constant v ∙ e)
    stronger-constant (by_type_same {v = v} e) = by_type_same (raised-same (S.type v) e)
    stronger-constant (by_taken_11 {v = v} e) = by_taken_11 (S.tested v ∙ e)
    stronger-constant (by_equal E C) = by_equal (stronger-equal E) (stronger-constant C)

    stronger-equal : {x y : Dep} → Equal 𝒯 K x y → Equal 𝒯 L x y
    stronger-equal one_value = one_value
    stronger-equal (by_one_constant C D) = by_one_constant (stronger-constant C) (stronger-constant D)
    stronger-equal (same_of {v = v} e) = same_of (raised-same (S.type v) e)
    stronger-equal (back E) = back (stronger-equal E)
    stronger-equal (chain E F) = chain (stronger-equal E) (stronger-equal F)

  stronger-tag : {t : ℕ} {d : Dep} → KnownTag 𝒯 K t d → KnownTag 𝒯 L t d
  stronger-tag T =
      record { tag = T.tag; known = stronger-constant T.known; stands = record { listed = T.stands.listed; names = T.stands.names } }

  stronger-ref : {v t : ℕ} → Fits 𝒯 K v (ref t) → Fits 𝒯 L v (ref t)
  stronger-ref {v = v} (ref_ref e) = ref_ref (raised-ref (S.type v) e)
  stronger-ref {v = v} (ref_in {d = d} {e = f} e) = ref_in {d = d} {e = f} (raised-in (S.type v) e)
  stronger-ref {v = v} (ref_present e T) = ref_present (raised-present (S.type v) e) (stronger-tag T)

  stronger-fits : (v : ℕ) (ty : Ty) → Fits 𝒯 K v ty → Fits 𝒯 L v ty
  stronger-fits v any any_fits = any_fits
  stronger-fits v (same d) (same_equal E) = same_equal (stronger-equal E)
  stronger-fits v (ref t) (ref_ref e) = stronger-ref (ref_ref e)
  stronger-fits v (ref t) (ref_in {d = d} {e = f} e) = stronger-ref (ref_in {d = d} {e = f} e)
  stronger-fits v (ref t) (ref_present e T) = stronger-ref (ref_present e T)
  stronger-fits v (maybe t) (maybe_ref F) = maybe_ref (stronger-ref F)
  stronger-fits v (maybe t) (maybe_zero C) = maybe_zero (stronger-constant C)
  stronger-fits v (maybe t) (maybe_maybe e) = maybe_maybe (raised-maybe (S.type v) e)
  stronger-fits v (maybe t) (maybe_tagged e C T) =
      maybe_tagged (raised-tagged (S.type v) e) (stronger-constant C) (record { listed = T.listed; names = T.names })
  stronger-fits v (maybe t) (maybe_beyond e C h) = maybe_beyond (raised-tagged (S.type v) e) (stronger-constant C) h
  stronger-fits v (tagged d) (tagged_zero C) = tagged_zero (stronger-constant C)
  stronger-fits v (tagged d) (tagged_tagged e E) = tagged_tagged (raised-tagged (S.type v) e) (stronger-equal E)
  stronger-fits v (tagged d) (tagged_present e E) = tagged_present (raised-present (S.type v) e) (stronger-equal E)
  stronger-fits v (tagged d) (tagged_ref e T) = tagged_ref (raised-ref (S.type v) e) (stronger-tag T)
  stronger-fits v (tagged d) (tagged_in {x = x} {y = y} e T) = tagged_in {x = x} {y = y} (raised-in (S.type v) e) (stronger-tag T)
  stronger-fits v (tagged d) (tagged_maybe e T) = tagged_maybe (raised-maybe (S.type v) e) (stronger-tag T)
  stronger-fits v (present d) (present_present e E) = present_present (raised-present (S.type v) e) (stronger-equal E)
  stronger-fits v (present d) (present_ref e T) = present_ref (raised-ref (S.type v) e) (stronger-tag T)
  stronger-fits v (present d) (present_in {x = x} {y = y} e T) = present_in {x = x} {y = y} (raised-in (S.type v) e) (stronger-tag T)
  stronger-fits v (span k t d f) (span_span {j = j} {x = x} {y = y} e h E F) =
      let (i, l, q) = raised-span (S.type v) e in
      span_span {j = i} {k = k} q (omega arith) (stronger-equal E) (stronger-equal F)

as-strong : (K : Known) → Stronger K K
as-strong K = record { constant = λ v. refl; tested = λ v. refl; type = λ v. kept }

becoming-stronger : (𝒯 : Tables) (K : Known) (v : ℕ) (ty : Ty) → Raised (K.type v) ty → Stronger K (becoming 𝒯 K v ty)
becoming-stronger 𝒯 K v ty R =
    record {
      constant = λ w. refl;
      tested = λ w. refl;
      type = λ w. by_equality w v (λ e. rw (e, eq-eqb v v refl) R) (λ d. rw (ne_eqb w v d) kept);
    }

-- ---- what was read apart is read joined

-- where at least as much is known, and through chains, a row that fitted fits
row_kept : (𝒯 : Tables) (vs ws : Values) → Stronger (known_of vs) (known_of ws) → Chained ws → (n : ℕ) (row values : List ℕ)
    → row_fits 𝒯 vs n row values ≡ true → row_fits 𝒯 ws n row values ≡ true
row_kept 𝒯 vs ws S Z n row values e =
    rule-row 𝒯 ws Z n row values (λ i h. stronger-fits 𝒯 (known_of vs) (known_of ws) S _ _ (row-rule 𝒯 vs n row values e i h))

module _ (𝒯 : Tables) (vs : Values) (Z : Chained vs) where
  equal-kept : (x y : Dep) → known_equal (values_apart vs) x y ≡ true → known_equal vs x y ≡ true
  unfolding typed
  equal-kept x y e = known-equal 𝒯 vs Z x y (equal-known 𝒯 (values_apart vs) x y e)

  -- ---- what an edge tells

  module _ (v : ℕ) (there : v < length vs.words) where
    not-zero-kept : (ty : Ty) → Stronger (known_of (not_zero (values_apart vs) v ty)) (known_of (not_zero vs v ty))
    unfolding not_zero typed
    not-zero-kept any = as-strong _
    not-zero-kept (ref t) = as-strong _
    not-zero-kept (maybe t) = as-strong _
    not-zero-kept (tagged d) = as-strong _
    not-zero-kept (present d) = as-strong _
    not-zero-kept (same d) = as-strong _
    not-zero-kept (span k t d e) = as-strong _

    -- a span that was raised is raised, and one that was not may be
    span-kept : (j q t : ℕ) (d e : Dep) → typed vs v ≡ span j t d e → q ≤ 2
        → (before now : Bool) → (before ≡ true → now ≡ true) → (now ≡ true → j ≤ q)
        → Stronger (known_of (pick before (rekinded (values_apart vs) v (suc (suc (suc (suc (suc (suc q))))))) (values_apart vs)))
        (known_of (pick now (rekinded vs v (suc (suc (suc (suc (suc (suc q))))))) vs))
    unfolding typed
    span-kept j q t d e h l true true f g = as-strong _
    span-kept j q t d e h l true false f g = absurd (false≢true (f refl))
    span-kept j q t d e h l false true f g =
        subst (λ (K : Known). Stronger (known_of vs) K) (sym (span-known 𝒯 vs Z v there q j t d e l h))
        (becoming-stronger 𝒯 (known_of vs) v (span q t d e) (rw h (higher (g refl) l)))
    span-kept j q t d e h l false false f g = as-strong _

    below-kept : (w : ℕ) (ty : Ty) → typed vs v ≡ ty → Stronger (known_of (below (values_apart vs) v w ty)) (known_of (below vs v w ty))
    unfolding below typed
    below-kept w any h = as-strong _
    below-kept w (ref t) h = as-strong _
    below-kept w (maybe t) h = as-strong _
    below-kept w (tagged d) h = as-strong _
    below-kept w (present d) h = as-strong _
    below-kept w (same d) h = as-strong _
    below-kept w (span k t d e) h =
        span-kept k 2 t d e h (omega arith) (eqb k 1 and known_equal (values_apart vs) (name w) e) (eqb k 1 and known_equal vs (name w) e)
        (λ q. let (a, b) = and-true _ _ q in true-and _ _ a (equal-kept (name w) e b))
        (λ q. let one = eqb-true k 1 (and-true _ _ q).0 in omega arith)

    not-below-kept : (w : ℕ) (ty : Ty) → typed vs v ≡ ty → Stronger (known_of (not_below (values_apart vs) v w ty)) (known_of (not_below vs v w ty))
    unfolding not_below typed
    not-below-kept w any h = as-strong _
    not-below-kept w (ref t) h = as-strong _
    not-below-kept w (maybe t) h = as-strong _
    not-below-kept w (tagged d) h = as-strong _
    not-below-kept w (present d) h = as-strong _
    not-below-kept w (same d) h = as-strong _
    not-below-kept w (span k t d e) h =
        span-kept k 1 t d e h (omega arith) (eqb k 0 and known_equal (values_apart vs) (name w) d) (eqb k 0 and known_equal vs (name w) d)
        (λ q. let (a, b) = and-true _ _ q in true-and _ _ a (equal-kept (name w) d b))
        (λ q. let none = eqb-true k 0 (and-true _ _ q).0 in omega arith)

module _ (𝒯 : Tables) (st : Reading) (g : ℕ) (T : Tidy st g) (few : g ≤ 32) where
  taken-kept : (e : End) → Stronger (known_of (taken e (reading_apart st))) (known_of (taken e st))
  unfolding taken typed
  taken-kept halt = as-strong _
  taken-kept (jump t) = as-strong _
  taken-kept (if_equal x k t) = as-strong _
  taken-kept (if_less x y t) = below-kept 𝒯 st.values (chains 𝒯 st g T few) (value_in st x) (there 𝒯 st g T few x) (value_in st y) _ refl

  untaken-kept : (e : End) → Stronger (known_of (untaken e (reading_apart st))) (known_of (untaken e st))
  unfolding untaken typed
  untaken-kept halt = as-strong _
  untaken-kept (jump t) = as-strong _
  untaken-kept (if_equal x k t) =
      by_test (eqb k 0) (λ q. rw q (not-zero-kept 𝒯 st.values (chains 𝒯 st g T few) (value_in st x) (there 𝒯 st g T few x) _)) (λ q. rw q (as-strong _))
  untaken-kept (if_less x y t) = not-below-kept 𝒯 st.values (chains 𝒯 st g T few) (value_in st x) (there 𝒯 st g T few x) (value_in st y) _ refl

  -- ---- the edges of a block's end

  module _ (P : Routine) (place : Question → Refusal) where
    on_taken : (e : End) (t : ℕ) → edge_meets 𝒯 P (reading_apart st) (taken e (reading_apart st)) t ≡ true → edge_meets 𝒯 P st (taken e st) t ≡ true
    on_taken e t m = row_kept 𝒯 _ _ (taken-kept e) (taken-chained e st (chains 𝒯 st g T few)) 8 (P.annotation t) st.registers m

    on_untaken : (e : End) (t : ℕ) → edge_meets 𝒯 P (reading_apart st) (untaken e (reading_apart st)) t ≡ true → edge_meets 𝒯 P st (untaken e st) t ≡ true
    on_untaken e t m = row_kept 𝒯 _ _ (untaken-kept e) (untaken-chained e st (chains 𝒯 st g T few)) 8 (P.annotation t) st.registers m

    edges-kept : (b : ℕ) (e : End) → read_edges 𝒯 P place b e (reading_apart st) ≡ ok tt → read_edges 𝒯 P place b e st ≡ ok tt
    unfolding read_edges
    edges-kept b halt q = refl
    edges-kept b (jump t) q = ok-ask _ _ _ (on_taken (jump t) t (ask-ok _ _ _ q).0)
    edges-kept b (if_equal x k t) q =
        let (m, q₁) = ask-ok _ _ _ q in
        ok-ask _ _ _ (on_taken (if_equal x k t) t m) ∙ ok-ask _ _ _ (on_untaken (if_equal x k t) b (ask-ok _ _ _ q₁).0)
    edges-kept b (if_less x y t) q =
        let (m, q₁) = ask-ok _ _ _ q in
        ok-ask _ _ _ (on_taken (if_less x y t) t m) ∙ ok-ask _ _ _ (on_untaken (if_less x y t) b (ask-ok _ _ _ q₁).0)

-- ---- an instruction that ends no block and is no store

abbrev NotStore : Plain → Type 0
NotStore (constant a c) = Unit {0}
NotStore (copy a b) = Unit {0}
NotStore (add a b c) = Unit {0}
NotStore (subtract a b c) = Unit {0}
NotStore (multiply a b c) = Unit {0}
NotStore (divide a b c) = Unit {0}
NotStore (move a b c) = Unit {0}
NotStore (load a b c) = Unit {0}
NotStore (store a b c) = ⊥

-- a reading comes out whose counterpart apart is st'
record Follows (o : Outcome Reading) (st' : Reading) : Type 0 where
  reading : Reading
  is : st' ≡ reading_apart reading
  reads : o ≡ ok reading

module _ (𝒯 : Tables) where
  look-apart : (st : Reading) (g v t : ℕ) → look 𝒯 (reading_apart st) g v t ≡ reading_apart (look 𝒯 st g v t)
  unfolding look viewed born
  look-apart st g v t = by_test (is_open st) (λ q. rw q) (λ q. by_test (seen st v) (λ p. rw (q, p)) (λ p. rw (q, p)))

  reference-kept : (st : Reading) (g b t : ℕ) → Tidy st g → reference_in 𝒯 (reading_apart st) b ≡ Some t → reference_in 𝒯 st b ≡ Some t
  unfolding typed
  reference-kept st g b t T e =
      fits-reference 𝒯 st.values g T.values (value_in st b) t (reference-fits 𝒯 (values_apart st.values) (value_in st b) t e)

  loaded-apart : (st : Reading) (a c : ℕ) → loaded (reading_apart st) a c ≡ reading_apart (loaded st a c)
  unfolding loaded
  loaded-apart st a c = refl

  plain-kept : (place : Question → Refusal) (g : ℕ) (x : Plain) (st st' : Reading) → NotStore x → Tidy st g
      → read_plain 𝒯 place g x (reading_apart st) ≡ ok st' → Follows (read_plain 𝒯 place g x st) st'
  unfolding read_plain fresh born
  plain-kept place g (constant a c) st st' n T q = record { reading = _; is = sym (ok_same q); reads = refl }
  plain-kept place g (copy a b) st st' n T q = record { reading = _; is = sym (ok_same q); reads = refl }
  plain-kept place g (add a b c) st st' n T q = record { reading = _; is = sym (ok_same q); reads = refl }
  plain-kept place g (subtract a b c) st st' n T q = record { reading = _; is = sym (ok_same q); reads = refl }
  plain-kept place g (multiply a b c) st st' n T q = record { reading = _; is = sym (ok_same q); reads = refl }
  plain-kept place g (divide a b c) st st' n T q = record { reading = _; is = sym (ok_same q); reads = refl }
  plain-kept place g (move a b c) st st' n T q = record { reading = _; is = sym (ok_same q); reads = refl }
  plain-kept place g (load a b c) st st' n T q =
      let R = record-ok 𝒯 place to_load (reading_apart st) b c st' _ q in
      let t = R.type in
      let v = value_in st b in
      record {
        reading = loaded (look 𝒯 st g v t) a c;
        is = sym (ok_same R.rest) ∙ ap (λ (y : Reading). loaded y a c) (look-apart st g v t) ∙ loaded-apart (look 𝒯 st g v t) a c;
        reads = record-again 𝒯 _ to_load st b c t _ (reference-kept st g b t T R.reference) R.below refl R.touch;
      }
  plain-kept place g (store a b c) st st' n T q = absurd n

-- ---- blocks

abbrev Unstored : Instruction → Type 0
Unstored (plain x) = NotStore x
Unstored (end e) = Unit {0}
Unstored malformed = Unit {0}

module _ (types tags : List ℕ) (C : Code) where
  abbrev 𝒯' : Tables
  𝒯' = tables_of types tags

  abbrev P' : Routine
  P' = routine_of C

  instruction-kept : (b j : ℕ) (x : Instruction) (st st' : Reading) → suc j ≤ 32 → Unstored x → Tidy st (suc j)
      → asks_here types tags C b j x (reading_apart st) ≡ ok st' → Follows (asks_here types tags C b j x st) st'
  unfolding read_instruction form_ask read_end
  instruction-kept b j (plain x) st st' l n T q =
      let (p, q₁) = ask-ok _ _ _ q in
      let F = plain-kept 𝒯' (no_at 𝒯' P' b j) (suc j) x st st' n T q₁ in
      record { reading = F.reading; is = F.is; reads = ok-ask _ _ _ p ∙ F.reads }
  instruction-kept b j (end e) st st' l n T q =
      let (p, q₁) = ask-ok _ _ _ q in
      let (t, q₂) = ask-ok _ _ _ q₁ in
      let (o, q₃) = ask-ok _ _ _ q₂ in
      let (k, q₄) = passed_then _ _ q₃ in
      record {
        reading = st;
        is = sym (ok_same q₄);
        reads = ok-ask _ _ _ p ∙ ok-ask _ _ _ t ∙ ok-ask _ _ _ o
            ∙ ok-then _ _ tt (edges-kept 𝒯' st (suc j) T l P' (no_at 𝒯' P' b j) (suc b) e k);
      }
  instruction-kept b j malformed st st' l n T q = absurd (not-ok q)

  module _ (unstored : (b j : ℕ) → Unstored (instruction_at P' b j)) (b : ℕ) (short : P'.long b ≤ 32) where
    rest-kept : (n j : ℕ) (st : Reading) → j + n ≡ P'.long b → Tidy st (suc j) → read_on 𝒯' P' b n j (reading_apart st) ≡ ok tt
        → read_on 𝒯' P' b n j st ≡ ok tt
    unfolding read_on
    rest-kept zero j st l T q = refl
    rest-kept (suc n) j st l T q =
        let (st', p, r) = then_ok _ _ q in
        let F = instruction-kept b j (instruction_at P' b j) st st' (omega arith) (unstored b j) T p in
        ok-then _ _ F.reading F.reads
        ∙ rest-kept n (suc j) F.reading (omega arith)
        (instruction-tidy types tags C b j (instruction_at P' b j) st F.reading short (omega arith) T F.reads) (rw F.is at r)

    block-kept : block_apart 𝒯' P' b ≡ ok tt → block_ask 𝒯' P' b ≡ ok tt
    unfolding block_apart block_ask
    block-kept q =
        rest-kept (P'.long b) 0 (entry (P'.annotation b)) (omega arith)
        (entry-tidy (P'.annotation b) (unfold routine_of in (eight-words C.blocks b))) q

-- ---- a routine whose code has no word of a store

formed-unstored : (b : Bool) (x : Instruction) → Unstored x → Unstored (formed b x)
unfolding formed
formed-unstored true x h = h
formed-unstored false x h = tt

-- all rows of opcodes but that of the store
rows-unstored : (a b c : ℕ) → Each Unstored (set (by_opcode a b c) 9 malformed)
unfolding by_opcode
rows-unstored a b c =
    more (formed-unstored _ (end halt) tt)
    (more (formed-unstored _ (plain (constant a c)) tt)
    (more (formed-unstored _ (plain (copy a b)) tt)
    (more (formed-unstored _ (plain (add a b c)) tt)
    (more (formed-unstored _ (plain (subtract a b c)) tt)
    (more (formed-unstored _ (plain (multiply a b c)) tt)
    (more (formed-unstored _ (plain (divide a b c)) tt)
    (more (formed-unstored _ (plain (move a b c)) tt)
    (more (formed-unstored _ (plain (load a b c)) tt)
    (more tt
    (more (formed-unstored _ (end (jump c)) tt)
    (more (formed-unstored _ (end (if_equal a (c / 256) (c % 256))) tt)
    (more (formed-unstored _ (end (if_less a b c)) tt) none))))))))))))

word-unstored : (w : ℕ) → (opcode_of w ≡ 9 → ⊥) → Unstored (decode w)
unfolding decode
word-unstored w d =
    let rows = by_opcode (a_of w) (b_of w) (c_of w) in
    rw (← get_or-set_other rows 9 (opcode_of w) malformed malformed d)
    (each_at malformed tt (set rows 9 malformed) (opcode_of w) (rows-unstored (a_of w) (b_of w) (c_of w)))

module _ (C : Code) (without : WithoutStores C) where
  code-unstored : (i : ℕ) → opcode_of (get_or C.code i 0) ≡ 9 → ⊥
  code-unstored i = by_less i (length C.code) (λ l. without i l) (λ l. rw (get_or-past C.code i 0 l) (λ e. omega arith))

  routine-unstored : (b j : ℕ) → Unstored (instruction_at (routine_of C) b j)
  unfolding routine_of
  routine-unstored b j = word-unstored _ (here (head_of C.blocks b) (start_of C.blocks b))
    where
      here : (n s : ℕ) → opcode_of (get_or (take n (drop s C.code)) j 0) ≡ 9 → ⊥
      here n s =
          by_less j n
          (λ l. rw (get_or-take n (drop s C.code) j 0 l, get_or-drop s C.code j 0) (code-unstored (s + j)))
          (λ l. rw (get_or-past (take n (drop s C.code)) j 0 (omega (arith, length-take n (drop s C.code)))) (λ e. omega arith))

pub keep : Keep
unfolding Keep check_apart check check_ask judge_apart judge
keep types tags C without e =
    let (tables, q) = passed_then _ _ (verdict-ok _ e) in
    let S = sized C (passed-lengths types tags C tables) in
    ok-verdict _ (
    ok-then _ _ tt tables
    ∙ ok-first_no _ 0 _ (λ b lo hi.
    block-kept types tags C (routine-unstored C without) b (S.most b (omega arith)) (first_no-ok _ 0 _ q b lo hi)))

-- what is assumed is met by a routine of the cases
pub keep-met : (check (row 1 0 0 0 0 0 0 0 0) [] (two_constants 5)).number ≡ 0
unfolding computed Keep
keep-met = keep (row 1 0 0 0 0 0 0 0 0) [] (two_constants 5) without refl
  where
    without : WithoutStores (two_constants 5)
    without zero l e = omega arith
    without (suc zero) l e = omega arith
    without (suc (suc zero)) l e = omega arith
    without (suc (suc (suc zero))) l e = omega arith
    without (suc (suc (suc (suc zero)))) l e = omega arith
    without (suc (suc (suc (suc (suc i))))) l e = omega arith
