-- The reading of Check decides the rules of ReadingRules: instructions that end no block.
use mathlib.Core.Path.{◌≡◌, refl, sym, ap, subst, ◌∙◌}
use mathlib.Core.Logic.{◌⊎◌, inl, inr}
use mathlib.Core.Bool.{Bool, true, false, false≢true}
use mathlib.Core.Option.{Option, none, some, some-injective}
use mathlib.Core.List.{List}
use Prim.Native.Nat.{ℕ, suc, ◌+◌, ◌-◌, ◌%◌, ◌^◌, ◌≤◌, ◌<◌}
use native.Mathlib.Omega.{arith}
use lib.Dec.{ltb}
use lib.ListN.{length, get_or, set}
use borrow.Author.Tests.{eqb-true, eq-eqb, lt-ltb, le-ltb, ltb-true, ltb-false}
use Rattle.std.specs.Prelude.{Option as Maybe}
use Rattle.std.specs.Prelude.{Some, None}
use Rattle.model.specs.Question.{◌or◌, Question, q10, q11, q12, q23, Refusal, Outcome, ok, refused, ask, provided}
use Rattle.model.specs.Word.{record_of, first_of, second_of, signed}
use Rattle.model.specs.Types.{Dep, Ty, any, ref, maybe, tagged, present, same, span, dep_of, type_of, rename, rename_dep}
use Rattle.model.specs.Table.{Tables}
use Rattle.model.specs.Machine.{Plain, constant, copy, add, subtract, multiply, divide, move, load, store, Access, to_load, to_store}
use Rattle.model.specs.Rules.{Fits}
use Rattle.model.specs.ReadingRules.{BlockState, holding, giving, closing, opening, PowerOfTwo, size_1, size_2, size_4, size_8, Divides}
use Rattle.model.specs.ReadingRules.{RowFits, Moves, Walks, NoMove, NoWalk, Permits, MayAccess, Sees, newly, again, Closes, Reads, copies, constants}
use Rattle.model.specs.ReadingRules.{adds, subtracts, multiplies, divides, moves_any, moves_from, moves_run, loads, opens, closes, AccessNo, no_reference}
use Rattle.model.specs.ReadingRules.{past_the_size, locked_field, another_open, PlainNo, load_no, store_no, loads_any, stores_unlocked}
use Rattle.model.specs.Values.{Values, birthplace, typed}
use Rattle.model.specs.Reading.{row_fits, reference_of, Reading, fresh, power_of_two, on_span, moves, walks, moved_word, is_open, seen, viewed, look}
use Rattle.model.specs.Reading.{loaded, stored}
use Rattle.model.specs.Check.{value_in, with_reference, reference_in, may_touch, permits, on_record, read_plain}
use Rattle.model.proofs.Logic.{by_test, by_less, either, true-and, or-true, not-true, not-false, every_true, true-every, ok_same}
use Rattle.model.proofs.Logic.{not-ok, refused-same, pick-both}
use Rattle.model.proofs.KnownValues.{option_of, known_of}
use Rattle.model.proofs.RulesDecide.{Chained, fits-rule, rule_fits}
use Rattle.model.proofs.Inversion.{OnRecord, record-ok, may-touch, record-again, moves-span, walks-span}
use Rattle.model.proofs.Decode.{PlainFine}
use Rattle.model.proofs.Tidy.{Tidy, look-tidy}
use Rattle.model.proofs.Mean.{kinded}
use Rattle.model.proofs.Unique.{chained, reference-fits, reference-decides, not-to}
use Rattle.model.proofs.ReadingStates.{through_of, state_of, fresh-state, SeesWith, look-sees, closed-state, opened-state}

pub none-not-some : {A : Type 0} {a : A} → ◌≡◌ {A = Option A} none (some a) → ⊥
none-not-some e = let z : ◌≡◌ {A = ℕ} 0 1 = cc in omega arith

-- ---- opcode 7

power-is : (z : ℕ) → power_of_two z ≡ true → PowerOfTwo z
power-is z e =
    either (or-true _ _ e) (λ p. rw (eqb-true z 1 p) size_1)
    (λ e. either (or-true _ _ e) (λ p. rw (eqb-true z 2 p) size_2)
    (λ e. either (or-true _ _ e) (λ p. rw (eqb-true z 4 p) size_4) (λ p. rw (eqb-true z 8 p) size_8)))

is-power : (z : ℕ) → PowerOfTwo z → power_of_two z ≡ true
unfolding ◌or◌
is-power z size_1 = refl
is-power z size_2 = refl
is-power z size_4 = refl
is-power z size_8 = refl

-- for these sizes c as it stands is a multiple exactly where the signed c is
wraps : (z c : ℕ) → PowerOfTwo z → c < 2 ^ 16 → c % z ≡ 0 → suc (2 ^ 16 - (c + 1)) % z ≡ 0
wraps z c size_1 h e = omega arith
wraps z c size_2 h e = omega arith
wraps z c size_4 h e = omega arith
wraps z c size_8 h e = omega arith

unwraps : (z c : ℕ) → PowerOfTwo z → c < 2 ^ 16 → suc (2 ^ 16 - (c + 1)) % z ≡ 0 → c % z ≡ 0
unwraps z c size_1 h e = omega arith
unwraps z c size_2 h e = omega arith
unwraps z c size_4 h e = omega arith
unwraps z c size_8 h e = omega arith

divides_signed : (z c : ℕ) → PowerOfTwo z → c < 2 ^ 16 → c % z ≡ 0 → Divides z (signed c)
divides_signed z c S h e = by_less c (2 ^ 15) (λ l. rw (lt-ltb c (2 ^ 15) l) e) (λ l. rw (le-ltb c (2 ^ 15) l) (wraps z c S h e))

signed-divides : (z c : ℕ) → PowerOfTwo z → c < 2 ^ 16 → Divides z (signed c) → c % z ≡ 0
signed-divides z c S h D = by_less c (2 ^ 15) (λ l. rw (lt-ltb c (2 ^ 15) l) at D) (λ l. unwraps z c S h (rw (le-ltb c (2 ^ 15) l) at D))

-- a type over other names is a span only where the type is one
record Spanned (ty : Ty) (k t : ℕ) : Type 0 where
  first : Dep
  second : Dep
  is : ty ≡ span k t first second

spanned : (σ : ℕ → ℕ) (ty : Ty) (k t : ℕ) (d e : Dep) → rename σ ty ≡ span k t d e → Spanned ty k t
unfolding rename
spanned σ any k t d e h = absurd (let z : ◌≡◌ {A = ℕ} 0 1 = cc in omega arith)
spanned σ (ref u) k t d e h = absurd (let z : ◌≡◌ {A = ℕ} 0 1 = cc in omega arith)
spanned σ (maybe u) k t d e h = absurd (let z : ◌≡◌ {A = ℕ} 0 1 = cc in omega arith)
spanned σ (tagged x) k t d e h = absurd (let z : ◌≡◌ {A = ℕ} 0 1 = cc in omega arith)
spanned σ (present x) k t d e h = absurd (let z : ◌≡◌ {A = ℕ} 0 1 = cc in omega arith)
spanned σ (same x) k t d e h = absurd (let z : ◌≡◌ {A = ℕ} 0 1 = cc in omega arith)
spanned σ (span j u x y) k t d e h =
    let kj : j ≡ k = cc in
    let ut : u ≡ t = cc in
    record { first = x; second = y; is = rw (kj, ut) refl }

module _ (𝒯 : Tables) where
  renamed-moves : (σ : ℕ → ℕ) (ty : Ty) (c t : ℕ) (d e : Dep) → c < 2 ^ 16 → Moves 𝒯 (rename σ ty) c t d e → moves 𝒯 ty c ≡ true
  unfolding moves on_span
  renamed-moves σ ty c t d e l M =
      let S = spanned σ ty M.rank t d e M.is in
      rw S.is (true-and _ _ (is-power (𝒯.size t) M.power) (eq-eqb _ _ (signed-divides (𝒯.size t) c M.power l M.divided)))

  renamed-walks : (σ : ℕ → ℕ) (ty : Ty) (c t : ℕ) (d e : Dep) → Walks 𝒯 (rename σ ty) c t d e → walks 𝒯 ty c ≡ true
  unfolding walks on_span
  renamed-walks σ ty c t d e W =
      let S = spanned σ ty 2 t d e W.is in
      rw (S.is, W.one_size) (true-and _ _ refl (eq-eqb (𝒯.size t) (𝒯.size t) refl))

  -- ---- a row of values fits

  pub row-rule : (vs : Values) (n : ℕ) (row values : List ℕ) → row_fits 𝒯 vs n row values ≡ true → RowFits 𝒯 (known_of vs) n row values
  unfolding row_fits
  row-rule vs n row values e i h = fits-rule 𝒯 vs _ _ (every_true n 0 _ e i (omega arith) (omega arith))

  pub rule-row : (vs : Values) → Chained vs → (n : ℕ) (row values : List ℕ) → RowFits 𝒯 (known_of vs) n row values → row_fits 𝒯 vs n row values ≡ true
  unfolding row_fits
  rule-row vs Z n row values R = true-every n 0 _ (λ i lo hi. rule_fits 𝒯 vs Z _ _ (R i (omega arith)))

  -- ---- Q10, Q11, Q23 and Q12

  -- no record is open, or v is the very value that opened it
  abbrev Touchable : Reading → ℕ → Type 0
  Touchable st v = (is_open st ≡ false) ⊎ (st.base ≡ v)

  touch-rule : (st : Reading) (v : ℕ) → Touchable st v → (through_of st ≡ none) ⊎ (through_of st ≡ some v)
  touch-rule st v h =
      by_test (is_open st)
      (λ q. inr (either h (λ z. absurd (false≢true (sym z ∙ q))) (λ e. rw (q, e) refl)))
      (λ q. inl (rw q refl))

  rule-touch : (st : Reading) (v : ℕ) → (through_of st ≡ none) ⊎ (through_of st ≡ some v) → Touchable st v
  rule-touch st v h =
      by_test (is_open st)
      (λ q. inr (either h (λ n. absurd (none-not-some (sym (rw q at n)))) (λ e. some-injective st.base v (rw q at e))))
      (λ q. inl q)

  -- the access through register b at offset c is one to a record of type t
  abbrev Accessible : Access → Reading → ℕ → ℕ → ℕ → Type 0
  Accessible x st b c t = MayAccess 𝒯 x (state_of st) (value_in st b) c t

  -- the field may be loaded or stored, in the test and by the rule
  permits-rule : (x : Access) (t c : ℕ) → permits 𝒯 x t c ≡ true → Permits 𝒯 t c x
  permits-rule to_load t c p = loads_any
  permits-rule to_store t c p = stores_unlocked (not-true _ p)

  rule-permits : (x : Access) (t c : ℕ) → Permits 𝒯 t c x → permits 𝒯 x t c ≡ true
  rule-permits to_load t c loads_any = refl
  rule-permits to_store t c (stores_unlocked u) = rw u refl

  access-rule : (x : Access) (st : Reading) (b c : ℕ) (st' : Reading) (k : ℕ → Outcome Reading) (R : OnRecord 𝒯 x st b c st' k)
      → Accessible x st b c R.type
  access-rule x st b c st' k R =
      record {
        reference = reference-fits 𝒯 st.values (value_in st b) R.type R.reference;
        below = R.below;
        permitted = permits-rule x R.type c R.permitted;
        touch = touch-rule st (value_in st b) R.touch;
      }

  rule-access : (place : Question → Refusal) (x : Access) (st : Reading) (g b c t : ℕ) (k : ℕ → Outcome Reading) → Tidy st g → Accessible x st b c t
      → on_record 𝒯 (λ q. refused (place q)) x st b c k ≡ k t
  rule-access place x st g b c t k T A =
      let reference : reference_in 𝒯 st b ≡ Some t = (reference-decides 𝒯 st.values g T.values (value_in st b) t).1 A.reference in
      record-again 𝒯 _ x st b c t k reference A.below (rule-permits x t c A.permitted) (rule-touch st (value_in st b) A.touch)

  sees-one : {j v t : ℕ} {s s₁ s₂ : BlockState} {fs fs' : List ℕ} → Sees 𝒯 j v t s fs s₁ → Sees 𝒯 j v t s fs' s₂ → (fs ≡ fs') × (s₁ ≡ s₂)
  sees-one {fs = fs} {fs' = fs'} (again e) (again f) = (some-injective fs fs' (sym e ∙ f), refl)
  sees-one (again e) (newly f) = absurd (none-not-some (sym f ∙ e))
  sees-one (newly e) (again f) = absurd (none-not-some (sym e ∙ f))
  sees-one (newly e) (newly f) = (refl, refl)

  -- the instruction at offset j is read without a no, and s' holds after it
  pub record PassedPlain (place : Question → Refusal) (j : ℕ) (st : Reading) (x : Plain) (s' : BlockState) : Type 0 where
    pub reading : Reading
    pub passes : read_plain 𝒯 place (suc j) x st ≡ ok reading
    pub holds_after : state_of reading ≡ s'

  -- ---- one instruction, from the reading to the rule

  module _ (words-eight : (t : ℕ) → length (𝒯.words t) ≤ 8) (place : Question → Refusal) (j : ℕ) (small : suc j < 32)
      (st : Reading) (T : Tidy st (suc j)) where
    named : (r : ℕ) → value_in st r < 256
    named r = let h = T.registers r in omega arith

    any-state : (a c : ℕ) → state_of (fresh st (suc j) a 0 0 c) ≡ giving j (state_of st) a any (option_of c)
    unfolding rename type_of
    any-state a c = fresh-state st j a 0 0 c T small (inr refl)

    abbrev word_in : ℕ → ℕ
    word_in b = get_or st.values.words (value_in st b) 0

    abbrev frame_in : ℕ → ℕ
    frame_in b = get_or st.values.frames (birthplace (value_in st b)) 0

    abbrev moved_type : ℕ → ℕ → Ty
    moved_type b c = rename (λ x. frame_in b + x) (type_of (moved_word 𝒯 (word_in b) c))

    over : ℕ → Dep → Dep
    over b d = rename_dep (λ x. frame_in b + x) d

    span-moves : (b c : ℕ) → c < 2 ^ 16 → moves 𝒯 (type_of (word_in b)) c ≡ true
        → Moves 𝒯 (typed st.values (value_in st b)) c (record_of (word_in b))
        (over b (dep_of (first_of (word_in b)))) (over b (dep_of (second_of (word_in b))))
    unfolding rename typed over
    span-moves b c l q =
        let S = moves-span 𝒯 (word_in b) c q in
        let power = power-is _ S.step in
        record { rank = S.rank; is = rw S.is refl; power = power; divided = divides_signed _ c power l S.multiple }

    span-walks : (b c : ℕ) → walks 𝒯 (type_of (word_in b)) c ≡ true
        → Walks 𝒯 (typed st.values (value_in st b)) c (record_of (word_in b))
        (over b (dep_of (first_of (word_in b)))) (over b (dep_of (second_of (word_in b))))
    unfolding rename typed over
    span-walks b c q = let S = walks-span 𝒯 (word_in b) c q in record { is = rw S.is refl; one_size = S.one_size }

    no_walk : (b c : ℕ) → walks 𝒯 (type_of (word_in b)) c ≡ false → NoWalk 𝒯 (typed st.values (value_in st b)) c
    unfolding typed
    no_walk b c o t d e W = false≢true (sym o ∙ renamed-walks (λ x. frame_in b + x) (type_of (word_in b)) c t d e W)

    not-walks : (b c : ℕ) → NoWalk 𝒯 (typed st.values (value_in st b)) c → walks 𝒯 (type_of (word_in b)) c ≡ false
    not-walks b c N = by_test (walks 𝒯 (type_of (word_in b)) c) (λ o. absurd (N _ _ _ (span-walks b c o))) (λ o. o)

    moved-state : (a b c : ℕ)
        → state_of (fresh st (suc j) a (moved_word 𝒯 (word_in b) c) (frame_in b) 0) ≡ giving j (state_of st) a (moved_type b c) none
    moved-state a b c = fresh-state st j a (moved_word 𝒯 (word_in b) c) (frame_in b) 0 T small (inl refl)

    moved-reads : (a b c : ℕ) → c < 2 ^ 16 → Reads 𝒯 j (state_of st) (move a b c) (giving j (state_of st) a (moved_type b c) none)
    unfolding moved_word rename typed over
    moved-reads a b c l =
        by_test (walks 𝒯 (type_of (word_in b)) c)
        (λ o. let W = span-walks b c o in rw (o, kinded 7 (word_in b) (omega arith)) (moves_from W))
        (λ o. by_test (moves 𝒯 (type_of (word_in b)) c)
        (λ q. let M = span-moves b c l q in rw (o, q, kinded 6 (word_in b) (omega arith)) (moves_run M (no_walk b c o)))
        (λ q. rw (o, q) (unfold type_of in (moves_any
        (λ t d e M. false≢true (sym q ∙ renamed-moves (λ x. frame_in b + x) (type_of (word_in b)) c t d e l M)) (no_walk b c o)))))

    abbrev looked : ℕ → ℕ → Reading
    looked b t = look 𝒯 st (suc j) (value_in st b) t

    looked-sees : (b t : ℕ) → Touchable st (value_in st b) → SeesWith 𝒯 st j (value_in st b) t (looked b t)
    looked-sees b t touch = look-sees 𝒯 st j (value_in st b) t T small (words-eight t) (named b) touch

    looked-touch : (b t : ℕ) → Touchable st (value_in st b) → Touchable (looked b t) (value_in st b)
    unfolding look viewed
    looked-touch b t touch =
        pick-both (λ (x : Reading). Touchable x (value_in st b)) (is_open st) _ _ (λ q. touch)
        (λ q. pick-both (λ (x : Reading). Touchable x (value_in st b)) (seen st (value_in st b)) _ _ (λ p. touch) (λ p. touch))

    looked-tidy : (b t : ℕ) → Tidy (looked b t) (suc (suc j))
    looked-tidy b t = look-tidy 𝒯 st (suc j) (value_in st b) t (omega arith) small (words-eight t) T

    looked-chained : (b t : ℕ) → Chained (looked b t).values
    looked-chained b t = chained 𝒯 (looked b t).values (suc (suc j)) (looked-tidy b t).values

    -- the state after a store, of either kind
    abbrev stored_in : ℕ → ℕ → ℕ → ℕ → Reading
    stored_in a b c t = stored 𝒯 (looked b t) (suc j) (value_in st b) t c (value_in st a)

    abbrev row_closes : ℕ → ℕ → ℕ → ℕ → Bool
    row_closes a b c t = row_fits 𝒯 (looked b t).values (𝒯.size t) (𝒯.words t) (set (looked b t).fields c (value_in st a))

    closed_in : (a b c t : ℕ) → row_closes a b c t ≡ true → state_of (stored_in a b c t) ≡ closing (state_of (looked b t))
    closed_in a b c t q = closed-state 𝒯 (looked b t) (suc j) (value_in st b) t c (value_in st a) (looked-tidy b t) q

    opened_in : (a b c t : ℕ) → Touchable st (value_in st b) → row_closes a b c t ≡ false
        → state_of (stored_in a b c t) ≡ opening (state_of (looked b t)) (value_in st b) (set (looked b t).fields c (value_in st a))
    opened_in a b c t touch q = opened-state 𝒯 (looked b t) (suc j) (value_in st b) t c (value_in st a) (named b) (looked-touch b t touch) q

    stored-reads : (a b c t : ℕ) → Accessible to_store st b c t → Touchable st (value_in st b)
        → Reads 𝒯 j (state_of st) (store a b c) (state_of (stored_in a b c t))
    stored-reads a b c t A touch =
        by_test (row_closes a b c t)
        (λ q. subst (λ (s : BlockState). Reads 𝒯 j (state_of st) (store a b c) s) (sym (closed_in a b c t q))
        (closes A (looked-sees b t touch) (row-rule (looked b t).values (𝒯.size t) (𝒯.words t) _ q)))
        (λ q. subst (λ (s : BlockState). Reads 𝒯 j (state_of st) (store a b c) s) (sym (opened_in a b c t touch q))
        (opens A (looked-sees b t touch) (λ R. false≢true (sym q ∙ rule-row (looked b t).values (looked-chained b t) (𝒯.size t) (𝒯.words t) _ R))))

    along : {x : Plain} {s s' : BlockState} → s ≡ s' → Reads 𝒯 j (state_of st) x s → Reads 𝒯 j (state_of st) x s'
    along {x = x} e R = subst (λ (s : BlockState). Reads 𝒯 j (state_of st) x s) e R

    states-after : {st₁ st' : Reading} → ◌≡◌ {A = Outcome Reading} (ok st₁) (ok st') → state_of st₁ ≡ state_of st'
    states-after e = ap state_of (ok_same e)

    pub plain-reads : (x : Plain) → PlainFine x → (st' : Reading) → read_plain 𝒯 place (suc j) x st ≡ ok st' → Reads 𝒯 j (state_of st) x (state_of st')
    unfolding read_plain loaded
    plain-reads (constant a c) F st' q = along (sym (any-state a (suc c)) ∙ states-after q) constants
    plain-reads (copy a b) F st' q = along (states-after q) copies
    plain-reads (add a b c) F st' q = along (sym (any-state a 0) ∙ states-after q) adds
    plain-reads (subtract a b c) F st' q = along (sym (any-state a 0) ∙ states-after q) subtracts
    plain-reads (multiply a b c) F st' q = along (sym (any-state a 0) ∙ states-after q) multiplies
    plain-reads (divide a b c) F st' q = along (sym (any-state a 0) ∙ states-after q) divides
    plain-reads (move a b c) F st' q = along (sym (moved-state a b c) ∙ states-after q) (moved-reads a b c F.1)
    plain-reads (load a b c) F st' q =
        let R = record-ok 𝒯 place to_load st b c st' _ q in
        along (states-after R.rest) (loads (access-rule to_load st b c st' _ R) (looked-sees b R.type R.touch))
    plain-reads (store a b c) F st' q =
        let R = record-ok 𝒯 place to_store st b c st' _ q in
        along (states-after R.rest) (stored-reads a b c R.type (access-rule to_store st b c st' _ R) R.touch)

    -- ---- and back

    touched : {x : Access} (b c t : ℕ) → Accessible x st b c t → Touchable st (value_in st b)
    touched b c t A = rule-touch st (value_in st b) A.touch

    -- the type after a move is the one that its rule gives
    move-from : (b c t : ℕ) (d e : Dep) → Walks 𝒯 (typed st.values (value_in st b)) c t d e → moved_type b c ≡ span 1 t d e
    unfolding moved_word rename typed
    move-from b c t d e W =
        let o : walks 𝒯 (type_of (word_in b)) c ≡ true = renamed-walks (λ x. frame_in b + x) (type_of (word_in b)) c t d e W in
        let S = walks-span 𝒯 (word_in b) c o in
        let i = W.is in
        let h = rw S.is at i in
        rw (o, kinded 7 (word_in b) (omega arith)) cc

    move-run : (b c t : ℕ) (d e : Dep) → c < 2 ^ 16 → Moves 𝒯 (typed st.values (value_in st b)) c t d e
        → NoWalk 𝒯 (typed st.values (value_in st b)) c → moved_type b c ≡ span 0 t d e
    unfolding moved_word rename typed
    move-run b c t d e l M N =
        let q : moves 𝒯 (type_of (word_in b)) c ≡ true = renamed-moves (λ x. frame_in b + x) (type_of (word_in b)) c t d e l M in
        let S = moves-span 𝒯 (word_in b) c q in
        let i = M.is in
        let h = rw S.is at i in
        rw (not-walks b c N, q, kinded 6 (word_in b) (omega arith)) cc

    move-any : (b c : ℕ) → c < 2 ^ 16 → NoMove 𝒯 (typed st.values (value_in st b)) c
        → NoWalk 𝒯 (typed st.values (value_in st b)) c → moved_type b c ≡ any
    unfolding moved_word rename typed
    move-any b c l M N =
        by_test (moves 𝒯 (type_of (word_in b)) c)
        (λ q. absurd (M _ _ _ (span-moves b c l q)))
        (λ q. rw (not-walks b c N, q) (unfold type_of in refl))

    moved-after : (a b c : ℕ) (ty : Ty) → moved_type b c ≡ ty → PassedPlain place j st (move a b c) (giving j (state_of st) a ty none)
    unfolding read_plain
    moved-after a b c ty e =
        record { reading = _; passes = refl; holds_after = moved-state a b c ∙ ap (λ (x : Ty). giving j (state_of st) a x none) e }

    -- the record whose fields are seen closes once register a is stored at c
    abbrev ClosesWith : ℕ → ℕ → ℕ → List ℕ × BlockState → Type 0
    ClosesWith a c t p = Closes 𝒯 p.1.known t (set p.0 c (value_in st a))

    pub reads_plain : (x : Plain) → PlainFine x → (s' : BlockState) → Reads 𝒯 j (state_of st) x s' → PassedPlain place j st x s'
    unfolding read_plain loaded
    reads_plain (constant a c) F s' constants = record { reading = _; passes = refl; holds_after = any-state a (suc c) }
    reads_plain (copy a b) F s' copies = record { reading = _; passes = refl; holds_after = refl }
    reads_plain (add a b c) F s' adds = record { reading = _; passes = refl; holds_after = any-state a 0 }
    reads_plain (subtract a b c) F s' subtracts = record { reading = _; passes = refl; holds_after = any-state a 0 }
    reads_plain (multiply a b c) F s' multiplies = record { reading = _; passes = refl; holds_after = any-state a 0 }
    reads_plain (divide a b c) F s' divides = record { reading = _; passes = refl; holds_after = any-state a 0 }
    reads_plain (move a b c) F s' (moves_from {t = t} {d = d} {e = e} W) = moved-after a b c (span 1 t d e) (move-from b c t d e W)
    reads_plain (move a b c) F s' (moves_run {t = t} {d = d} {e = e} M N) = moved-after a b c (span 0 t d e) (move-run b c t d e F.1 M N)
    reads_plain (move a b c) F s' (moves_any M N) = moved-after a b c any (move-any b c F.1 M N)
    reads_plain (load a b c) F s' (loads {t = t} {fields = fields} {s' = s₁} A S) =
        let (f, e) = sees-one (looked-sees b t (touched b c t A)) S in
        record {
          reading = _;
          passes = rule-access place to_load st (suc j) b c t _ T A;
          holds_after = λ i. holding (e i) a (get_or (f i) c 0);
        }
    reads_plain (store a b c) F s' (closes {t = t} {fields = fields} {s' = s₁} A S C) =
        let (f, e) = sees-one (looked-sees b t (touched b c t A)) S in
        let R = subst (ClosesWith a c t) (λ i. (sym f i, sym e i)) C in
        let q : row_closes a b c t ≡ true = rule-row (looked b t).values (looked-chained b t) (𝒯.size t) (𝒯.words t) _ R in
        record {
          reading = _;
          passes = rule-access place to_store st (suc j) b c t _ T A;
          holds_after = closed_in a b c t q ∙ ap (λ (s : BlockState). closing s) e;
        }
    reads_plain (store a b c) F s' (opens {t = t} {fields = fields} {s' = s₁} A S N) =
        let touch = touched b c t A in
        let (f, e) = sees-one (looked-sees b t touch) S in
        by_test (row_closes a b c t)
        (λ q. absurd (N (subst (ClosesWith a c t) (λ i. (f i, e i)) (row-rule (looked b t).values (𝒯.size t) (𝒯.words t) _ q))))
        (λ q. record {
          reading = _;
          passes = rule-access place to_store st (suc j) b c t _ T A;
          holds_after = opened_in a b c t touch q ∙ (λ i. opening (e i) (value_in st b) (set (f i) c (value_in st a)));
        })

    -- ---- refusals, both ways

    -- the access through register b at offset c has its first no to a question, of which r is the refusal
    record RefusedAt (x : Access) (b c : ℕ) (r : Refusal) : Type 0 where
      question : Question
      is : r ≡ place question
      no : AccessNo 𝒯 (state_of st) (value_in st b) c x question

    no-fit : (v : ℕ) → reference_of 𝒯 st.values (typed st.values v) ≡ None → (t : ℕ) → Fits 𝒯 (known_of st.values) v (ref t) → ⊥
    no-fit v e t F = not-to (sym e ∙ (reference-decides 𝒯 st.values (suc j) T.values v t).1 F)

    -- Q11, Q23 and Q12 of an access to a record of type t, the last two, and Q12 alone
    abbrev asks_touch : ℕ → Outcome Reading → Outcome Reading
    asks_touch b next = ask (may_touch 𝒯 st (value_in st b)) (place q12) (λ _. next)

    abbrev asks_lock : Access → ℕ → ℕ → (ℕ → Outcome Reading) → ℕ → Outcome Reading
    asks_lock x b c k t = ask (permits 𝒯 x t c) (place q23) (λ _. asks_touch b (k t))

    abbrev asks_below : Access → ℕ → ℕ → (ℕ → Outcome Reading) → ℕ → Outcome Reading
    asks_below x b c k t = ask (ltb c (𝒯.size t)) (place q11) (λ _. asks_lock x b c k t)

    -- only a store has a no to Q23
    is-locked : (x : Access) (b c t : ℕ) → Fits 𝒯 (known_of st.values) (value_in st b) (ref t) → c < 𝒯.size t → permits 𝒯 x t c ≡ false
        → AccessNo 𝒯 (state_of st) (value_in st b) c x q23
    is-locked to_load b c t F h p = absurd (false≢true (sym p))
    is-locked to_store b c t F h p = locked_field F h (not-false _ p)

    access-refused : (x : Access) (b c : ℕ) (k : ℕ → Reading) (r : Refusal)
        → on_record 𝒯 (λ q. refused (place q)) x st b c (λ t. ok (k t)) ≡ refused r → RefusedAt x b c r
    unfolding on_record with_reference provided
    access-refused x b c k r q = go (reference_in 𝒯 st b) refl q
      where
        touching : (t : ℕ) → reference_in 𝒯 st b ≡ Some t → c < 𝒯.size t → permits 𝒯 x t c ≡ true → asks_touch b (ok (k t)) ≡ refused r → RefusedAt x b c r
        touching t e h u q =
            by_test (may_touch 𝒯 st (value_in st b)) (λ p. absurd (not-ok (sym (rw p at q))))
            (λ p. record {
              question = q12;
              is = sym (refused-same {A = Reading} (rw p at q));
              no = another_open (reference-fits 𝒯 st.values (value_in st b) t e) h (permits-rule x t c u)
                  (λ n. false≢true (sym p ∙ may-touch 𝒯 st (value_in st b) (rule-touch st (value_in st b) (inl n))))
                  (λ n. false≢true (sym p ∙ may-touch 𝒯 st (value_in st b) (rule-touch st (value_in st b) (inr n))));
            })

        permitting : (t : ℕ) → reference_in 𝒯 st b ≡ Some t → c < 𝒯.size t → asks_lock x b c (λ t. ok (k t)) t ≡ refused r → RefusedAt x b c r
        permitting t e h q =
            by_test (permits 𝒯 x t c) (λ p. touching t e h p (rw p at q))
            (λ p. record {
              question = q23;
              is = sym (refused-same {A = Reading} (rw p at q));
              no = is-locked x b c t (reference-fits 𝒯 st.values (value_in st b) t e) h p;
            })

        go : (o : Maybe ℕ) → reference_in 𝒯 st b ≡ o
            → with_reference o (refused (place q10)) (asks_below x b c (λ t. ok (k t))) ≡ refused r → RefusedAt x b c r
        go None e q = record { question = q10; is = sym (refused-same {A = Reading} q); no = no_reference (no-fit (value_in st b) e) }
        go (Some t) e q =
            by_test (ltb c (𝒯.size t)) (λ p. permitting t e (ltb-true _ _ p) (rw p at q))
            (λ p. record {
              question = q11;
              is = sym (refused-same {A = Reading} (rw p at q));
              no = past_the_size (reference-fits 𝒯 st.values (value_in st b) t e) (ltb-false _ _ p);
            })

    refused-access : (x : Access) (b c : ℕ) (k : ℕ → Outcome Reading) (q : Question) → AccessNo 𝒯 (state_of st) (value_in st b) c x q
        → on_record 𝒯 (λ r. refused (place r)) x st b c k ≡ refused (place q)
    unfolding on_record with_reference provided
    refused-access x b c k q (no_reference N) = go (reference_in 𝒯 st b) refl
      where
        go : (o : Maybe ℕ) → reference_in 𝒯 st b ≡ o
            → with_reference o (refused (place q10)) (asks_below x b c k) ≡ refused (place q10)
        go None e = refl
        go (Some t) e = absurd (N t (reference-fits 𝒯 st.values (value_in st b) t e))
    refused-access x b c k q (past_the_size {t = t} F h) =
        rw ((reference-decides 𝒯 st.values (suc j) T.values (value_in st b) t).1 F, le-ltb c (𝒯.size t) h) refl
    refused-access x b c k q (locked_field {t = t} F h u) =
        rw ((reference-decides 𝒯 st.values (suc j) T.values (value_in st b) t).1 F, lt-ltb c (𝒯.size t) h, u) refl
    refused-access x b c k q (another_open {t = t} F h u m n) =
        by_test (may_touch 𝒯 st (value_in st b))
        (λ p. absurd (either (or-true _ _ p) (λ z. m (rw (not-true (is_open st) z) refl))
        (λ z. either (touch-rule st (value_in st b) (inr (eqb-true _ _ z))) m n)))
        (λ p. rw ((reference-decides 𝒯 st.values (suc j) T.values (value_in st b) t).1 F, lt-ltb c (𝒯.size t) h, rule-permits x t c u, p) refl)

    pub record RefusedPlain (x : Plain) (r : Refusal) : Type 0 where
      pub question : Question
      pub is : r ≡ place question
      pub no : PlainNo 𝒯 (state_of st) x question

    pub plain-refused : (x : Plain) (r : Refusal) → read_plain 𝒯 place (suc j) x st ≡ refused r → RefusedPlain x r
    unfolding read_plain
    plain-refused (constant a c) r q = absurd (not-ok (sym q))
    plain-refused (copy a b) r q = absurd (not-ok (sym q))
    plain-refused (add a b c) r q = absurd (not-ok (sym q))
    plain-refused (subtract a b c) r q = absurd (not-ok (sym q))
    plain-refused (multiply a b c) r q = absurd (not-ok (sym q))
    plain-refused (divide a b c) r q = absurd (not-ok (sym q))
    plain-refused (move a b c) r q = absurd (not-ok (sym q))
    plain-refused (load a b c) r q = let R = access-refused to_load b c _ r q in record { question = R.question; is = R.is; no = load_no R.no }
    plain-refused (store a b c) r q = let R = access-refused to_store b c _ r q in record { question = R.question; is = R.is; no = store_no R.no }

    pub refused-plain : (x : Plain) (q : Question) → PlainNo 𝒯 (state_of st) x q → read_plain 𝒯 place (suc j) x st ≡ refused (place q)
    unfolding read_plain
    refused-plain (constant _ _) q n = elim n [ ]
    refused-plain (copy _ _) q n = elim n [ ]
    refused-plain (add _ _ _) q n = elim n [ ]
    refused-plain (subtract _ _ _) q n = elim n [ ]
    refused-plain (multiply _ _ _) q n = elim n [ ]
    refused-plain (divide _ _ _) q n = elim n [ ]
    refused-plain (move _ _ _) q n = elim n [ ]
    refused-plain (load a b c) q (load_no N) = refused-access to_load b c _ q N
    refused-plain (store a b c) q (store_no N) = refused-access to_store b c _ q N
