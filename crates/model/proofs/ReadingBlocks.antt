-- A routine is accepted exactly when every instruction obeys the rules of ReadingRules.
use mathlib.Core.Path.{◌≡◌, refl, sym, ap, fun_ext, subst, ◌∙◌}
use mathlib.Core.Logic.{◌↔◌}
use mathlib.Core.Bool.{Bool, true, false, not, false≢true}
use mathlib.Core.Option.{Option, none}
use mathlib.Core.List.{List}
use Prim.Native.Nat.{ℕ, zero, suc, ◌+◌, ◌*◌, ◌≤◌, ◌<◌}
use native.Mathlib.Omega.{arith}
use native.Mathlib.Nat.{zero-add}
use lib.Dec.{eqb}
use lib.ListN.{length, get_or}
use borrow.Author.Tests.{eqb-true, eqb-false, eq-eqb, ne_eqb}
use Rattle.std.specs.Prelude.{Some}
use Rattle.model.specs.Question.{Question, q7, q8, q9, q13, q14, q15, Refusal, Outcome, ok, refused, ask, then, provided}
use Rattle.model.specs.Types.{Dep, name, con, Ty, any, ref, maybe, tagged, present, same, span, type_of, rename, rename_dep}
use Rattle.model.specs.Table.{Tables, tables_of, Code, Routine, routine_of, last_at, lengths_ask}
use Rattle.model.specs.Machine.{Plain, End, halt, jump, if_equal, if_less, Instruction, plain, end, malformed, instruction_at, targets_exist}
use Rattle.model.specs.Machine.{form_ask}
use Rattle.model.specs.Rules.{Known, Fits}
use Rattle.model.specs.ReadingRules.{made, BlockState, holds, on_entry, Reads, EdgeMeets, EdgesMeet, halt_meets, jump_meets, equal_meets}
use Rattle.model.specs.ReadingRules.{less_meets, Obeys, in_block, ends_block, Reaches, enters, reads_on, ObeysAt, EdgesNo, jump_no, equal_no}
use Rattle.model.specs.ReadingRules.{not_equal_no, less_no, not_less_no, Disobeys, no_form, too_late, no_access, too_early, no_target}
use Rattle.model.specs.ReadingRules.{still_open, no_edge, TypeGiven, DisobeysAt, FirstDisobeys}
use Rattle.model.specs.Values.{Values, birthplace, own_constant, typed}
use Rattle.model.specs.Reading.{Reading, up_from, entry, is_open, taken, untaken}
use Rattle.model.specs.Check.{value_in, reference_in, read_plain, edge_meets, read_edges, read_end, no_at, read_instruction, read_at, reading_at, judge}
use Rattle.model.proofs.Logic.{by_test, by_equality, by_less, ask-ok, ok-ask, then_ok, ok-then, passed_then, ok_same, not-ok, not-true}
use Rattle.model.proofs.Logic.{refused-same, pick-both}
use Rattle.model.proofs.Lists.{zeros-at}
use Rattle.model.proofs.KnownValues.{option_of, known_of}
use Rattle.model.proofs.RulesDecide.{Chained, Decides, decides}
use Rattle.model.proofs.Decode.{Fine, PlainFine, decode-fine}
use Rattle.model.proofs.Tidy.{Tidy, entry-word}
use Rattle.model.proofs.Rows.{eight-words, words-eight}
use Rattle.model.proofs.Unique.{chained, to_same, reference-decides, reading-tidy}
use Rattle.model.proofs.Exactly.{questions_at, NoNo, judge-exactly, judge-refused}
use Rattle.model.proofs.TableLaws.{sized}
use Rattle.model.proofs.ReadingStates.{seen_of, through_of, state_of}
use Rattle.model.proofs.ReadingDecides.{row-rule, rule-row, plain-reads, PassedPlain, reads_plain, plain-refused, refused-plain, none-not-some}
use Rattle.model.proofs.ReadingEdges.{taken-chained, untaken-chained, jump-tells, equal-tells, less-tells, unequal-tells, not-less-tells}
use Rattle.model.proofs.ReadingEdges.{taken-one, untaken-one}

-- ---- the entry

same-dep : (d : Dep) → rename_dep (λ i. 0 + i) d ≡ d
same-dep (name i) = ap name (zero-add i)
same-dep (con c) = refl

same_type : (ty : Ty) → rename (λ i. 0 + i) ty ≡ ty
unfolding rename
same_type any = refl
same_type (ref t) = refl
same_type (maybe t) = refl
same_type (tagged d) = ap tagged (same-dep d)
same_type (present d) = ap present (same-dep d)
same_type (same d) = ap same (same-dep d)
same_type (span k t d e) = λ i. span k t (same-dep d i) (same-dep e i)

entry-state : (annotation : List ℕ) → length annotation ≤ 8 → state_of (entry annotation) ≡ on_entry annotation
unfolding entry up_from
entry-state annotation h =
    λ i. record {
      known = record { type = fun_ext type i; constant = fun_ext (λ v. ap option_of (bare v)) i; tested = fun_ext untold i };
      registers = up_from 0 8;
      seen = fun_ext unseen i;
      through = none;
    }
  where
    type : (v : ℕ) → typed (entry annotation).values v ≡ type_of (get_or annotation v 0)
    type v = unfold typed in (rw (zeros-at 32 (birthplace v), entry-word annotation v h) (same_type (type_of (get_or annotation v 0))))

    bare : (v : ℕ) → own_constant (entry annotation).values v ≡ 0
    bare v = pick-both (λ (x : ℕ). x ≡ 0) (eqb (get_or (entry annotation).values.words v 0) 0) _ 0 (λ q. zeros-at 32 (birthplace v)) (λ q. refl)

    untold : (v : ℕ) → (known_of (entry annotation).values).tested v ≡ none
    untold v = pick-both (λ (o : Option ℕ). o ≡ none) (eqb v 0) none none (λ q. refl) (λ q. refl)

    unseen : (v : ℕ) → seen_of (entry annotation) v ≡ none
    unseen v = rw (zeros-at 256 v) refl

shut-rule : (st : Reading) → is_open st ≡ false → through_of st ≡ none
shut-rule st q = rw q refl

rule-shut : (st : Reading) → through_of st ≡ none → is_open st ≡ false
rule-shut st n = by_test (is_open st) (λ q. absurd (none-not-some (sym (rw q at n)))) (λ q. q)

-- ---- edges

module _ (𝒯 : Tables) (P : Routine) (st : Reading) (g : ℕ) (T : Tidy st g) (few : g ≤ 32) (place : Question → Refusal) (b : ℕ) where
  meets : (vs : Values) (t : ℕ) → edge_meets 𝒯 P st vs t ≡ true → EdgeMeets 𝒯 P (state_of st) (known_of vs) t
  meets vs t e = row-rule 𝒯 vs 8 (P.annotation t) st.registers e

  on_taken : (e : End) → Chained (taken e st)
  on_taken e = taken-chained e st (chained 𝒯 st.values g T.values)

  on_untaken : (e : End) → Chained (untaken e st)
  on_untaken e = untaken-chained e st (chained 𝒯 st.values g T.values)

  meets-back : (vs : Values) → Chained vs → (K : Known) (t : ℕ) → K ≡ known_of vs → EdgeMeets 𝒯 P (state_of st) K t → edge_meets 𝒯 P st vs t ≡ true
  meets-back vs Z K t e M = rule-row 𝒯 vs Z 8 (P.annotation t) st.registers (subst (λ (L : Known). EdgeMeets 𝒯 P (state_of st) L t) e M)

  edges-rule : (e : End) → read_edges 𝒯 P place b e st ≡ ok tt → EdgesMeet 𝒯 P b (state_of st) e
  unfolding read_edges
  edges-rule halt q = halt_meets
  edges-rule (jump t) q = let (m, z) = ask-ok _ _ _ q in jump_meets (jump-tells 𝒯 st g T few t) (meets _ t m)
  edges-rule (if_equal x k t) q =
      let (m, q₁) = ask-ok _ _ _ q in
      let (n, z) = ask-ok _ _ _ q₁ in
      equal_meets (equal-tells 𝒯 st g T few x k t) (meets _ t m) (unequal-tells 𝒯 st g T few x k t) (meets _ b n)
  edges-rule (if_less x y t) q =
      let (m, q₁) = ask-ok _ _ _ q in
      let (n, z) = ask-ok _ _ _ q₁ in
      less_meets (less-tells 𝒯 st g T few x y t) (meets _ t m) (not-less-tells 𝒯 st g T few x y t) (meets _ b n)

  rule-edges : (e : End) → EdgesMeet 𝒯 P b (state_of st) e → read_edges 𝒯 P place b e st ≡ ok tt
  unfolding read_edges
  rule-edges halt halt_meets = refl
  rule-edges (jump t) (jump_meets K M) = ok-ask _ _ _ (meets-back _ (on_taken _) _ t (taken-one 𝒯 (state_of st) K (jump-tells 𝒯 st g T few t)) M)
  rule-edges (if_equal x k t) (equal_meets K M L N) =
      ok-ask _ _ _ (meets-back _ (on_taken _) _ t (taken-one 𝒯 (state_of st) K (equal-tells 𝒯 st g T few x k t)) M)
      ∙ ok-ask _ _ _ (meets-back _ (on_untaken _) _ b (untaken-one 𝒯 (state_of st) L (unequal-tells 𝒯 st g T few x k t)) N)
  rule-edges (if_less x y t) (less_meets K M L N) =
      ok-ask _ _ _ (meets-back _ (on_taken _) _ t (taken-one 𝒯 (state_of st) K (less-tells 𝒯 st g T few x y t)) M)
      ∙ ok-ask _ _ _ (meets-back _ (on_untaken _) _ b (untaken-one 𝒯 (state_of st) L (not-less-tells 𝒯 st g T few x y t)) N)

  -- which edge has the first no
  record RefusedEdge (e : End) (r : Refusal) : Type 0 where
    question : Question
    is : r ≡ place question
    no : EdgesNo 𝒯 P b (state_of st) e question

  meets-not : (vs : Values) → Chained vs → (t : ℕ) → edge_meets 𝒯 P st vs t ≡ false → EdgeMeets 𝒯 P (state_of st) (known_of vs) t → ⊥
  meets-not vs Z t q M = false≢true (sym q ∙ meets-back vs Z (known_of vs) t refl M)

  edges-no : (e : End) (r : Refusal) → read_edges 𝒯 P place b e st ≡ refused r → RefusedEdge e r
  unfolding read_edges provided
  edges-no halt r q = absurd (not-ok (sym q))
  edges-no (jump t) r q =
      by_test (edge_meets 𝒯 P st (taken (jump t) st) t) (λ p. absurd (not-ok (sym (rw p at q))))
      (λ p. record {
        question = q14;
        is = sym (refused-same {A = Unit {0}} (rw p at q));
        no = jump_no (jump-tells 𝒯 st g T few t) (meets-not _ (on_taken _) t p);
      })
  edges-no (if_equal x k t) r q =
      by_test (edge_meets 𝒯 P st (taken (if_equal x k t) st) t)
      (λ p. by_test (edge_meets 𝒯 P st (untaken (if_equal x k t) st) b) (λ z. absurd (not-ok (sym (rw (p, z) at q))))
      (λ z. record {
        question = q15;
        is = sym (refused-same {A = Unit {0}} (rw (p, z) at q));
        no = not_equal_no (equal-tells 𝒯 st g T few x k t) (meets _ t p) (unequal-tells 𝒯 st g T few x k t) (meets-not _ (on_untaken _) b z);
      }))
      (λ p. record {
        question = q14;
        is = sym (refused-same {A = Unit {0}} (rw p at q));
        no = equal_no (equal-tells 𝒯 st g T few x k t) (meets-not _ (on_taken _) t p);
      })
  edges-no (if_less x y t) r q =
      by_test (edge_meets 𝒯 P st (taken (if_less x y t) st) t)
      (λ p. by_test (edge_meets 𝒯 P st (untaken (if_less x y t) st) b) (λ z. absurd (not-ok (sym (rw (p, z) at q))))
      (λ z. record {
        question = q15;
        is = sym (refused-same {A = Unit {0}} (rw (p, z) at q));
        no = not_less_no (less-tells 𝒯 st g T few x y t) (meets _ t p) (not-less-tells 𝒯 st g T few x y t) (meets-not _ (on_untaken _) b z);
      }))
      (λ p. record {
        question = q14;
        is = sym (refused-same {A = Unit {0}} (rw p at q));
        no = less_no (less-tells 𝒯 st g T few x y t) (meets-not _ (on_taken _) t p);
      })

  not-meets : (vs : Values) (K : Known) (t : ℕ) → known_of vs ≡ K → (EdgeMeets 𝒯 P (state_of st) K t → ⊥) → edge_meets 𝒯 P st vs t ≡ false
  not-meets vs K t e N = by_test (edge_meets 𝒯 P st vs t) (λ p. absurd (N (subst (λ (L : Known). EdgeMeets 𝒯 P (state_of st) L t) e (meets vs t p)))) (λ p. p)

  no-ask : {A : Type 0} (c : Bool) (r : Refusal) (k : Unit {0} → Outcome A) → c ≡ false → ask c r k ≡ refused r
  unfolding provided
  no-ask c r k e = rw e

  no_edges : (e : End) (q : Question) → EdgesNo 𝒯 P b (state_of st) e q → read_edges 𝒯 P place b e st ≡ refused (place q)
  unfolding read_edges
  no_edges halt q n = elim n [ ]
  no_edges (jump t) q (jump_no K N) = no-ask _ _ _ (not-meets _ _ t (taken-one 𝒯 (state_of st) (jump-tells 𝒯 st g T few t) K) N)
  no_edges (if_equal x k t) q (equal_no K N) = no-ask _ _ _ (not-meets _ _ t (taken-one 𝒯 (state_of st) (equal-tells 𝒯 st g T few x k t) K) N)
  no_edges (if_equal x k t) q (not_equal_no K M L N) =
      ok-ask _ _ _ (meets-back _ (on_taken _) _ t (taken-one 𝒯 (state_of st) K (equal-tells 𝒯 st g T few x k t)) M)
      ∙ no-ask _ _ _ (not-meets _ _ b (untaken-one 𝒯 (state_of st) (unequal-tells 𝒯 st g T few x k t) L) N)
  no_edges (if_less x y t) q (less_no K N) = no-ask _ _ _ (not-meets _ _ t (taken-one 𝒯 (state_of st) (less-tells 𝒯 st g T few x y t) K) N)
  no_edges (if_less x y t) q (not_less_no K M L N) =
      ok-ask _ _ _ (meets-back _ (on_taken _) _ t (taken-one 𝒯 (state_of st) K (less-tells 𝒯 st g T few x y t)) M)
      ∙ no-ask _ _ _ (not-meets _ _ b (untaken-one 𝒯 (state_of st) (not-less-tells 𝒯 st g T few x y t) L) N)

-- ---- the instructions of a block

module _ (types tags : List ℕ) (C : Code) where
  abbrev 𝒯' : Tables
  𝒯' = tables_of types tags

  abbrev P' : Routine
  P' = routine_of C

  -- the questions of an instruction of block b at offset j
  abbrev pub asks_here : ℕ → ℕ → Instruction → Reading → Outcome Reading
  asks_here b j x st = read_instruction 𝒯' P' (no_at 𝒯' P' b j) b (suc j) (last_at P' b j) x st

  -- what a reading of the block is
  tidy-before : (b j : ℕ) (st : Reading) → P'.long b ≤ 32 → j < P'.long b → reading_at 𝒯' P' b j ≡ ok st → Tidy st (suc j)
  tidy-before b j st m l q = reading-tidy types tags C b j st m (omega arith) q

  -- the tests decide the rules of known constants, known equal and fits in every reading of the block, and on the edges of its end
  pub reading-decides : (b j : ℕ) (st : Reading) → P'.long b ≤ 32 → j < P'.long b → reading_at 𝒯' P' b j ≡ ok st
      → Decides 𝒯' st.values × ((e : End) → Decides 𝒯' (taken e st) × Decides 𝒯' (untaken e st))
  reading-decides b j st m l q =
      let Z = chained 𝒯' st.values (suc j) (tidy-before b j st m l q).values in
      (decides 𝒯' st.values Z, λ e. (decides 𝒯' (taken e st) (taken-chained e st Z), decides 𝒯' (untaken e st) (untaken-chained e st Z)))

  starts : (b : ℕ) → state_of (entry (P'.annotation b)) ≡ on_entry (P'.annotation b)
  starts b = entry-state (P'.annotation b) (unfold routine_of in (eight-words C.blocks b))

  -- an instruction that ends no block, both ways
  rule-of : (b j : ℕ) → suc j < 32 → (st st' : Reading) → Tidy st (suc j) → (x : Plain) → PlainFine x
      → read_plain 𝒯' (no_at 𝒯' P' b j) (suc j) x st ≡ ok st' → Reads 𝒯' j (state_of st) x (state_of st')
  rule-of b j s st st' T x F q = plain-reads 𝒯' (words-eight types tags) (no_at 𝒯' P' b j) j s st T x F st' q

  of-rule : (b j : ℕ) → suc j < 32 → (st : Reading) (s' : BlockState) → Tidy st (suc j) → (x : Plain) → PlainFine x → Reads 𝒯' j (state_of st) x s'
      → PassedPlain 𝒯' (no_at 𝒯' P' b j) j st x s'
  of-rule b j s st s' T x F D = reads_plain 𝒯' (words-eight types tags) (no_at 𝒯' P' b j) j s st T x F s' D

  not_last : (b j : ℕ) → (suc j ≡ P'.long b → ⊥) → not (last_at P' b j) ≡ true
  not_last b j d = rw (ne_eqb (suc j) (P'.long b) d) refl

  fine : (b j : ℕ) (x : Plain) → instruction_at P' b j ≡ plain x → PlainFine x
  fine b j x h = subst (λ (y : Instruction). Fine y) h (decode-fine (get_or (P'.part b) j 0))

  -- what holds of the reading before an instruction is what the rules reach
  pub reading-reaches : (b j : ℕ) (st : Reading) → P'.long b ≤ 32 → j < P'.long b → reading_at 𝒯' P' b j ≡ ok st → Reaches 𝒯' P' b j (state_of st)
  unfolding reading_at read_instruction form_ask
  reading-reaches b zero st m l q =
      subst (λ (s : BlockState). Reaches 𝒯' P' b 0 s) (sym (starts b) ∙ ap state_of (ok_same q)) enters
  reading-reaches b (suc j) st m l q =
      let (st₀, r, p) = then_ok _ _ q in
      go st₀ (tidy-before b j st₀ m (omega arith) r) (reading-reaches b j st₀ m (omega arith) r) (instruction_at P' b j) refl p
    where
      go : (st₀ : Reading) → Tidy st₀ (suc j) → Reaches 𝒯' P' b j (state_of st₀) → (x : Instruction) → instruction_at P' b j ≡ x
          → asks_here b j x st₀ ≡ ok st → Reaches 𝒯' P' b (suc j) (state_of st)
      go st₀ T R (plain x) h p = let (n, q) = ask-ok _ _ _ p in reads_on R h l (rule-of b j (omega arith) st₀ st T x (fine b j x h) q)
      go st₀ T R (end e) h p =
          let (n, q) = ask-ok _ _ _ p in
          absurd (let s : suc j ≡ P'.long b = eqb-true (suc j) (P'.long b) n in omega arith)
      go st₀ T R malformed h p = absurd (not-ok p)

  pub record ReadingOf (b j : ℕ) (s : BlockState) : Type 0 where
    pub reading : Reading
    pub reads : reading_at 𝒯' P' b j ≡ ok reading
    pub is : state_of reading ≡ s

  pub reaches-reading : (b j : ℕ) (s : BlockState) → P'.long b ≤ 32 → j < P'.long b → Reaches 𝒯' P' b j s → ReadingOf b j s
  unfolding reading_at read_instruction form_ask
  reaches-reading b zero s m l enters = record { reading = _; reads = refl; is = starts b }
  reaches-reading b (suc j) s m l (reads_on {x = x} {s = s₀} R h k D) =
      let I = reaches-reading b j s₀ m (omega arith) R in
      let st₀ = I.reading in
      let T = tidy-before b j st₀ m (omega arith) I.reads in
      let Q = of-rule b j (omega arith) st₀ s T x (fine b j x h) (subst (λ (z : BlockState). Reads 𝒯' j z x s) (sym I.is) D) in
      let inside : not (last_at P' b j) ≡ true = not_last b j (λ e. omega arith) in
      record {
        reading = Q.reading;
        reads = ok-then _ _ st₀ I.reads ∙ ap (λ (y : Instruction). asks_here b j y st₀) h ∙ ok-ask _ _ _ inside ∙ Q.passes;
        is = Q.holds_after;
      }

  -- one state holds before an instruction
  pub reaches-one : (b j : ℕ) (s s' : BlockState) → P'.long b ≤ 32 → j < P'.long b → Reaches 𝒯' P' b j s → Reaches 𝒯' P' b j s' → s ≡ s'
  reaches-one b j s s' m l R R' =
      let I = reaches-reading b j s m l R in
      let J = reaches-reading b j s' m l R' in
      sym I.is ∙ ap state_of (ok_same (sym I.reads ∙ J.reads)) ∙ J.is

  -- the answer to Q10 is the type given
  pub type-given : (b j : ℕ) (st : Reading) → P'.long b ≤ 32 → j < P'.long b → reading_at 𝒯' P' b j ≡ ok st → (r t : ℕ)
      → (reference_in 𝒯' st r ≡ Some t) ↔ TypeGiven 𝒯' P' b j r t
  type-given b j st m l q r t =
      let decides = reference-decides 𝒯' st.values (suc j) (tidy-before b j st m l q).values (value_in st r) t in (
        λ e. record { before = state_of st; reached = reading-reaches b j st m l q; reference = decides.0 e },
        λ G. let one : G.before ≡ state_of st = reaches-one b j G.before (state_of st) m l G.reached (reading-reaches b j st m l q) in
            decides.1 (subst (λ (s : BlockState). Fits 𝒯' s.known (holds s r) (ref t)) one G.reference),
      )

  -- and it is the only one
  pub type-unique : (b j r t u : ℕ) → P'.long b ≤ 32 → j < P'.long b → TypeGiven 𝒯' P' b j r t → TypeGiven 𝒯' P' b j r u → t ≡ u
  type-unique b j r t u m l G H =
      let I = reaches-reading b j G.before m l G.reached in
      let given = type-given b j I.reading m l I.reads in
      to_same (sym ((given r t).1 G) ∙ (given r u).1 H)

  -- the values that registers hold were made before
  pub held-before : (b j : ℕ) (s : BlockState) → P'.long b ≤ 32 → j < P'.long b → Reaches 𝒯' P' b j s → (r : ℕ) → holds s r < 8 * suc j
  held-before b j s m l R r =
      let I = reaches-reading b j s m l R in
      let k : value_in I.reading r ≡ holds s r = ap (λ (z : BlockState). holds z r) I.is in
      rw (← k) ((tidy-before b j I.reading m l I.reads).registers r)

  -- so those that an instruction makes are new: no register holds one of them before
  pub new-values : (b j i : ℕ) (s : BlockState) → P'.long b ≤ 32 → j < P'.long b → Reaches 𝒯' P' b j s → (r : ℕ) → holds s r ≡ made j i → ⊥
  new-values b j i s m l R r e = omega (arith, held-before b j s m l R r)

  -- ---- no question has a no at an instruction exactly when it, and those before it, obey the rules

  obeys-of : (b j : ℕ) → P'.long b ≤ 32 → j < P'.long b → NoNo 𝒯' P' b j → ObeysAt 𝒯' P' b j
  unfolding read_instruction form_ask read_end
  obeys-of b j m l (st, q) =
      let (st₀, r, p) = then_ok _ _ q in
      let T = tidy-before b j st₀ m l r in
      record {
        before = state_of st₀;
        reached = reading-reaches b j st₀ m l r;
        obeys = go st₀ T (instruction_at P' b j) (decode-fine (get_or (P'.part b) j 0)) p;
      }
    where
      go : (st₀ : Reading) → Tidy st₀ (suc j) → (x : Instruction) → Fine x → asks_here b j x st₀ ≡ ok st → Obeys 𝒯' P' b j (state_of st₀) x
      go st₀ T (plain x) F p =
          let (n, q) = ask-ok _ _ _ p in
          let d : suc j ≡ P'.long b → ⊥ = eqb-false (suc j) (P'.long b) (not-true _ n) in
          in_block d (rule-of b j (omega arith) st₀ st T x F q)
      go st₀ T (end e) F p =
          let (n, q₁) = ask-ok _ _ _ p in
          let (t, q₂) = ask-ok _ _ _ q₁ in
          let (o, q₃) = ask-ok _ _ _ q₂ in
          let (k, q₄) = passed_then _ _ q₃ in
          ends_block (eqb-true _ _ n) t (shut-rule st₀ (not-true _ o)) (edges-rule 𝒯' P' st₀ (suc j) T (omega arith) (no_at 𝒯' P' b j) (suc b) e k)
      go st₀ T malformed F p = absurd (not-ok p)

  of-obeys : (b j : ℕ) → P'.long b ≤ 32 → j < P'.long b → ObeysAt 𝒯' P' b j → NoNo 𝒯' P' b j
  unfolding read_instruction form_ask read_end
  of-obeys b j m l A =
      let I = reaches-reading b j A.before m l A.reached in
      let st₀ = I.reading in
      let T = tidy-before b j st₀ m l I.reads in
      let x = instruction_at P' b j in
      let obeys = subst (λ (z : BlockState). Obeys 𝒯' P' b j z x) (sym I.is) A.obeys in
      let (st, q) = go st₀ T x (decode-fine (get_or (P'.part b) j 0)) obeys in
      (st, ok-then _ _ st₀ I.reads ∙ q)
    where
      go : (st₀ : Reading) → Tidy st₀ (suc j) → (x : Instruction) → Fine x → Obeys 𝒯' P' b j (state_of st₀) x → (st : Reading) × (asks_here b j x st₀ ≡ ok st)
      go st₀ T malformed F O = elim O [ ]
      go st₀ T (plain x) F (in_block {s' = s'} d D) =
          let Q = of-rule b j (omega arith) st₀ s' T x F D in
          (Q.reading, ok-ask _ _ _ (not_last b j d) ∙ Q.passes)
      go st₀ T (end e) F (ends_block n t o E) =
          let shut : not (is_open st₀) ≡ true = rw (rule-shut st₀ o) refl in (
            st₀,
            ok-ask _ _ _ (eq-eqb _ _ n) ∙ ok-ask _ _ _ t ∙ ok-ask _ _ _ shut
                ∙ ok-then _ _ tt (rule-edges 𝒯' P' st₀ (suc j) T (omega arith) (no_at 𝒯' P' b j) (suc b) e E),
          )

  pub obeys-exactly : (b j : ℕ) → P'.long b ≤ 32 → j < P'.long b → NoNo 𝒯' P' b j ↔ ObeysAt 𝒯' P' b j
  obeys-exactly b j m l = (obeys-of b j m l, of-obeys b j m l)

  -- ---- a question has the first no at an instruction exactly when the rules give it that no

  record NoOf (b j : ℕ) (st : Reading) (x : Instruction) (r : Refusal) : Type 0 where
    question : Question
    is : r ≡ no_at 𝒯' P' b j question
    no : Disobeys 𝒯' P' b j (state_of st) x question

  -- the no of a question is the refusal that was met
  is-no : (r s : Refusal) → ◌≡◌ {A = Outcome Reading} (refused s) (refused r) → r ≡ s
  is-no r s q = sym (refused-same {A = Reading} q)

  instruction-no : (b j : ℕ) (st : Reading) (x : Instruction) (r : Refusal) → P'.long b ≤ 32 → j < P'.long b → Tidy st (suc j)
      → asks_here b j x st ≡ refused r → NoOf b j st x r
  unfolding read_instruction form_ask read_end provided then
  instruction-no b j st malformed r m l T q = record { question = q7; is = is-no r _ q; no = no_form }
  instruction-no b j st (plain x) r m l T q =
      by_equality (suc j) (P'.long b)
      (λ e. record { question = q8; is = is-no r _ (rw (eq-eqb _ _ e) at q); no = too_late e })
      (λ d. let R = plain-refused 𝒯' (words-eight types tags) (no_at 𝒯' P' b j) j (omega arith) st T x r (rw (ne_eqb _ _ d) at q) in
      record { question = R.question; is = R.is; no = no_access d R.no })
  instruction-no b j st (end e) r m l T q =
      by_equality (suc j) (P'.long b)
      (λ n. by_test (targets_exist P'.count b e)
      (λ t. by_test (is_open st)
      (λ o. record {
        question = q13;
        is = is-no r _ (rw (eq-eqb _ _ n, t, o) at q);
        no = still_open n t (λ z. false≢true (sym (rule-shut st z) ∙ o));
      })
      (λ o. let edges = passed-no (read_edges 𝒯' P' (no_at 𝒯' P' b j) (suc b) e st) (rw (eq-eqb _ _ n, t, o) at q) in
      let R = edges-no 𝒯' P' st (suc j) T (omega arith) (no_at 𝒯' P' b j) (suc b) e r edges in
      record { question = R.question; is = R.is; no = no_edge n t (shut-rule st o) R.no }))
      (λ t. record { question = q9; is = is-no r _ (rw (eq-eqb _ _ n, t) at q); no = no_target n t }))
      (λ d. record { question = q8; is = is-no r _ (rw (ne_eqb _ _ d) at q); no = too_early d })
    where
      passed-no : (o : Outcome (Unit {0})) → then o (λ _. ok st) ≡ refused r → o ≡ refused r
      passed-no (ok u) z = absurd (not-ok (sym z))
      passed-no (refused s) z = ap {B = Outcome (Unit {0})} refused (refused-same {A = Reading} z)

  no-instruction : (b j : ℕ) (st : Reading) (x : Instruction) (q : Question) → P'.long b ≤ 32 → j < P'.long b → Tidy st (suc j)
      → Disobeys 𝒯' P' b j (state_of st) x q → asks_here b j x st ≡ refused (no_at 𝒯' P' b j q)
  unfolding read_instruction form_ask read_end provided then
  no-instruction b j st malformed q m l T no_form = refl
  no-instruction b j st (plain x) q m l T (too_late e) = rw (eq-eqb _ _ e) refl
  no-instruction b j st (plain x) q m l T (no_access d N) =
      rw (ne_eqb _ _ d) (refused-plain 𝒯' (words-eight types tags) (no_at 𝒯' P' b j) j (omega arith) st T x q N)
  no-instruction b j st (end e) q m l T (too_early d) = rw (ne_eqb _ _ d) refl
  no-instruction b j st (end e) q m l T (no_target n t) = rw (eq-eqb _ _ n, t) refl
  no-instruction b j st (end e) q m l T (still_open n t N) = by_test (is_open st) (λ o. rw (eq-eqb _ _ n, t, o) refl) (λ o. absurd (N (shut-rule st o)))
  no-instruction b j st (end e) q m l T (no_edge n t o N) =
      rw (eq-eqb _ _ n, t, rule-shut st o, no_edges 𝒯' P' st (suc j) T (omega arith) (no_at 𝒯' P' b j) (suc b) e q N) refl

  -- the reading came as far as the instruction, and there r is the first no
  pub record RefusedHere (b j : ℕ) (r : Refusal) : Type 0 where
    pub reading : Reading
    pub reads : reading_at 𝒯' P' b j ≡ ok reading
    pub no : read_at 𝒯' P' b j reading ≡ refused r

  pub refused-disobeys : (b j : ℕ) (r : Refusal) → P'.long b ≤ 32 → j < P'.long b → RefusedHere b j r
      → (q : Question) × (r ≡ no_at 𝒯' P' b j q) × DisobeysAt 𝒯' P' b j q
  refused-disobeys b j r m l H =
      let T = tidy-before b j H.reading m l H.reads in
      let N = instruction-no b j H.reading (instruction_at P' b j) r m l T H.no in
      (N.question, N.is, record { before = state_of H.reading; reached = reading-reaches b j H.reading m l H.reads; disobeys = N.no })

  pub disobeys-refused : (b j : ℕ) (q : Question) → P'.long b ≤ 32 → j < P'.long b → DisobeysAt 𝒯' P' b j q → RefusedHere b j (no_at 𝒯' P' b j q)
  disobeys-refused b j q m l D =
      let I = reaches-reading b j D.before m l D.reached in
      let T = tidy-before b j I.reading m l I.reads in
      record {
        reading = I.reading;
        reads = I.reads;
        no = no-instruction b j I.reading (instruction_at P' b j) q m l T
            (subst (λ (z : BlockState). Disobeys 𝒯' P' b j z (instruction_at P' b j) q) (sym I.is) D.disobeys);
      }

  -- ---- a routine

  -- before the first no the reading came as far as the instruction
  came-so-far : (b j : ℕ) (r : Refusal) → questions_at 𝒯' P' b j ≡ refused r → ((i : ℕ) → i < j → NoNo 𝒯' P' b i) → RefusedHere b j r
  unfolding reading_at then
  came-so-far b zero r q h = record { reading = _; reads = refl; no = q }
  came-so-far b (suc j) r q h =
      let (st, e) = h j (omega arith) in
      record { reading = st; reads = e; no = rw e at q }

  module _ (sizes : lengths_ask C.blocks (length C.code) ≡ ok tt) where
    short : (b : ℕ) → b < P'.count → P'.long b ≤ 32
    short b h = (sized C sizes).most b h

    -- 'a routine is accepted exactly when every instruction obeys the rules'
    pub judge-obeys : (judge 𝒯' P' ≡ ok tt) ↔ ((b j : ℕ) → b < P'.count → j < P'.long b → ObeysAt 𝒯' P' b j)
    judge-obeys = (
      λ q b j h l. obeys-of b j (short b h) l ((judge-exactly 𝒯' P').0 q b j h l),
      λ A. (judge-exactly 𝒯' P').1 (λ b j h l. of-obeys b j (short b h) l (A b j h l)),
    )

    -- and a refusal is the first that does not
    pub judge-disobeys : (r : Refusal) → judge 𝒯' P' ≡ refused r → FirstDisobeys 𝒯' P' r
    judge-disobeys r q =
        let F = judge-refused 𝒯' P' r q in
        let G = F.in_block in
        let b = F.block in
        let m = short b F.exists in
        let (x, e, D) = refused-disobeys b G.offset r m G.within (came-so-far b G.offset r G.here G.before) in
        record {
          block = b;
          exists = F.exists;
          offset = G.offset;
          within = G.within;
          question = x;
          is = e;
          here = D;
          before = λ j h. obeys-of b j m (let w = G.within in omega arith) (G.before j h);
          earlier = λ c j h l. obeys-of c j (short c (let w = F.exists in omega arith)) l (F.earlier c j h l);
        }

    disobeys-asked : (b j : ℕ) (q : Question) → b < P'.count → j < P'.long b → DisobeysAt 𝒯' P' b j q
        → questions_at 𝒯' P' b j ≡ refused (no_at 𝒯' P' b j q)
    disobeys-asked b j q h l D = let H = disobeys-refused b j q (short b h) l D in ok-then _ _ H.reading H.reads ∙ H.no

    -- no instruction both obeys and disobeys
    not-both : (b j : ℕ) (q : Question) → b < P'.count → j < P'.long b → ObeysAt 𝒯' P' b j → DisobeysAt 𝒯' P' b j q → ⊥
    not-both b j q h l A D = not-ok (sym (disobeys-asked b j q h l D) ∙ (of-obeys b j (short b h) l A).1)

    one-no : (b j : ℕ) (p q : Question) → b < P'.count → j < P'.long b → DisobeysAt 𝒯' P' b j p → DisobeysAt 𝒯' P' b j q
        → no_at 𝒯' P' b j p ≡ no_at 𝒯' P' b j q
    one-no b j p q h l D E = refused-same {A = Reading} (sym (disobeys-asked b j p h l D) ∙ disobeys-asked b j q h l E)

    abbrev FirstHere : Refusal → Type 0
    FirstHere r = FirstDisobeys 𝒯' P' r

    -- where one has its first no, another has none before
    not-before : (r s : Refusal) (D : FirstHere r) (E : FirstHere s) → E.block < D.block → ⊥
    not-before r s D E h =
        not-both E.block E.offset E.question E.exists E.within (D.earlier E.block E.offset h E.within) E.here

    not_earlier : (r s : Refusal) (D : FirstHere r) (E : FirstHere s) → E.block ≡ D.block → E.offset < D.offset → ⊥
    not_earlier r s D E e h =
        not-both E.block E.offset E.question E.exists E.within (rw e (D.before E.offset h)) E.here

    one_place : (r s : Refusal) (D : FirstHere r) (E : FirstHere s) → E.block ≡ D.block → E.offset ≡ D.offset → s ≡ r
    one_place r s D E e o =
        let there : DisobeysAt 𝒯' P' D.block D.offset E.question = rw (e, o) at E.here in
        E.is ∙ (λ i. no_at 𝒯' P' (e i) (o i) E.question)
        ∙ one-no D.block D.offset E.question D.question D.exists D.within there D.here ∙ sym D.is

    one-first : (r s : Refusal) → FirstHere r → FirstHere s → s ≡ r
    one-first r s D E =
        by_less E.block D.block (λ h. absurd (not-before r s D E h))
        (λ h. by_less D.block E.block (λ k. absurd (not-before s r E D k))
        (λ k. let e : E.block ≡ D.block = omega arith in
        by_less E.offset D.offset (λ i. absurd (not_earlier r s D E e i))
        (λ i. by_less D.offset E.offset (λ l. absurd (not_earlier s r E D (sym e) l))
        (λ l. one_place r s D E e (omega arith)))))

    pub disobeys-judge : (r : Refusal) → FirstDisobeys 𝒯' P' r → judge 𝒯' P' ≡ refused r
    disobeys-judge r D = go (judge 𝒯' P') refl
      where
        go : (o : Outcome (Unit {0})) → judge 𝒯' P' ≡ o → judge 𝒯' P' ≡ refused r
        go (ok u) q =
            let obeys = judge-obeys.0 q D.block D.offset D.exists D.within in
            absurd (not-both D.block D.offset D.question D.exists D.within obeys D.here)
        go (refused s) q = q ∙ ap {B = Outcome (Unit {0})} refused (one-first r s D (judge-disobeys s q))
