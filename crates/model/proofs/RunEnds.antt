-- A run's answer is that of the one state at which the machine's rules come to an end; what its number, its budget and its counts say of it.
use mathlib.Core.Path.{◌≡◌, refl, sym, ap, ◌∙◌}
use mathlib.Core.Logic.{◌⊎◌, inl, inr, ◌↔◌}
use mathlib.Core.Bool.{Bool, true, false, false≢true}
use mathlib.Core.List.{List}
use Prim.Native.Nat.{ℕ, zero, suc, ◌+◌, ◌<◌}
use native.Mathlib.Omega.{arith}
use native.Mathlib.Nat.{add-zero}
use lib.Dec.{eqb}
use lib.ListN.{length}
use Rattle.model.specs.Question.{◌or◌, Question, number_of, q1, q5, q16, q17, Refusal, refusal, Outcome, ok, refused, ask, provided}
use Rattle.model.specs.Question.{FirstRefused, at_once, further}
use Rattle.model.specs.Table.{Code, Routine, routine_of, code_lengths_ask, blocks_ask, lengths_ask, start_ask, memory_length_ask}
use Rattle.model.specs.Machine.{State, goes, halts, faults, step, Passes, here, on, Ran, run_blocks, Run, answer_at, answer_of, run_ask}
use Rattle.model.specs.Machine.{run_questions, Ready, begin, opened, run, at_halt, returned}
use Rattle.model.specs.Faults.{is_opening, is_fault, Begins, NeverBegins, Halts, Pauses, Faults, RunEnds, unopened, halting, pausing, faulting}
use Rattle.model.specs.Faults.{EndsAndKeeps, Demand1}
use Rattle.model.specs.Exactness.{Finishes, ShowsNothing, RunExact}
use Rattle.model.proofs.Logic.{either, or-of-true, not-ok, refused-same, all-passed, passed-all, first-refused, refused-first}
use Rattle.model.proofs.TableLaws.{sized}
use Rattle.model.proofs.MachineLaws.{goes_same, goes-halts, goes-faults, halts-faults, OfCode, of-7, of-8, of-9, of-18, fault-asks}
use Rattle.model.proofs.MachineLaws.{visited, halt-stays, Last, pausing as last-pause, halting as last-halt, faulting as last-fault}
use Rattle.model.proofs.RunCalls.{Opens, opens, run_is, run-last}

-- ---- the states passed through stand in one line, and have one end

module _ (P : Routine) (last : ℕ) where
  -- no step leads on
  abbrev Ended : State → Type 0
  Ended s = (s' : State) → s.finished < last → step P s ≡ goes s' → ⊥

  -- a state passed through is the first itself, or is passed through from the one after it
  data Onward (s s' : State) : Type 0 where
    same : s ≡ s' → Onward s s'
    past : {s₁ : State} → s.finished < last → step P s ≡ goes s₁ → Passes P last s₁ s' → Onward s s'

  first_step : (s s' : State) → Passes P last s s' → Onward s s'
  first_step s s' here = same refl
  first_step s s' (on {s₁ = s₁} p l e) = go (first_step s s₁ p)
    where
      go : Onward s s₁ → Onward s s'
      go (same q) = past {s₁ = s'} (rw q l) (rw q e) here
      go (past l' e' p') = past l' e' (on p' l e)

  -- of two states passed through, one is passed through from the other
  in-line : (s₀ s s' : State) → Passes P last s₀ s → Passes P last s₀ s' → Passes P last s s' ⊎ Passes P last s' s
  in-line s₀ s s' here p' = inl p'
  in-line s₀ s s' (on {s₁ = s₁} p l e) p' = either (in-line s₀ s₁ s' p p') (λ k. go (first_step s₁ s' k)) (λ k. inr (on k l e))
    where
      go : Onward s₁ s' → Passes P last s s' ⊎ Passes P last s' s
      go (same q) = inr (on {s₁ = s'} {s₂ = s} here (rw (← q) l) (rw (← q) e))
      go (past l' e' k) = inl (rw (goes_same (sym e ∙ e')) k)

  stays : (s s' : State) → Ended s → Passes P last s s' → s' ≡ s
  stays s s' E p = go (first_step s s' p)
    where
      go : Onward s s' → s' ≡ s
      go (same q) = sym q
      go (past l e k) = absurd (E _ l e)

  one_end : (s₀ s s' : State) → Ended s → Ended s' → Passes P last s₀ s → Passes P last s₀ s' → s ≡ s'
  one_end s₀ s s' E E' p p' = either (in-line s₀ s s' p p') (λ k. sym (stays s s' E k)) (λ k. stays s' s E' k)

  ended-pause : (s : State) → s.finished ≡ last → Ended s
  ended-pause s f s' l e = omega arith

  ended-halt : (s h : State) → step P s ≡ halts h → Ended s
  ended-halt s h q s' l e = goes-halts (sym e ∙ q)

  ended-fault : (s : State) (y : Question) → step P s ≡ faults y s → Ended s
  ended-fault s y q s' l e = goes-faults (sym e ∙ q)

-- ---- the answer of a run, and no other, is that of the end

module _ (C : Code) (memory : List ℕ) (g : Ready) (budget : ℕ) where
  abbrev P : Routine
  P = routine_of C

  abbrev s₀ : State
  s₀ = begin g memory

  abbrev Through : State → Type 0
  Through s = Passes P budget s₀ s

  begins-opens : Begins C memory g budget → Opens C memory g.block
  unfolding run_ask
  begins-opens B = opens C memory g.block (passed-all (run_questions C memory g.block) B)

  last-ends : (x : Ran) → Begins C memory g budget → Last P budget s₀ x → RunEnds C memory g budget (answer_of P x)
  unfolding answer_of
  last-ends x B (last-pause {s = s} p f z) = pausing (record { state = s; begins = B; through = p; finished = f; first = z; answer = refl })
  last-ends x B (last-halt {s = s} {s' = s'} p f q) =
      halting (record { state = s; last = s'; begins = B; through = p; early = f; halt = q; answer = refl })
  last-ends x B (last-fault {s = s} {q = y} p f q) =
      faulting (record { question = y; state = s; begins = B; through = p; early = f; fault = q; answer = refl })

  pub run_ends : RunEnds C memory g budget (run C memory g budget)
  unfolding run opened run_ask
  run_ends = go (run_ask C memory g.block) refl
    where
      go : (o : Outcome (Unit {0})) → run_ask C memory g.block ≡ o → RunEnds C memory g budget (opened o P memory g budget)
      go (ok u) e = last-ends _ (all-passed (run_questions C memory g.block) e) (run-last C memory g budget (opens C memory g.block e))
      go (refused r) e = unopened (record { refusal = r; first = first-refused (run_questions C memory g.block) r e; answer = refl })

  -- an end that the rules come to is the one that the run came to
  pause-last : (s : State) (x : Ran) → Through s → s.finished ≡ budget → Last P budget s₀ x → answer_at P 40 s ≡ answer_of P x
  unfolding answer_of
  pause-last s x p f (last-pause {s = t} p' f' z') =
      ap (answer_at P 40) (one_end P budget s₀ s t (ended-pause P budget s f) (ended-pause P budget t f') p p')
  pause-last s x p f (last-halt {s = t} {s' = h} p' f' q') =
      let e = one_end P budget s₀ s t (ended-pause P budget s f) (ended-halt P budget t h q') p p' in
      absurd (omega (arith, ap (λ (y : State). y.finished) e))
  pause-last s x p f (last-fault {s = t} {q = y} p' f' q') =
      let e = one_end P budget s₀ s t (ended-pause P budget s f) (ended-fault P budget t y q') p p' in
      absurd (omega (arith, ap (λ (y : State). y.finished) e))

  halt-last : (s h : State) (x : Ran) → Through s → s.finished < budget → step P s ≡ halts h → Last P budget s₀ x → answer_at P 0 h ≡ answer_of P x
  unfolding answer_of
  halt-last s h x p f q (last-pause {s = t} p' f' z') =
      let e = one_end P budget s₀ s t (ended-halt P budget s h q) (ended-pause P budget t f') p p' in
      absurd (omega (arith, ap (λ (y : State). y.finished) e))
  halt-last s h x p f q (last-halt {s = t} {s' = h'} p' f' q') =
      let e = one_end P budget s₀ s t (ended-halt P budget s h q) (ended-halt P budget t h' q') p p' in
      ap (answer_at P 0) (halt-stays P s h q ∙ ap at_halt e ∙ sym (halt-stays P t h' q'))
  halt-last s h x p f q (last-fault {s = t} {q = y} p' f' q') =
      let e = one_end P budget s₀ s t (ended-halt P budget s h q) (ended-fault P budget t y q') p p' in
      absurd (halts-faults (sym q ∙ ap (step P) e ∙ q'))

  fault-last : (s : State) (y : Question) (x : Ran) → Through s → s.finished < budget → step P s ≡ faults y s → Last P budget s₀ x
      → answer_at P (number_of y) s ≡ answer_of P x
  unfolding answer_of
  fault-last s y x p f q (last-pause {s = t} p' f' z') =
      let e = one_end P budget s₀ s t (ended-fault P budget s y q) (ended-pause P budget t f') p p' in
      absurd (omega (arith, ap (λ (y : State). y.finished) e))
  fault-last s y x p f q (last-halt {s = t} {s' = h'} p' f' q') =
      let e = one_end P budget s₀ s t (ended-fault P budget s y q) (ended-halt P budget t h' q') p p' in
      absurd (halts-faults (sym q' ∙ ap (step P) (sym e) ∙ q))
  fault-last s y x p f q (last-fault {s = t} {q = y'} p' f' q') =
      let e = one_end P budget s₀ s t (ended-fault P budget s y q) (ended-fault P budget t y' q') p p' in
      let same : faults y s ≡ faults y' t = sym q ∙ ap (step P) e ∙ q' in
      let n : y ≡ y' = cc in
      rw (e, n) refl

  -- what answers as one of the four ways has it is the run's answer
  pub ends-run : (a : Run) → RunEnds C memory g budget a → a ≡ run C memory g budget
  unfolding run opened run_ask
  ends-run a (unopened N) =
      N.answer ∙ rw (refused-first (run_questions C memory g.block) N.refusal N.first) refl
  ends-run a (halting H) =
      let O = begins-opens H.begins in
      H.answer ∙ halt-last H.state H.last _ H.through H.early H.halt (run-last C memory g budget O) ∙ sym (run_is C memory g budget O)
  ends-run a (pausing Z) =
      let O = begins-opens Z.begins in
      Z.answer ∙ pause-last Z.state _ Z.through Z.finished (run-last C memory g budget O) ∙ sym (run_is C memory g budget O)
  ends-run a (faulting F) =
      let O = begins-opens F.begins in
      F.answer ∙ fault-last F.state F.question _ F.through F.early F.fault (run-last C memory g budget O) ∙ sym (run_is C memory g budget O)

  pub run-exactly : (a : Run) → (a ≡ run C memory g budget) ↔ RunEnds C memory g budget a
  run-exactly a = (λ e. rw e run_ends, ends-run a)

-- ---- what the number says

-- a question whose no comes before the first instruction
data OfOpening : Question → Type 0 where
  opens-1 : OfOpening q1
  opens-5 : OfOpening q5
  opens-16 : OfOpening q16
  opens-17 : OfOpening q17

opening-number : (q : Question) → OfOpening q → is_opening (number_of q) ≡ true
unfolding ◌or◌
opening-number q opens-1 = refl
opening-number q opens-5 = refl
opening-number q opens-16 = refl
opening-number q opens-17 = refl

-- the no of one question is its own
asked-refused : (Q : Refusal → Type 0) (b : Bool) (r s : Refusal) (k : Unit {0} → Outcome (Unit {0})) → Q r → (k tt ≡ refused s → Q s)
    → ask b r k ≡ refused s → Q s
unfolding provided
asked-refused Q true r s k h rest e = rest e
asked-refused Q false r s k h rest e = rw (← refused-same e) h

module _ where
  abbrev OpensBy : Refusal → Type 0
  OpensBy r = OfOpening r.question

  done : {A : Type 0} {r : Refusal} → ◌≡◌ {A = Outcome (Unit {0})} (ok tt) (refused r) → A
  done e = absurd (not-ok (sym e))

  blocks-no : (blocks : List ℕ) (total n b i : ℕ) (r : Refusal) → blocks_ask blocks total n b i ≡ refused r → OpensBy r
  unfolding blocks_ask
  blocks-no blocks total zero b i r e = asked-refused OpensBy _ (refusal q5 b 0) r _ opens-5 done e
  blocks-no blocks total (suc n) b i r e = asked-refused OpensBy _ (refusal q5 b 0) r _ opens-5 (blocks-no blocks total n (suc b) _ r) e

  opening-no : (C : Code) (memory : List ℕ) (b : ℕ) (r : Refusal) → FirstRefused r (run_questions C memory b) → OpensBy r
  unfolding code_lengths_ask lengths_ask start_ask memory_length_ask
  opening-no C memory b r (at_once e) =
      asked-refused OpensBy _ (refusal q1 2 0) r _ opens-1 (λ e'. asked-refused OpensBy _ (refusal q1 3 0) r _ opens-1 done e') e
  opening-no C memory b r (further p (at_once e)) = blocks-no C.blocks (length C.code) _ 0 0 r e
  opening-no C memory b r (further p (further p' (at_once e))) = asked-refused OpensBy _ (refusal q16 0 0) r _ opens-16 done e
  opening-no C memory b r (further p (further p' (further p'' (at_once e)))) = asked-refused OpensBy _ (refusal q17 0 0) r _ opens-17 done e
  opening-no C memory b r (further p (further p' (further p'' (further _ F)))) = elim F [ ]

module _ (C : Code) (memory : List ℕ) (g : Ready) (budget : ℕ) where
  abbrev Ends : Run → Type 0
  Ends a = RunEnds C memory g budget a

  never-opens : (a : Run) → NeverBegins C memory g budget a → is_opening a.number ≡ true
  never-opens a N = rw N.answer (opening-number _ (opening-no C memory g.block N.refusal N.first))

  -- the numbers of the questions that an instruction is asked
  code-number : (q : Question) → OfCode q → (is_opening (number_of q) ≡ false) × (is_fault (number_of q) ≡ true)
  unfolding ◌or◌
  code-number q of-7 = (refl, refl)
  code-number q of-8 = (refl, refl)
  code-number q of-9 = (refl, refl)
  code-number q of-18 = (refl, refl)

  fault-number : (a : Run) → Faults C memory g budget a → (is_opening a.number ≡ false) × (is_fault a.number ≡ true)
  fault-number a F = rw F.answer (code-number _ (fault-asks (routine_of C) _ _ _ F.fault))

  by-opening : (a : Run) → Ends a → is_opening a.number ≡ true → NeverBegins C memory g budget a
  unfolding ◌or◌
  by-opening a (unopened N) e = N
  by-opening a (halting H) e = absurd (false≢true (rw H.answer at e))
  by-opening a (pausing Z) e = absurd (false≢true (rw Z.answer at e))
  by-opening a (faulting F) e = absurd (false≢true (sym (fault-number a F).0 ∙ e))

  -- the number of an opening question is none of a fault
  opening-none : (n : ℕ) → is_opening n ≡ true → is_fault n ≡ false
  opening-none n e = rw (or-of-true (eqb n 0) _ (or-of-true (eqb n 40) _ e))

  by-fault : (a : Run) → Ends a → is_fault a.number ≡ true → Faults C memory g budget a
  unfolding ◌or◌
  by-fault a (unopened N) e = absurd (false≢true (sym (opening-none a.number (never-opens a N)) ∙ e))
  by-fault a (halting H) e = absurd (false≢true (rw H.answer at e))
  by-fault a (pausing Z) e = absurd (false≢true (rw Z.answer at e))
  by-fault a (faulting F) e = F

  pub run-keeps : EndsAndKeeps C memory g budget (run C memory g budget)
  run-keeps =
      let a = run C memory g budget in
      let E = run_ends C memory g budget in
      record {
        ends = E;
        opening = (by-opening a E, never-opens a);
        faulted = (by-fault a E, λ F. (fault-number a F).1);
      }

pub demand-1 : Demand1
unfolding Demand1
demand-1 C memory g budget = run-keeps C memory g budget

-- ---- 0, 40, budget 0, and nothing carried out

module _ (C : Code) (memory : List ℕ) (g : Ready) (budget : ℕ) where
  abbrev answer : Run
  answer = run C memory g budget

  -- a number of no question is that of a halt or a pause
  by_number : (a : Run) (n : ℕ) → is_opening n ≡ false → is_fault n ≡ false → a.number ≡ n → RunEnds C memory g budget a
      → Halts C memory g budget a ⊎ Pauses C memory g budget a
  by_number a n o f e (unopened N) = absurd (false≢true (sym o ∙ ap is_opening (sym e) ∙ never-opens C memory g budget a N))
  by_number a n o f e (halting H) = inl H
  by_number a n o f e (pausing Z) = inr Z
  by_number a n o f e (faulting F) = absurd (false≢true (sym f ∙ ap is_fault (sym e) ∙ (fault-number C memory g budget a F).1))

  number_at : (a : Run) (n : ℕ) (s : State) → a ≡ answer_at (routine_of C) n s → a.number ≡ n
  number_at a n s e = ap (λ (x : Run). x.number) e

  halts_by : answer.number ≡ 0 → Halts C memory g budget answer
  unfolding ◌or◌
  halts_by e =
      either (by_number answer 0 refl refl e (run_ends C memory g budget)) (λ H. H)
      (λ Z. absurd (omega (arith, number_at answer 40 Z.state Z.answer)))

  pauses-by : answer.number ≡ 40 → Pauses C memory g budget answer
  unfolding ◌or◌
  pauses-by e =
      either (by_number answer 40 refl refl e (run_ends C memory g budget))
      (λ H. absurd (omega (arith, number_at answer 0 H.last H.answer))) (λ Z. Z)

  finishes : answer.number ≡ 40 → Finishes C memory g budget
  finishes e = let Z = pauses-by e in record { begins = Z.begins; state = Z.state; through = Z.through; finished = Z.finished }

  finishes-pauses : Finishes C memory g budget → answer.number ≡ 40
  finishes-pauses F =
      let O = begins-opens C memory g budget F.begins in
      let same = pause-last C memory g budget F.state _ F.through F.finished (run-last C memory g budget O) in
      number_at answer 40 F.state (run_is C memory g budget O ∙ sym same)

  -- of a state passed through
  nothing-at : (s : State) → Begins C memory g budget → Passes (routine_of C) budget (begin g memory) s
      → (s.carried ≡ 0) ↔ ((s.finished ≡ 0) × ((routine_of C).start s.block + s.offset ≡ (routine_of C).start g.block))
  nothing-at s B p =
      let O = begins-opens C memory g budget B in
      let A = visited (routine_of C) (sized C O.lengths) budget (begin g memory) s O.exists refl p in (
        λ e. let same : s ≡ begin g memory = A.untouched.0 e in rw same (refl, add-zero _),
        λ (f, i). let (eb, ec) = A.counted.0 f in
            let j : (routine_of C).start g.block + s.offset ≡ (routine_of C).start g.block =
            ap (λ (c : ℕ). (routine_of C).start c + s.offset) (sym eb) ∙ i in
            omega arith,
      )

  shows : (a : Run) → RunEnds C memory g budget a → (a.carried ≡ 0) ↔ ShowsNothing C memory g budget (returned a)
  unfolding ◌or◌
  shows a (unopened N) = (λ e. inl (never-opens C memory g budget a N), λ h. ap (λ (x : Run). x.carried) N.answer)
  shows a (halting H) =
      let h = halt-stays (routine_of C) H.state H.last H.halt in
      let c : H.last.carried ≡ suc H.state.carried = ap (λ (y : State). y.carried) h in
      let f : H.last.finished ≡ suc H.state.finished = ap (λ (y : State). y.finished) h in (
        λ e. absurd (omega (arith, sym (ap (λ (x : Run). x.carried) H.answer) ∙ e)),
        λ h. absurd (either h (λ o. false≢true (rw (number_at a 0 H.last H.answer) at o))
            (λ k. omega (arith, sym (ap (λ (x : Run). x.finished) H.answer) ∙ k.0))),
      )
  shows a (pausing Z) =
      let N = nothing-at Z.state Z.begins Z.through in
      rw Z.answer (λ e. inr (N.0 e), λ h. either h (λ o. absurd (false≢true o)) N.1)
  shows a (faulting F) =
      let N = nothing-at F.state F.begins F.through in
      let o = (fault-number C memory g budget a F).0 in
      let same = ap (λ (x : Run). x.number) F.answer in
      rw F.answer (λ e. inr (N.0 e), λ h. either h (λ q. absurd (false≢true (sym o ∙ ap is_opening same ∙ q))) N.1)

  pub run-exact : RunExact C memory g budget
  unfolding run_blocks answer_of
  run-exact =
      record {
        ends = run-exactly C memory g budget;
        halted = (halts_by, λ H. number_at answer 0 H.last H.answer);
        paused = (finishes, finishes-pauses);
        paused_at = pauses-by;
        unchanged = λ B z. run_is C memory g budget (begins-opens C memory g budget B) ∙ rw z refl;
        nothing = shows answer (run_ends C memory g budget);
      }
