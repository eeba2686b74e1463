-- A run past Q5 and Q16 is inside its code, so that asking whether it is changes no run.
use mathlib.Core.Path.{◌≡◌, refl, sym, ap}
use mathlib.Core.Bool.{Bool, true, false, false≢true}
use mathlib.Core.List.{List}
use Prim.Native.Nat.{ℕ, zero, suc, ◌<◌}
use native.Mathlib.Omega.{arith}
use borrow.Author.Tests.{lt-ltb}
use Rattle.model.specs.Question.{Question, number_of, question_of, Outcome, ok, refused, provided}
use Rattle.model.specs.Table.{Code, Routine, routine_of}
use Rattle.model.specs.Machine.{State, Step, goes, halts, faults, need, index_of, step, Ran, halted, paused, faulted, onward, finish, steps, run_blocks}
use Rattle.model.specs.Machine.{Passes, answer_of, run_ask, opened, Ready, begin, run}
use Rattle.model.specs.CodeIndex.{step_asking, steps_asking, blocks_asking, opened_asking, run_asking, IndexInside}
use Rattle.model.proofs.Logic.{no_number}
use Rattle.model.proofs.TableLaws.{Sized, sized}
use Rattle.model.proofs.TableRules.{start-exactly}
use Rattle.model.proofs.MachineLaws.{Visited, visited-here, visited-step, steps-visited, index_below, Last, pausing, halting, faulting, halt-stays}
use Rattle.model.proofs.RunCalls.{opens, run_is, run-last}

-- ---- the run that asks is the run that does not

onward-same : (x : Step) (f g : State → Step) → ((s : State) → x ≡ goes s → f s ≡ g s) → onward x f ≡ onward x g
unfolding onward
onward-same (goes s) f g h = h s refl
onward-same (halts s) f g h = refl
onward-same (faults q s) f g h = refl

finish-same : (x : Step) (f g : State → Ran) → ((s : State) → x ≡ goes s → f s ≡ g s) → finish x f ≡ finish x g
unfolding finish
finish-same (goes s) f g h = h s refl
finish-same (halts s) f g h = refl
finish-same (faults q s) f g h = refl

-- a question whose answer is yes comes to what follows it
asked-idle : (b : Bool) (q : Question) (s : State) (k : Unit {0} → Step) → b ≡ true → need b q s k ≡ k tt
unfolding provided
asked-idle true q s k e = refl
asked-idle false q s k e = absurd (false≢true e)

module _ (q : Question) (P : Routine) (S : Sized P) (s₀ : State) where
  step_same : (s : State) → Visited P s₀ s → step_asking q P s ≡ step P s
  unfolding step_asking step
  step_same s A =
      let inside : index_of P s < P.total = omega (arith, S.inside s.block A.exists, A.within) in
      asked-idle _ q s _ (lt-ltb _ _ inside)

  steps-same : (n : ℕ) (s : State) → Visited P s₀ s → steps_asking q P n s ≡ steps P n s
  unfolding steps_asking steps
  steps-same zero s A = refl
  steps-same (suc n) s A = rw (step_same s A) (onward-same (step P s) _ _ (λ s' e. steps-same n s' (visited-step P S s₀ s s' A e)))

  blocks-same : (k : ℕ) (s : State) → Visited P s₀ s → blocks_asking q P k s ≡ run_blocks P k s
  unfolding blocks_asking run_blocks
  blocks-same zero s A = refl
  blocks-same (suc k) s A =
      let n = P.long s.block in
      rw (steps-same n s A) (finish-same (steps P n s) _ _ (λ s' e. blocks-same k s' (steps-visited P S n s₀ s s' A (sym e))))

run-same : (q : Question) (C : Code) (memory : List ℕ) (g : Ready) (budget : ℕ) → run_asking q C memory g budget ≡ run C memory g budget
unfolding run_asking run opened_asking opened
run-same q C memory g budget = go (run_ask C memory g.block) refl
  where
    go : (o : Outcome (Unit {0})) → run_ask C memory g.block ≡ o
        → opened_asking q o (routine_of C) memory g budget ≡ opened o (routine_of C) memory g budget
    go (ok u) e =
        let O = opens C memory g.block e in
        let S = sized C O.lengths in
        let s₀ = begin g memory in
        ap (answer_of (routine_of C)) (blocks-same q (routine_of C) S s₀ budget s₀ (visited-here (routine_of C) S s₀ O.exists refl))
    go (refused r) e = refl

-- ---- where a run is

module _ (C : Code) (memory : List ℕ) (g : Ready) (budget : ℕ) where
  abbrev P : Routine
  P = routine_of C

  -- a state passed through is inside the code
  inside-at : Sized P → g.block < P.count → (s : State) → Passes P budget (begin g memory) s → index_of P s < P.total
  inside-at S h s p = index_below P S budget (begin g memory) s h refl p

  last-inside : (x : Ran) → Sized P → g.block < P.count → Last P budget (begin g memory) x → (answer_of P x).index < P.total
  unfolding answer_of
  last-inside x S h (pausing {s = s} p f z) = inside-at S h s p
  last-inside x S h (halting {s = s} {s' = s'} p f e) =
      let i : index_of P s' ≡ index_of P s = ap (index_of P) (halt-stays P s s' e) in
      rw i (inside-at S h s p)
  last-inside x S h (faulting {s = s} p f e) = inside-at S h s p

  run_inside : run_ask C memory g.block ≡ ok tt → (run C memory g budget).index < P.total
  run_inside e =
      let O = opens C memory g.block e in
      rw (run_is C memory g budget O) (last-inside _ (sized C O.lengths) O.exists (run-last C memory g budget O))

-- ---- 22

not-22 : (q : Question) → number_of q ≡ 22 → ⊥
unfolding question_of
not-22 q e = no_number 22 refl q e

answer-not-22 : (P : Routine) (x : Ran) → (answer_of P x).number ≡ 22 → ⊥
unfolding answer_of
answer-not-22 P (halted s) e = omega arith
answer-not-22 P (paused s) e = omega arith
answer-not-22 P (faulted q s) e = not-22 q e

opened-not-22 : (o : Outcome (Unit {0})) (P : Routine) (memory : List ℕ) (g : Ready) (budget : ℕ) → (opened o P memory g budget).number ≡ 22 → ⊥
unfolding opened
opened-not-22 (ok u) P memory g budget e = answer-not-22 P _ e
opened-not-22 (refused r) P memory g budget e = not-22 r.question e

run-not-22 : (C : Code) (memory : List ℕ) (g : Ready) (budget : ℕ) → (run C memory g budget).number ≡ 22 → ⊥
unfolding run
run-not-22 C memory g budget e = opened-not-22 (run_ask C memory g.block) (routine_of C) memory g budget e

pub index-inside : IndexInside
unfolding routine_of
index-inside =
    record {
      below = λ C memory g budget l e. inside-at C memory g budget (sized C l) ((start-exactly C g.block).0 e);
      answered = run_inside;
      same = run-same;
      unused = run-not-22;
    }
