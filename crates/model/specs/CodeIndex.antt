-- 02, card 6: 'Show that a run past Q5 and Q16 always has its code index below the code length, and take Q22 out of the run.' Here is the
-- run as document 01 has it, with Q22 kept, and what is stated of the two runs; IndexInside is proved in proofs/CodeIndex.antt.
use Rattle.std.specs.Prelude.{◌≡◌, List, ℕ, zero, suc, ◌<◌, ltb, length}
use Rattle.model.specs.Question.{Question, Outcome, ok, refused}
use Rattle.model.specs.Table.{Code, Routine, routine_of, lengths_ask, start_ask}
use Rattle.model.specs.Machine.{State, Step, goes, need, index_of, instruction_at, perform, Passes, Ran, paused, onward, finish, Run, answer_of}
use Rattle.model.specs.Machine.{refused_run, run_ask, Ready, begin, run}

-- ---- the run that asks Q22; its no is that of any question q, so that no question has to keep the number 22

module _ (q : Question) (P : Routine) where
  -- 01: 'then each instruction: Q22 code index below the code length? 22; Q7, Q8, Q9; Q18 address below the memory length? 18'
  unfoldable pub step_asking : State → Step
  step_asking s = need (ltb (index_of P s) P.total) q s λ _. perform P (instruction_at P s.block s.offset) s

  unfoldable pub steps_asking : ℕ → State → Step
  steps_asking zero s = goes s
  steps_asking (suc n) s = onward (step_asking s) (λ s'. steps_asking n s')

  unfoldable pub blocks_asking : ℕ → State → Ran
  blocks_asking zero s = paused s
  blocks_asking (suc k) s = finish (steps_asking (P.long s.block) s) (λ s'. blocks_asking k s')

unfoldable pub opened_asking : Question → Outcome (Unit {0}) → Routine → List ℕ → Ready → ℕ → Run
opened_asking q (ok u) P memory g budget = answer_of P (blocks_asking q P budget (begin g memory))
opened_asking q (refused r) P memory g budget = refused_run r g.registers memory

unfoldable pub run_asking : Question → Code → List ℕ → Ready → ℕ → Run
run_asking q C memory g budget = opened_asking q (run_ask C memory g.block) (routine_of C) memory g budget

-- ---- what is stated: of any tables, accepted or not, any memory, registers and budget

pub record IndexInside : Type 0 where
  -- 'a run past Q5 and Q16 always has its code index below the code length': at every state passed through
  pub below : (C : Code) (memory : List ℕ) (g : Ready) (budget : ℕ)
      → lengths_ask C.blocks (length C.code) ≡ ok tt → start_ask C.blocks g.block ≡ ok tt
      → (s : State) → Passes (routine_of C) budget (begin g memory) s → index_of (routine_of C) s < length C.code
  -- and in the answer of a run past all its opening questions
  pub answered : (C : Code) (memory : List ℕ) (g : Ready) (budget : ℕ) → run_ask C memory g.block ≡ ok tt
      → (run C memory g budget).index < length C.code
  -- 'take Q22 out of the run': answer, memory and instructions carried out are those of the run that asks it
  pub same : (q : Question) (C : Code) (memory : List ℕ) (g : Ready) (budget : ℕ) → run_asking q C memory g budget ≡ run C memory g budget
  -- no run answers 22
  pub unused : (C : Code) (memory : List ℕ) (g : Ready) (budget : ℕ) → (run C memory g budget).number ≡ 22 → ⊥
