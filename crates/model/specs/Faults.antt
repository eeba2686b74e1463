-- Demand 1, of a run: it ends from any input, and a fault leaves everything as it was before its instruction. Nothing here but the
-- statement; Demand1 is proved in proofs/RunEnds.antt. That each call names the first no, with its place, is demand 2
-- (specs/Exactness.antt); that a check writes nothing is a fact about the calls (crates/loader/proofs/Contracts.antt).
use Rattle.std.specs.Prelude.{◌≡◌, ◌↔◌, Bool, true, not, List, ℕ, ◌<◌, eqb}
use Rattle.model.specs.Question.{◌or◌, Question, number_of, Refusal, AllPassed, FirstRefused}
use Rattle.model.specs.Table.{Code, Routine, routine_of}
use Rattle.model.specs.Machine.{State, halts, faults, step, Passes, Run, answer_at, refused_run, run_questions, Ready, begin, run}

-- the numbers of the questions before the first instruction: Q1, Q5, Q16, Q17
abbrev pub is_opening : ℕ → Bool
is_opening n = eqb n 1 or eqb n 5 or eqb n 16 or eqb n 17

-- the number of a fault: the run neither halted nor paused, and was not refused before its first instruction
abbrev pub is_fault : ℕ → Bool
is_fault n = not (eqb n 0 or eqb n 40 or is_opening n)

module _ (C : Code) (memory : List ℕ) (g : Ready) (budget : ℕ) where
  abbrev pub routine : Routine
  routine = routine_of C

  -- 01: 'the states that the machine's rules pass through, one instruction after another'
  abbrev pub Through : State → Type 0
  Through s = Passes routine budget (begin g memory) s

  -- no question before the first instruction has a no
  abbrev pub Begins : Type 0
  Begins = AllPassed (run_questions C memory g.block)

  -- One of them has a no: nothing is carried out, registers and memory are as they were.
  pub record NeverBegins (a : Run) : Type 0 where
    pub refusal : Refusal
    pub first : FirstRefused refusal (run_questions C memory g.block)
    pub answer : a ≡ refused_run refusal g.registers memory

  -- 01: '0 is halted, at the halt'
  pub record Halts (a : Run) : Type 0 where
    pub state : State
    pub last : State
    pub begins : Begins
    pub through : Through state
    pub early : state.finished < budget
    pub halt : step routine state ≡ halts last
    pub answer : a ≡ answer_at routine 0 last

  -- 01: '40 is paused, at the next block's first instruction: exactly when budget blocks are finished and none halted'
  pub record Pauses (a : Run) : Type 0 where
    pub state : State
    pub begins : Begins
    pub through : Through state
    pub finished : state.finished ≡ budget
    pub first : state.offset ≡ 0
    pub answer : a ≡ answer_at routine 40 state

  -- 01: 'a run that faults leaves memory and registers as they were before the faulting instruction'; 'Halfway refusals change nothing
  -- but what earlier instructions wrote': number, block, index, blocks finished, registers and memory are those of the state before it.
  pub record Faults (a : Run) : Type 0 where
    pub question : Question
    pub state : State
    pub begins : Begins
    pub through : Through state
    pub early : state.finished < budget
    pub fault : step routine state ≡ faults question state
    pub answer : a ≡ answer_at routine (number_of question) state

  -- the four ways in which a run ends
  pub data RunEnds (a : Run) : Type 0 where
    unopened : NeverBegins a → RunEnds a
    halting : Halts a → RunEnds a
    pausing : Pauses a → RunEnds a
    faulting : Faults a → RunEnds a

  -- Said of the answer alone: a run that was handed anything ends in one of these ways, and its number tells in which.
  pub record EndsAndKeeps (a : Run) : Type 0 where
    pub ends : RunEnds a
    pub opening : (is_opening a.number ≡ true) ↔ NeverBegins a
    pub faulted : (is_fault a.number ≡ true) ↔ Faults a

unfoldable pub Demand1 : Type 0
Demand1 = (C : Code) (memory : List ℕ) (g : Ready) (budget : ℕ) → EndsAndKeeps C memory g budget (run C memory g budget)
