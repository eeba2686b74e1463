-- The code of a block as a part of the code table, and a run past its opening questions.
use Rattle.std.specs.Prelude.{◌≡◌, List, ℕ, ◌-◌, ◌≤◌, ◌<◌, length, get_or, Result, Ok, Err}
use Rattle.model.specs.Question.{ok}
use Rattle.model.specs.declared.questions.Question.{Question}
use Rattle.model.specs.Table.{rows, start_of, Code, Routine, routine_of, lengths_ask}
use Rattle.model.specs.Machine.{run_blocks, Run, answer_of, Ready, begin}
use Rattle.step.specs.declared.Exit.{Exit}
use Rattle.machine.specs.declared.Fault.{Fault}

-- part is the code of block b
pub record Covers (P : Routine) (b : ℕ) (part : List ℕ) : Type 0 where
  pub same : P.part b ≡ part
  pub long : P.long b ≡ length part

-- an answer whose no has the offset of the instruction that was asked
abbrev pub located : {A : Type 0} → ℕ → Result A Question → Result A Fault
located i (Ok x) = Ok x
located i (Err q) = Err (record { at = i; question = q })

-- how a block was left, without the place
abbrev pub exit_in : Result Exit Fault → Result Exit Question
exit_in (Ok x) = Ok x
exit_in (Err e) = Err e.question

-- the offset of its last instruction carried out or refused
abbrev pub offset_of : List ℕ → Result Exit Fault → ℕ
offset_of part (Ok x) = length part - 1
offset_of part (Err e) = e.at

-- tables past Q1 and Q5, a block that exists, and where each block starts
pub record Opened (blocks code starts : List ℕ) (block : ℕ) : Type 0 where
  pub lengths : lengths_ask blocks (length code) ≡ ok tt
  pub few : length blocks ≤ 2304
  pub short : length code ≤ 8192
  pub exists : block < rows blocks
  pub filled : (k : ℕ) → k ≤ rows blocks → get_or starts k 0 ≡ start_of blocks k

-- what a run past its opening questions comes to
abbrev pub ran_of : Code → List ℕ → Ready → ℕ → Run
ran_of C memory g budget = answer_of (routine_of C) (run_blocks (routine_of C) budget (begin g memory))
