-- The assumptions of demand 3 can be met: two routines over two plots with locked weights, one of which stores, take turns.
use mathlib.Core.Path.{◌≡◌, refl}
use mathlib.Core.List.{List, [], ◌∷◌, ◌++◌}
use Prim.Native.Nat.{ℕ, zero, suc}
use native.Mathlib.Omega.{arith}
use lib.ListN.{get_or}
use Rattle.model.specs.Table.{tables_of, code_of}
use Rattle.model.specs.Meaning.{Locked}
use Rattle.model.specs.Allocation.{Allocated}
use Rattle.model.specs.Machine.{State, ready}
use Rattle.model.specs.Check.{check}
use Rattle.model.specs.MemoryCheck.{entry_check}
use Rattle.model.specs.Turns.{after_call, at_start, Task, done, World, Call, turn, checking_memory, running}
use Rattle.model.specs.Safety.{Checked, Visits, Safe}
use Rattle.model.specs.Cases.{plot_tags, row, ref_word, same_word, constant_byte, store_word, jump_word, halt_word, stage_blocks, stage_code}
use Rattle.model.specs.Locks.{locked_plot_types}
use Rattle.model.proofs.Compute.{computed}
use Rattle.model.proofs.Safe.{demand-3}

-- a plot with a raw weight at 1, one with a corrected weight at 3; raw 5, corrected 7, and a corrected record at 8 that no plot has yet
abbrev pub allocations : List ℕ
allocations = 1 ∷ 2 ∷ 3 ∷ 2 ∷ 5 ∷ 0 ∷ 7 ∷ 1 ∷ 8 ∷ 1 ∷ []

abbrev pub memory : List ℕ
memory = 0 ∷ 0 ∷ 5 ∷ 1 ∷ 7 ∷ 8600 ∷ 22 ∷ 9100 ∷ 7800 ∷ 4 ∷ []

-- the correction: block 0 goes to block 1, which sets stage and pointer of the plot in r1
abbrev correction_blocks : List ℕ
correction_blocks =
    row 1 0 (ref_word 2) 0 0 (ref_word 1) (same_word (constant_byte 1)) 0 0
    ++ row 3 0 (ref_word 2) 0 0 (ref_word 1) (same_word (constant_byte 1)) 0 0

abbrev correction_code : List ℕ
correction_code = jump_word 1 ∷ store_word 5 1 0 ∷ store_word 4 1 1 ∷ halt_word ∷ []

abbrev correction : Task
correction = record { code = code_of correction_blocks correction_code; start = ready 0 (0 ∷ 1 ∷ 0 ∷ 0 ∷ 8 ∷ 1 ∷ 0 ∷ 0 ∷ []) }

-- the ranking: reads the corrected weight of the plot in r1 where its stage is 1
abbrev ranking : Task
ranking = record { code = code_of (stage_blocks 1) stage_code; start = ready 0 (0 ∷ 1 ∷ 0 ∷ 0 ∷ 0 ∷ 0 ∷ 0 ∷ 0 ∷ []) }

-- routine 0 is the correction; there are two routines, the second the ranking
abbrev pub tasks : ℕ → Task
tasks zero = correction
tasks (suc i) = ranking

pub checked : Checked locked_plot_types plot_tags allocations memory 2 tasks
unfolding computed
checked =
    record {
      memory_passed = refl;
      accepted = λ i h. accepts i;
      eight = λ i h. eight i;
      entered = λ i h. (memory, enters i);
    }
  where
    accepts : (i : ℕ) → (check locked_plot_types plot_tags (tasks i).code).number ≡ 0
    accepts zero = refl
    accepts (suc i) = refl

    eight : (i : ℕ) → lib.ListN.length (tasks i).start.registers ≡ 8
    eight zero = refl
    eight (suc i) = refl

    enters : (i : ℕ) → (entry_check locked_plot_types plot_tags allocations memory (tasks i).code (tasks i).start).number ≡ 0
    enters zero = refl
    enters (suc i) = refl

-- so every list of calls over them is safe
pub example-safe : (calls : List Call) → Safe locked_plot_types plot_tags allocations memory 2 tasks calls (at_start tasks 2 memory)
unfolding Rattle.model.specs.Safety.Demand3
example-safe calls = demand-3 locked_plot_types plot_tags allocations memory 2 tasks checked calls

-- the raw weight at 5 is a locked word, so it is 8600 at every state that a turn of the correction passes through
weight-locked : Locked (tables_of locked_plot_types plot_tags) (Allocated allocations) 5
unfolding computed
weight-locked = record { start = 5; type = 0; field = 0; allocated = refl; within = omega arith; marked = refl; at = refl }

pub weight-kept : (k : ℕ) (s : State) → Visits locked_plot_types plot_tags allocations memory 2 tasks (at_start tasks 2 memory) 0 k correction.start s
    → get_or s.memory 5 0 ≡ 8600
unfolding at_start
weight-kept k s p = ((example-safe (turn 0 k ∷ [])).1 correction.start refl).locked_kept s p 5 weight-locked

abbrev after_all : List Call → World → World
after_all [] w = w
after_all (c ∷ cs) w = after_all cs (after_call tasks c w)

-- the correction enters its second block, the ranking reads the plot as it was, the correction stores and halts, the ranking of the
-- same plot is over and its next turn is passed over, as is the correction's
abbrev calls : List Call
calls = turn 0 1 ∷ turn 1 1 ∷ turn 0 0 ∷ checking_memory [] [] [] [] ∷ turn 0 7 ∷ turn 1 9 ∷ turn 0 3 ∷ running (code_of [] []) (ready 0 []) 5 ∷ []

pub plot-corrected : (after_all calls (at_start tasks 2 memory)).memory ≡ 0 ∷ 1 ∷ 8 ∷ 1 ∷ 7 ∷ 8600 ∷ 22 ∷ 9100 ∷ 7800 ∷ 4 ∷ []
unfolding computed
plot-corrected = refl

pub both-halted : ((after_all calls (at_start tasks 2 memory)).standing 0 ≡ done) × ((after_all calls (at_start tasks 2 memory)).standing 1 ≡ done)
unfolding computed
both-halted = (refl, refl)
