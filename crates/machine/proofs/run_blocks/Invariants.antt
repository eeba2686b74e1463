-- What is left of the budget comes to what the whole comes to.
use mathlib.Core.Path.{◌≡◌}
use Prim.Native.Nat.{◌-◌, ◌<◌}
use Rattle.model.specs.Table.{routine_of, start_of, rows, code_of}
use Rattle.model.specs.Machine.{ready}
use Rattle.machine.specs.Run.{ran_of}
use Rattle.machine.proofs.Runs.{uncounted, rest}
use Rattle.machine.proofs.run_blocks.Given as goal

abbrev pub invariant-loop-finished : goal.invariant-loop-finished
invariant-loop-finished l =
    (uncounted (ran_of (code_of l.blocks l.code) l.fn.memory (ready l.block l.fn.registers) l.budget)
    ≡ rest (routine_of (code_of l.blocks l.code)) (l.budget - l.finished) l.b l.current l.memory l.finished)
    × (l.b < rows l.blocks)
    × (l.first ≡ start_of l.blocks l.b)
