-- `verify::judge` meets its contract. The invariant: the blocks from b on come to what all come to.
use Rattle.std.specs.Prelude.{◌*◌, ◌≤◌}
use Rattle.model.specs.Table.{code_of, Routine, rows}
use Rattle.verify.specs.Blocks.{tables_lent, Annotated, Divided}
use Rattle.verify.proofs.Blocks.{BlocksLeft}
use Rattle.verify.proofs.judge.Given as goal

abbrev pub invariant-loop-b : goal.invariant-loop-b
invariant-loop-b l =
    ((P : Routine) → Annotated P l.routine.blocks.now l.fn.offered l.fn.filling
    → Divided P (code_of l.routine.blocks.now l.routine.code.now)
    → BlocksLeft (tables_lent l.routine) P (rows l.routine.blocks.now) l.asked l.b)
    × (l.asked ≤ 512 * l.b)
