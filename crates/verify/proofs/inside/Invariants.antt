-- `verify::inside` meets its contract. The invariant: the instructions from j on come to what all come to.
use Rattle.access.specs.State.{reading}
use Rattle.verify.specs.Blocks.{tables_lent}
use Rattle.verify.proofs.Blocks.{InsideLeft}
use Rattle.verify.proofs.inside.Given as goal

abbrev pub invariant-loop-j : goal.invariant-loop-j
invariant-loop-j l = InsideLeft (tables_lent l.routine) l.block.code.now (reading l.fn.state) (reading l.state) l.state.asked l.j
