-- `layout::rows` meets its contract. The invariant: the rows from k on come to what all come to.
use Rattle.layout.proofs.Layouts.{AllocationsLeft}
use Rattle.layout.proofs.rows.Given as goal

abbrev pub invariant-loop-k : goal.invariant-loop-k
invariant-loop-k l = AllocationsLeft l.types l.allocations l.top l.k l.low
