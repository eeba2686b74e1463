-- The records from row k on come to what all come to.
use Rattle.memory.proofs.Checks.{RecordsLeft}
use Rattle.memory.proofs.records.Given as goal

abbrev pub invariant-loop-k : goal.invariant-loop-k
invariant-loop-k l = RecordsLeft l.fn.meanings.types.now l.fn.meanings.tags.now l.fn.meanings.allocations.now l.fn.memory l.k
