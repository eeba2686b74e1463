-- The table holds the rows from k on.
use Rattle.model.specs.Table.{head_of}
use Rattle.meaning.proofs.Owners.{LaidFrom}
use Rattle.meaning.proofs.owner.Owners.fill.Given as goal

abbrev pub invariant-loop-k : goal.invariant-loop-k
invariant-loop-k l = LaidFrom (λ t. head_of l.types t) l.allocations l.initial.self l.self l.k
