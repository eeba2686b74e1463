-- `blank::blank_blocks` meets its contract. The invariant: the first k are listed, and those from a block on are those left.
use Rattle.blank.proofs.Laws.{Listed}
use Rattle.blank.proofs.blank_blocks.Given as goal

abbrev pub invariant-loop-k : goal.invariant-loop-k
invariant-loop-k l = Listed l.blocks l.three l.k l.from
