-- `protocol::Ahead::part_words` meets its contract. The invariant: the line goes on from the words read as it would have from the first.
use Rattle.protocol.proofs.Words.{Reached}
use Rattle.protocol.proofs.Ahead.part_words.Given as goal

abbrev pub invariant-loop-left : goal.invariant-loop-left
invariant-loop-left l = Reached l.bytes l.fn.self.line l.initial.pools l.pools l.fn.self.at l.at l.used l.left

abbrev pub decreases-loop-left : goal.decreases-loop-left
decreases-loop-left l = l.left
