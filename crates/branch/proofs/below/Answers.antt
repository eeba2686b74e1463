-- `branch::below` meets its contract: the next kind, by the value's end.
use Rattle.branch.proofs.Ends.{below-told}
use Rattle.branch.proofs.below.Goals as goal

pub returns : goal.returns
returns c = below-told _ _ _ c.requires _ c.second_dependency-end.ensures.0 _ c.next_kind.ensures
