-- `branch::not_below` meets its contract: the next kind, by the value's start.
use Rattle.branch.proofs.Ends.{not-below-told}
use Rattle.branch.proofs.not_below.Goals as goal

pub returns : goal.returns
returns c = not-below-told _ _ _ c.requires _ c.first_dependency-start.ensures.0 _ c.next_kind.ensures
