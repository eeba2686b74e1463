-- `choice::with_choice` meets its contract: the judging with the rows of choice i, and its places.
use Rattle.choice.proofs.Numbers.{choice-fits}
use Rattle.choice.proofs.with_choice.Goals as goal

pub judge-requires : goal.judge-requires
judge-requires c = rw c.filling.ensures (choice-fits c.args.offer.now.offers _ c.requires.1)
