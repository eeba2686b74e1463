-- `choice::block_passes` meets its contract: the number of its verdict.
use Rattle.choice.proofs.Numbers.{choice-fits}
use Rattle.choice.proofs.block_passes.Goals as goal

pub invariant_of-annotations : goal.invariant_of-annotations
invariant_of-annotations c =
    record { most = c.args.routine.now.tabled.most; fits = rw c.filling.ensures (choice-fits c.args.offer.now.offers _ c.requires.1) }
