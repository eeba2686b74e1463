-- `known::Values::stand` meets its contract.
use Rattle.known.proofs.Stands.{stand_of}
use Rattle.known.proofs.Values.stand.Goals as goal

pub far_stand-requires : goal.far_stand-requires
far_stand-requires c = c.before.linked.ensures.0 c.if-linked.true

pub returns-then-linked : goal.returns-then-linked
returns-then-linked c = λ tested equal. c.far_stand.ensures.0 tested equal

pub returns : goal.returns
returns c =
    let k = c.before in
    let unlinked = k.before in
    λ tested equal. rw c.constant_or.ensures.0
    (stand_of _ _ _ _ (unlinked.before.linked.ensures.1 unlinked.if-linked.false tested equal) (k.own_constant.ensures tested equal).0)
