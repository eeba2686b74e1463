-- `known::Values::far_stand` meets its contract.
use native.Mathlib.Omega.{arith}
use Rattle.known.proofs.Chains.{root-far}
use Rattle.known.proofs.Stands.{stand_of}
use Rattle.known.proofs.Values.far_stand.Goals as goal

pub returns : goal.returns
returns c =
    let k = c.before in
    let (is, below) = k.before.far_root-r.ensures in (
      λ tested equal. rw c.constant_or.ensures.0
          (stand_of _ _ _ _ (root-far _ _ (omega arith) _ below (is tested equal)) (k.own_constant.ensures tested equal).0),
      c.constant_or.ensures.1,
    )
