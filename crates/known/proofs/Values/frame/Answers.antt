-- `known::Values::frame` meets its contract.
use native.Mathlib.Omega.{arith}
use Rattle.known.proofs.Numbers.{frame_is}
use Rattle.known.proofs.Values.frame.Goals as goal

pub returns : goal.returns
returns c = (frame_is _ _ _ c.from.ensures, omega arith)
