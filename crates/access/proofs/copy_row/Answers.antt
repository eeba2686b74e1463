-- `access::copy_row` meets its contract.
use native.Mathlib.Omega.{arith}
use Rattle.access.proofs.Fields.{laid-part}
use Rattle.access.proofs.copy_row.Goals as goal

pub returns : goal.returns
returns c = laid-part _ _ _ _ _ c.copy_from_slice.ensures.after (omega arith) (omega arith)
