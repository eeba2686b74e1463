-- `known::sibling` meets its contract.
use native.Mathlib.Omega.{arith}
use Rattle.known.proofs.Numbers.{sibling-name, sibling-constant}
use Rattle.known.proofs.sibling.Goals as goal

pub returns-then-x-lt-CONSTANTS : goal.returns-then-x-lt-CONSTANTS
returns-then-x-lt-CONSTANTS c = sibling-name _ _ (omega arith) (omega arith)

pub returns-else-x-lt-CONSTANTS : goal.returns-else-x-lt-CONSTANTS
returns-else-x-lt-CONSTANTS c = sibling-constant _ _ (omega arith)
