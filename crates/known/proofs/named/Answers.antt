-- `known::named` meets its contract.
use native.Mathlib.Omega.{arith}
use Rattle.known.proofs.Numbers.{named-name, named-constant}
use Rattle.known.proofs.named.Goals as goal

pub returns-then-x-lt-CONSTANTS : goal.returns-then-x-lt-CONSTANTS
returns-then-x-lt-CONSTANTS c = named-name _ _ (omega arith) _ c.from.ensures (omega arith)

pub returns-else-x-lt-CONSTANTS : goal.returns-else-x-lt-CONSTANTS
returns-else-x-lt-CONSTANTS c = named-constant _ _ (omega arith)
