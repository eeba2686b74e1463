-- `known::partner` meets its contract.
use native.Mathlib.Omega.{arith}
use Rattle.known.proofs.Numbers.{partner-constant, partner-value, partner-none}
use Rattle.known.proofs.partner.Goals as goal

pub returns-then-r-value : goal.returns-then-r-value
returns-then-r-value c = partner-constant _ _ (omega arith)

pub returns-then-r-constant : goal.returns-then-r-constant
returns-then-r-constant c = partner-value _ _ (λ h. omega arith) (omega arith)

pub returns-else-r-constant : goal.returns-else-r-constant
returns-else-r-constant c = partner-none _ _ (λ h. omega arith) (λ h. omega arith)
