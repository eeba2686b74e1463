-- `instruction::target` meets its contract.
use native.Mathlib.Omega.{arith}
use Rattle.instruction.proofs.Laws.{target-equal, target-other}
use Rattle.instruction.proofs.target.Goals as goal

pub returns-then-w-eq-IF_EQUAL : goal.returns-then-w-eq-IF_EQUAL
returns-then-w-eq-IF_EQUAL c = λ well ends. target-equal _ (omega arith)

pub returns : goal.returns
returns c = λ well ends. target-other c.before.args.w well ends (λ o. omega arith)
