-- `instruction::targets_exist` meets its contract.
use native.Mathlib.Omega.{arith}
use borrow.Author.Rules.{rules}
use Rattle.instruction.proofs.Parts.{known}
use Rattle.instruction.proofs.Laws.{jumps, no-next, equal-target, less-target}
use Rattle.instruction.proofs.targets_exist.Goals as goal

pub returns-then-op-eq-JUMP : goal.returns-then-op-eq-JUMP
returns-then-op-eq-JUMP c = jumps _ _ _ (omega arith)

pub returns-then-count-b : goal.returns-then-count-b
returns-then-count-b c = no-next _ _ _ (known _ (search rules)) (omega arith) (omega arith)

pub returns-then-op-eq-IF_EQUAL : goal.returns-then-op-eq-IF_EQUAL
returns-then-op-eq-IF_EQUAL c = equal-target _ _ _ (omega arith) (omega arith)

pub returns : goal.returns
returns c = less-target _ _ _ (known _ (search rules)) (omega arith) (omega arith)
