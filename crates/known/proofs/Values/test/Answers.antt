-- `known::Values::test` meets its contract.
use native.Mathlib.Omega.{arith}
use Rattle.known.proofs.Answers.{test-pairs}
use Rattle.known.proofs.Values.test.Goals as goal

pub returns-then-equal-eq0 : goal.returns-then-equal-eq0
returns-then-equal-eq0 c = (λ h. omega arith, λ h. absurd (omega arith))

pub returns : goal.returns
returns c = let q = c.far_stand in test-pairs _ _ q.result (q.ensures.0 _ _) (omega arith) (omega arith) (omega arith) (omega arith)
