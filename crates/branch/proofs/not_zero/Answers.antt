-- `branch::not_zero` meets its contract.
use native.Mathlib.Omega.{arith}
use Rattle.branch.proofs.Ends.{zero-tested, zero-maybe, zero-tagged, zero-other}
use Rattle.branch.proofs.not_zero.Goals as goal

pub returns-then-k-ne0 : goal.returns-then-k-ne0
returns-then-k-ne0 c = zero-tested _ _ _ c.if-k-ne0.true

pub returns-in-2 : goal.returns-in-2
returns-in-2 c = zero-maybe _ _ _ c.if-k-ne0.false _ c.kind.ensures.0 c.in-2.is _ c.with_kind.ensures

pub returns-in-3 : goal.returns-in-3
returns-in-3 c = zero-tagged _ _ _ c.if-k-ne0.false _ c.kind.ensures.0 c.in-3.is _ c.with_kind-in-3.ensures

pub returns-in_default : goal.returns-in_default
returns-in_default c = zero-other _ _ _ c.if-k-ne0.false _ c.kind.ensures.0 (λ e. omega arith) (λ e. omega arith)
