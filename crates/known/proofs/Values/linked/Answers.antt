-- `known::Values::linked` meets its contract.
use mathlib.Core.Bool.{false≢true}
use native.Mathlib.Omega.{arith}
use borrow.Author.Tests.{ltb-false}
use Rattle.known.proofs.Chains.{lead-other, lead-constant, root-constant, root-itself}
use Rattle.known.proofs.Values.linked.Goals as goal

pub returns-then-x-ge256 : goal.returns-then-x-ge256
returns-then-x-ge256 c = (λ h. absurd (false≢true h), λ h tested equal. root-constant _ _ (omega arith))

pub returns-then-kind-eq-SAME : goal.returns-then-kind-eq-SAME
returns-then-kind-eq-SAME c =
    let d = c.first_dependency in (
      λ h. omega arith,
      λ h tested equal. root-itself _ _ (omega arith)
          (lead-constant _ _ (omega arith) _ d.ensures.0 (ltb-false _ _ h)),
    )

pub returns-else-kind-eq-SAME : goal.returns-else-kind-eq-SAME
returns-else-kind-eq-SAME c = (
  λ h. omega arith,
  λ h tested equal. root-itself _ _ (omega arith) (lead-other _ _ (λ k. omega arith)),
)
