-- `known::Values::lead` meets its contract.
use mathlib.Core.Path.{sym}
use native.Mathlib.Omega.{arith}
use Rattle.known.proofs.Chains.{lead-other, lead-constant, lead-away, lead_near}
use Rattle.known.proofs.Values.lead.Goals as goal

pub returns-then-kind-ne-SAME : goal.returns-then-kind-ne-SAME
returns-then-kind-ne-SAME c = (λ tested equal. sym (lead-other _ _ (λ h. omega arith)), omega arith)

pub returns-then-d-ge-CONSTANTS : goal.returns-then-d-ge-CONSTANTS
returns-then-d-ge-CONSTANTS c =
    let d = c.before.first_dependency-d in
    (λ tested equal. sym (lead-constant _ _ (omega arith) _ d.ensures.0 (omega arith)), omega arith)

pub returns-then-x-v : goal.returns-then-x-v
returns-then-x-v c =
    let f = c.before in
    let d = f.before.before.first_dependency-d in (
      λ tested equal. lead-away _ _ (omega arith) _ d.ensures.0 (omega arith) _ f.frame.ensures.0 (λ h. omega arith),
      omega arith,
    )

pub returns : goal.returns
returns c =
    let f = c.before in
    let d = f.before.before.first_dependency-d in (
      λ tested equal. lead_near _ _ (omega arith) _ d.ensures.0 (omega arith) _ f.frame.ensures.0 (omega arith),
      omega arith,
    )
