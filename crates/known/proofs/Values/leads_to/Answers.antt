-- `known::Values::leads_to` meets its contract.
use mathlib.Core.Path.{sym, ◌∙◌}
use native.Mathlib.Omega.{arith}
use borrow.Author.Tests.{eqb-true}
use Rattle.known.proofs.Chains.{led-alike}
use Rattle.known.proofs.Values.leads_to.Goals as goal

pub returns-then-x-lt256 : goal.returns-then-x-lt256
returns-then-x-lt256 c =
    let (is, below) = c.lead.ensures in
    λ h tested equal.
    let e = eqb-true _ _ h in
    led-alike _ _ (omega arith) _ (sym e ∙ is tested equal) (omega arith)
