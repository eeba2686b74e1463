-- `known::Values::joined` meets its contract.
use mathlib.Core.Path.{◌∙◌}
use native.Mathlib.Omega.{arith}
use borrow.Author.Tests.{eq-eqb}
use Rattle.known.proofs.Answers.{equal-alike, equal-stand, equal-partner}
use Rattle.known.proofs.Values.joined.Goals as goal

pub returns-then-leads_to : goal.returns-then-leads_to
returns-then-leads_to c = λ tested equal paired. equal-alike _ _ _ _ _ (c.leads_to.ensures c.if-leads_to.true tested equal)

pub returns-then-r-s : goal.returns-then-r-s
returns-then-r-s c =
    λ tested equal paired. eq-eqb _ _ c.if-r-s.true
    ∙ equal-stand _ _ _ _ _ _ paired _ _ (c.stand-r.ensures tested equal) (c.stand-s.ensures tested equal) c.if-r-s.true

pub returns-else-r-s : goal.returns-else-r-s
returns-else-r-s c =
    λ tested equal paired. equal-partner _ _ _ _ _ _ paired _ _ (c.stand-r.ensures tested equal) (c.stand-s.ensures tested equal)
    (λ h. omega arith) _ c.partner.ensures
