-- `known::Values::known_zero` meets its contract.
use mathlib.Core.Path.{sym, ◌∙◌}
use native.Mathlib.Omega.{arith}
use borrow.Author.Tests.{eq-eqb, ne_eqb}
use Rattle.known.proofs.Answers.{passes-stand, passes-partner, zero-known, zero_held}
use Rattle.known.proofs.Values.known_zero.Goals as goal

pub returns-then-r-eq256 : goal.returns-then-r-eq256
returns-then-r-eq256 c =
    let r = c.stand-r in
    λ types tags tested equal paired.
    let e = eq-eqb r.result 256 c.if-r-eq256.true in
    e ∙ zero-known _ _ _ (omega arith) _ (passes-stand _ _ _ _ _ _ paired _ (r.ensures tested equal) (sym (zero_held r.result) ∙ e))

pub returns-else-r-eq256 : goal.returns-else-r-eq256
returns-else-r-eq256 c =
    let r = c.stand-r in
    λ types tags tested equal paired. zero-known _ _ _ (omega arith) _
    (passes-partner _ _ _ _ _ _ paired _ (r.ensures tested equal) (sym (zero_held r.result) ∙ ne_eqb r.result 256 (λ h. omega arith)) _
    c.partner.ensures _ (zero_held c.partner.result))
