-- `choice::try_choices` meets its contract.
use mathlib.Core.Path.{◌∙◌}
use native.Mathlib.Omega.{arith}
use lib.ListN.{length-set}
use Rattle.choice.proofs.Choosing.{tried-on}
use Rattle.choice.proofs.try_choices.Goals as goal

pub loop-i-preserved : goal.loop-i-preserved
loop-i-preserved c =
    let l = c.loop-i in (
      length-set l.passed l.i c.tried.result ∙ l.invariant.0,
      λ P B. tried-on (l.invariant.1 P B) (omega (arith, l.invariant.0)) _ (c.tried.ensures P B),
    )

pub returns : goal.returns
returns c = (c.loop-i.invariant.0, λ P B. record { at = λ i h. (c.loop-i.invariant.1 P B).at i (omega arith) })
