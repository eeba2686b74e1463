-- `known::Values::least_on_circle` meets its contract.
use mathlib.Core.Path.{refl, ◌∙◌}
use Prim.Native.Nat.{◌-◌, ◌<◌}
use native.Mathlib.Omega.{arith}
use Rattle.known.proofs.Chains.{least_on, least-done}
use Rattle.known.proofs.Values.least_on_circle.Goals as goal

pub loop-init : goal.loop-init
loop-init c = (λ tested equal. refl, omega arith, omega arith)

pub loop-preserved : goal.loop-preserved
loop-preserved c =
    let at = c.loop in
    let steps : at.counter < 7 = omega arith in (
      λ tested equal. least_on _ 7 at.counter at.x _ steps (c.lead-x.ensures.0 tested equal) at.least _ c.min-least.ensures ∙ at.invariant.0 tested equal,
      omega arith,
      omega arith,
    )

pub returns : goal.returns
returns c = let at = c.loop in (λ tested equal. least-done _ (7 - at.counter) (omega arith) _ _ ∙ at.invariant.0 tested equal, omega arith)
