-- `known::Values::far_root` meets its contract.
use mathlib.Core.Path.{refl, sym, ◌∙◌}
use Prim.Native.Nat.{◌-◌}
use native.Mathlib.Omega.{arith}
use Rattle.known.proofs.Chains.{along-next, root_ends, root-circles}
use Rattle.known.proofs.Values.far_root.Goals as goal

pub loop-init : goal.loop-init
loop-init c = (λ tested equal. refl, omega arith)

pub returns-then-w-x : goal.returns-then-w-x
returns-then-w-x c =
    let at = c.loop in (
      λ tested equal. root_ends _ _ (7 - at.counter) at.x (at.invariant.0 tested equal) (sym (c.lead-w.ensures.0 tested equal) ∙ c.if-w-x.true),
      omega arith,
    )

pub loop-preserved : goal.loop-preserved
loop-preserved c =
    let at = c.loop in (
      λ tested equal. along-next _ 7 at.counter at.x _ (omega arith) (c.lead-w.ensures.0 tested equal) ∙ at.invariant.0 tested equal,
      omega arith,
    )

pub returns : goal.returns
returns c =
    let at = c.loop in (
      λ tested equal. c.least_on_circle.ensures.0 tested equal
          ∙ root-circles _ _ (7 - at.counter) at.x (at.invariant.0 tested equal) (omega arith),
      omega arith,
    )
