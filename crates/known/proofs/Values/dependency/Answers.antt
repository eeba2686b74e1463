-- `known::Values::dependency` meets its contract.
use mathlib.Core.Path.{ap, ◌∙◌}
use Prim.Native.Nat.{ℕ}
use Rattle.known.specs.Numbers.{sibling_of}
use Rattle.known.proofs.Values.dependency.Goals as goal

pub returns : goal.returns
returns c = c.sibling.ensures ∙ ap (λ (f : ℕ). sibling_of f c.before.before.args.x) c.before.frame.ensures.0
