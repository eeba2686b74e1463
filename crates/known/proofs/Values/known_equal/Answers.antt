-- `known::Values::known_equal` meets its contract.
use mathlib.Core.Path.{◌∙◌}
use borrow.Author.Tests.{eq-eqb}
use Rattle.known.proofs.Answers.{equal-one}
use Rattle.known.proofs.Values.known_equal.Goals as goal

pub returns-then-x-y : goal.returns-then-x-y
returns-then-x-y c = λ tested equal paired. eq-eqb _ _ c.if-x-y.true ∙ equal-one _ _ _ _ _ c.if-x-y.true
