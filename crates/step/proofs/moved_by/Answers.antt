-- `step::moved_by` meets its contract.
use mathlib.Core.Path.{ap, ◌∙◌}
use mir.Syntax.{w32}
use mir.Facts.{to_z-of_z}
use Rattle.model.specs.Word.{moved}
use Rattle.step.proofs.moved_by.Goals as goal

pub returns : goal.returns
returns c = c.moved.ensures ∙ ap (moved _) (to_z-of_z {w = w32} (record { sfits = c.before.signed.type_inv }) ∙ c.before.signed.ensures)
