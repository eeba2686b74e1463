-- `table::annotation_well` meets its contract: every word has its place, and none is marked.
use mathlib.Core.Path.{◌∙◌}
use Rattle.table.proofs.Answers.{annotation-is}
use Rattle.table.proofs.annotation_well.Goals as goal

pub returns : goal.returns
returns c = c.words_well.ensures ∙ annotation-is _ _
