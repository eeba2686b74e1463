-- `blank::open_annotations` meets its contract. The invariant: the blocks from b on come to what all come to.
use Rattle.model.specs.Table.{rows}
use Rattle.model.specs.Blank.{open_annotations_ask}
use Rattle.table.proofs.Questions.{RowsLeft}
use Rattle.blank.proofs.Laws.{open_ask}
use Rattle.blank.proofs.open_annotations.Given as goal

abbrev pub invariant-loop-b : goal.invariant-loop-b
invariant-loop-b l = RowsLeft {X = Unit {0}} (λ _. open_annotations_ask l.count l.blocks) (λ _. open_ask l.count l.blocks) (rows l.blocks) l.b
