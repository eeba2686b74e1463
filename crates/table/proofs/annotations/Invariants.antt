-- `table::annotations` meets its contract. The invariant: the blocks from b on come to what all come to.
use Rattle.model.specs.Table.{rows, annotation_ask, annotations_ask}
use Rattle.table.proofs.Questions.{RowsLeft}
use Rattle.table.proofs.annotations.Given as goal

abbrev pub invariant-loop-b : goal.invariant-loop-b
invariant-loop-b l =
    RowsLeft {X = Unit {0}} (λ _. annotations_ask l.count l.blocks) (λ _. annotation_ask l.count l.blocks) (rows l.blocks) l.b
