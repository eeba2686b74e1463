-- `table::tag_types` meets its contract. The invariant: the tags from k on come to what all come to.
use lib.ListN.{length}
use Rattle.model.specs.Question.{first_no}
use Rattle.model.specs.Table.{tables_of, tag_ask}
use Rattle.table.proofs.Questions.{RowsLeft}
use Rattle.table.proofs.tag_types.Given as goal

abbrev pub invariant-loop-k : goal.invariant-loop-k
invariant-loop-k l =
    RowsLeft {X = Unit {0}} (λ _. first_no (length l.tags) 0 (tag_ask (tables_of l.types l.tags))) (λ _. tag_ask (tables_of l.types l.tags)) (length l.tags) l.k
