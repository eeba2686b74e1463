-- `table::field_words` meets its contract. The invariant: the rows from t on come to what all come to, whatever the tags.
use Rattle.model.specs.Question.{first_no}
use Rattle.model.specs.Table.{rows, tables_of, fields_ask}
use Rattle.table.proofs.Questions.{RowsLeft}
use Rattle.table.proofs.field_words.Given as goal

abbrev pub invariant-loop-t : goal.invariant-loop-t
invariant-loop-t l =
    RowsLeft (λ tags. first_no (rows l.types) 0 (fields_ask (tables_of l.types tags))) (λ tags. fields_ask (tables_of l.types tags)) (rows l.types) l.t
