-- `blank::offered_rows` meets its contract. The invariant: the rows from k on come to what all come to.
use Rattle.model.specs.Blank.{offers, offered_rows_ask}
use Rattle.table.proofs.Questions.{RowsLeft}
use Rattle.blank.proofs.Laws.{offered_ask}
use Rattle.blank.proofs.offered_rows.Given as goal

abbrev pub invariant-loop-k : goal.invariant-loop-k
invariant-loop-k l = RowsLeft {X = Unit {0}} (λ _. offered_rows_ask l.count l.offered) (λ _. offered_ask l.count l.offered) (offers l.offered) l.k
