-- `table::field_counts` meets its contract.
use mathlib.Core.Path.{sym, ◌∙◌}
use native.Mathlib.Omega.{arith}
use Rattle.table.proofs.Questions.{row-yes, row-refused, rows-passed}
use Rattle.table.proofs.Answers.{count-yes, count-no}
use Rattle.table.proofs.field_counts.Goals as goal

pub returns-then-not-count_well : goal.returns-then-not-count_well
returns-then-not-count_well c = λ tags.
    rw c.at.ensures
    (row-refused c.loop-t.invariant tags (omega arith) (count-no _ tags _ _ c.head.ensures (sym c.count_well.ensures ∙ c.if-not-count_well.true)))

pub loop-t-preserved : goal.loop-t-preserved
loop-t-preserved c =
    row-yes c.loop-t.invariant (omega arith) (λ tags. count-yes _ tags _ _ c.head.ensures (sym c.count_well.ensures ∙ c.if-not-count_well.false))

pub returns : goal.returns
returns c = λ tags. rows-passed c.loop-t.invariant tags (omega arith)
