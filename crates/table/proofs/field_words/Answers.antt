-- `table::field_words` meets its contract.
use mathlib.Core.Path.{sym, ◌∙◌}
use native.Mathlib.Omega.{arith}
use Rattle.table.proofs.Laws.{own-eight}
use Rattle.table.proofs.Questions.{row-yes, row-refused, rows-passed}
use Rattle.table.proofs.Answers.{fields-yes, fields-no}
use Rattle.table.proofs.field_words.Goals as goal

pub words_well-requires : goal.words_well-requires
words_well-requires c = own-eight _ _ _ (omega arith) c.type_words.ensures

pub returns-then-not-words_well : goal.returns-then-not-words_well
returns-then-not-words_well c = λ tags.
    rw c.at.ensures
    (row-refused c.loop-t.invariant tags (omega arith)
    (fields-no _ tags _ _ c.head.ensures _ c.type_words.ensures (sym (rw c.rows-count.ensures at c.words_well.ensures) ∙ c.if-not-words_well.true)))

pub loop-t-preserved : goal.loop-t-preserved
loop-t-preserved c =
    row-yes c.loop-t.invariant (omega arith)
    (λ tags. fields-yes _ tags _ _ c.head.ensures _ c.type_words.ensures (sym (rw c.rows-count.ensures at c.words_well.ensures) ∙ c.if-not-words_well.false))

pub returns : goal.returns
returns c = λ tags. rows-passed c.loop-t.invariant tags (omega arith)
