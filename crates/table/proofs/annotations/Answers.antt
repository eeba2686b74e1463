-- `table::annotations` meets its contract.
use mathlib.Core.Path.{refl, sym, ◌∙◌}
use native.Mathlib.Omega.{arith}
use Rattle.model.specs.Table.{annotations_ask}
use Rattle.table.proofs.Laws.{own-eight}
use Rattle.table.proofs.Questions.{rows-begin, row-yes, row-refused, rows-passed}
use Rattle.table.proofs.Answers.{annotation-yes, annotation-no}
use Rattle.table.proofs.annotations.Goals as goal

pub loop-b-init : goal.loop-b-init
loop-b-init c = rows-begin (λ _. unfold annotations_ask in refl)

pub annotation_well-requires : goal.annotation_well-requires
annotation_well-requires c = own-eight _ _ _ (omega arith) c.type_words.ensures

pub returns-then-not-annotation_well : goal.returns-then-not-annotation_well
returns-then-not-annotation_well c =
    rw c.at.ensures
    (row-refused c.loop-b.invariant tt (omega arith)
    (annotation-no _ _ _ _ c.type_words.ensures (sym c.annotation_well.ensures ∙ c.if-not-annotation_well.true)))

pub loop-b-preserved : goal.loop-b-preserved
loop-b-preserved c =
    row-yes c.loop-b.invariant (omega arith)
    (λ _. annotation-yes _ _ _ _ c.type_words.ensures (sym c.annotation_well.ensures ∙ c.if-not-annotation_well.false))

pub returns : goal.returns
returns c = rows-passed c.loop-b.invariant tt (omega arith)
