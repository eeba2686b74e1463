-- `blank::offered_rows` meets its contract.
use mathlib.Core.Path.{refl, sym, ◌∙◌}
use native.Mathlib.Omega.{arith}
use Rattle.model.specs.Blank.{offered_rows_ask}
use Rattle.table.proofs.Questions.{rows-begin, row-yes, row-refused, rows-passed}
use Rattle.blank.proofs.Laws.{eight-offered, offered-yes, offered-no}
use Rattle.blank.proofs.offered_rows.Goals as goal

pub loop-k-init : goal.loop-k-init
loop-k-init c = rows-begin (λ _. unfold offered_rows_ask in refl)

pub annotation_well-requires : goal.annotation_well-requires
annotation_well-requires c = eight-offered _ _ _ (omega arith) c.offered_row.ensures

pub returns-then-not-annotation_well : goal.returns-then-not-annotation_well
returns-then-not-annotation_well c =
    rw c.at.ensures
    (row-refused c.loop-k.invariant tt (omega arith)
    (offered-no _ _ _ _ c.offered_row.ensures (sym c.annotation_well.ensures ∙ c.if-not-annotation_well.true)))

pub loop-k-preserved : goal.loop-k-preserved
loop-k-preserved c =
    row-yes c.loop-k.invariant (omega arith)
    (λ _. offered-yes _ _ _ _ c.offered_row.ensures (sym c.annotation_well.ensures ∙ c.if-not-annotation_well.false))

pub returns : goal.returns
returns c = rows-passed c.loop-k.invariant tt (omega arith)
