-- `blank::open_annotations` meets its contract.
use mathlib.Core.Path.{refl, sym, ◌∙◌}
use native.Mathlib.Omega.{arith}
use Rattle.model.specs.Blank.{open_annotations_ask}
use Rattle.table.proofs.Laws.{own-eight}
use Rattle.table.proofs.Questions.{rows-begin, row-yes, row-refused, rows-passed}
use Rattle.blank.proofs.Laws.{open-yes, open_no}
use Rattle.blank.proofs.open_annotations.Goals as goal

pub loop-b-init : goal.loop-b-init
loop-b-init c = rows-begin (λ _. unfold open_annotations_ask in refl)

pub may_stand-requires : goal.may_stand-requires
may_stand-requires c = own-eight _ _ _ (omega arith) c.type_words.ensures

pub returns-then-not-may_stand : goal.returns-then-not-may_stand
returns-then-not-may_stand c =
    rw c.at.ensures
    (row-refused c.loop-b.invariant tt (omega arith) (open_no _ _ _ _ c.type_words.ensures (sym c.may_stand.ensures ∙ c.if-not-may_stand.true)))

pub loop-b-preserved : goal.loop-b-preserved
loop-b-preserved c =
    row-yes c.loop-b.invariant (omega arith)
    (λ _. open-yes _ _ _ _ c.type_words.ensures (sym c.may_stand.ensures ∙ c.if-not-may_stand.false))

pub returns : goal.returns
returns c = rows-passed c.loop-b.invariant tt (omega arith)
