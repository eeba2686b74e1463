-- `straight::moved_word` meets its contract.
use mathlib.Core.Path.{sym, ◌∙◌}
use native.Mathlib.Omega.{arith}
use Rattle.model.proofs.Logic.{test-false, test-true}
use Rattle.straight.proofs.Steps.{moved_other, moved-from, moved-not, moved-run}
use Rattle.straight.proofs.moved_word.Goals as goal

pub returns-then-kind-lt-RUN : goal.returns-then-kind-lt-RUN
returns-then-kind-lt-RUN c = moved_other _ _ _ _ (omega arith)

pub returns-then-walks : goal.returns-then-walks
returns-then-walks c =
    c.with_kind.ensures
    ∙ moved-from _ _ _ _ _ _ _ (omega arith) c.kind-kind.ensures.0 c.record_type.ensures.0 c.size-size.ensures.0
    (sym c.walks.ensures ∙ c.if-walks.true)

pub returns-then-not-divides : goal.returns-then-not-divides
returns-then-not-divides c =
    moved-not _ _ _ _ _ _ _ (omega arith) c.kind-kind.ensures.0 c.record_type.ensures.0 c.size-size.ensures.0
    (sym c.walks.ensures ∙ c.if-walks.false) (test-false c.divides.ensures c.if-not-divides.true-raw)

pub returns : goal.returns
returns c =
    c.with_kind-2.ensures
    ∙ moved-run _ _ _ _ _ _ _ (omega arith) c.kind-kind.ensures.0 c.record_type.ensures.0 c.size-size.ensures.0
    (sym c.walks.ensures ∙ c.if-walks.false) (test-true c.divides.ensures c.if-not-divides.false-raw)
