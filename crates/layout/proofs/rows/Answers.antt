-- `layout::rows` meets its contract.
use mathlib.Core.Path.{sym, ◌∙◌}
use mathlib.Core.List.{[]}
use native.Mathlib.Omega.{arith}
use Rattle.layout.proofs.Layouts.{laid-exists, allocations-begin, row_laid, row-not-laid, allocations-end}
use Rattle.layout.proofs.rows.Goals as goal

pub loop-k-init : goal.loop-k-init
loop-k-init c = allocations-begin _ _ _

pub returns-then-not-is_laid : goal.returns-then-not-is_laid
returns-then-not-is_laid c = λ tags.
    rw c.at.ensures
    (row-not-laid c.loop-k.invariant (record { whole = omega arith; start = c.start-p.ensures; typed = c.record_type-t.ensures }) tags
    (sym (c.is_laid.ensures tags) ∙ c.if-not-is_laid.true))

pub head-requires : goal.head-requires
head-requires c = omega (arith, laid-exists _ [] _ _ _ _ (sym (c.is_laid.ensures []) ∙ c.if-not-is_laid.false))

pub loop-k-preserved : goal.loop-k-preserved
loop-k-preserved c =
    row_laid c.loop-k.invariant (record { whole = omega arith; start = c.start-p.ensures; typed = c.record_type-t.ensures }) _ c.head.ensures
    (λ tags. sym (c.is_laid.ensures tags) ∙ c.if-not-is_laid.false)

pub returns : goal.returns
returns c = λ tags. allocations-end c.loop-k.invariant tags (omega arith)
