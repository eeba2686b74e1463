-- `table::tag_types` meets its contract.
use native.Mathlib.Omega.{arith}
use Rattle.table.proofs.Questions.{row-yes, row-refused, rows-passed}
use Rattle.table.proofs.Answers.{tag-yes, tag-no}
use Rattle.table.proofs.tag_types.Goals as goal

pub returns-then-count-tags : goal.returns-then-count-tags
returns-then-count-tags c = rw c.at.ensures (row-refused c.loop-k.invariant tt (omega arith) (tag-no _ _ c.loop-k.k (omega arith)))

pub loop-k-preserved : goal.loop-k-preserved
loop-k-preserved c = row-yes c.loop-k.invariant (omega arith) (λ _. tag-yes _ _ c.loop-k.k (omega arith))

pub returns : goal.returns
returns c = rows-passed c.loop-k.invariant tt (omega arith)
