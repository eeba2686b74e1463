-- `blank::blank_blocks` meets its contract: each blank block is the next after the one before.
use mathlib.Core.Path.{refl}
use native.Mathlib.Omega.{arith}
use Rattle.blank.proofs.Laws.{listed-begin, listed-on, listed-early, listed-all}
use Rattle.blank.proofs.blank_blocks.Goals as goal

pub loop-k-init : goal.loop-k-init
loop-k-init c = listed-begin _ _ refl

pub loop-k-preserved : goal.loop-k-preserved
loop-k-preserved c = listed-on c.loop-k.invariant _ (omega arith) c.in-Some.ensures.1

pub returns-in_default : goal.returns-in_default
returns-in_default c = listed-early c.loop-k.invariant (omega arith) (c.in_default.ensures)

pub returns : goal.returns
returns c = listed-all c.loop-k.invariant _ (omega arith) c.next_blank-fourth.ensures
