-- `branch::learn` meets its contract: opcode 12, and opcode 11.
use native.Mathlib.Omega.{arith}
use Rattle.branch.proofs.Ends.{equal-tells, less-tells}
use Rattle.branch.proofs.learn.Goals as goal

pub returns-then-opcode-eq-IF_LESS : goal.returns-then-opcode-eq-IF_LESS
returns-then-opcode-eq-IF_LESS c =
    less-tells c.args.state.now _ _ c.a.ensures.0 (omega arith) _ _ c.b.ensures.0 c.from-u.ensures _ _ c.below.ensures c.not_below.ensures

pub returns : goal.returns
returns c = equal-tells c.args.state.now _ _ c.a.ensures.0 (omega arith) _ c.c.ensures.0 _ _ c.from.ensures c.not_zero.ensures
