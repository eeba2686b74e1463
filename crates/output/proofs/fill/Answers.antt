-- `fill` puts the last digits down from the last to the first.
use Rattle.std.proofs.Common.{◌∙◌, sym, arith}
use Rattle.output.proofs.Filling.{set-digit, all-set}
use Rattle.output.proofs.fill.Goals as goal

pub loop-at-preserved : goal.loop-at-preserved
loop-at-preserved c =
    let turn = c.loop-at in turn.invariant ∙ set-digit turn.places turn.rest turn.at (omega arith) (omega arith)

pub returns : goal.returns
returns c = let turn = c.loop-at in sym (turn.invariant ∙ all-set turn.places turn.rest turn.at (omega arith))
