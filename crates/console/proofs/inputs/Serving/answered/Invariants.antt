-- `Serving::answered`: the turns go on through the bytes.
use Rattle.std.proofs.Common.{length, ◌-◌}
use Rattle.console.proofs.inputs.Serving.answered.Given as goal

abbrev pub decreases-loop-at : goal.decreases-loop-at
decreases-loop-at g l = length l.bytes - l.at
