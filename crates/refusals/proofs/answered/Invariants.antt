-- `answered`: more can be read after each line, and each line is off the rest.
use Rattle.std.proofs.Common.{length}
use Rattle.service.specs.Filling.{Ready}
use Rattle.refusals.proofs.answered.Given as goal

abbrev pub invariant-loop-rest : goal.invariant-loop-rest
invariant-loop-rest g l = Ready l.p l.room.out

abbrev pub decreases-loop-rest : goal.decreases-loop-rest
decreases-loop-rest g l = length l.rest
