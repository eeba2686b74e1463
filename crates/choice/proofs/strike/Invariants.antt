-- `choice::strike` meets its contract. The invariant: the choices below i are struck out where they must be.
use Rattle.choice.specs.Choices.{Struck}
use Rattle.choice.proofs.strike.Given as goal

abbrev pub invariant-loop-i : goal.invariant-loop-i
invariant-loop-i l = Struck l.weights l.passed l.fn.left l.left l.i
