-- `straight::divides` meets its contract.
use mathlib.Core.Path.{refl}
use native.Mathlib.Omega.{arith}
use Rattle.model.specs.Question.{◌or◌}
use Rattle.straight.proofs.Steps.{divides-one, divides-by, divides-other}
use Rattle.straight.proofs.divides.Goals as goal

pub returns-in-1 : goal.returns-in-1
returns-in-1 c = divides-one c.args.n c.args.c (omega arith)

pub returns-in-2 : goal.returns-in-2
unfolding ◌or◌
returns-in-2 c = divides-by c.args.n c.args.c 2 refl (omega arith)

pub returns-in-4 : goal.returns-in-4
unfolding ◌or◌
returns-in-4 c = divides-by c.args.n c.args.c 4 refl (omega arith)

pub returns-in-8 : goal.returns-in-8
unfolding ◌or◌
returns-in-8 c = divides-by c.args.n c.args.c 8 refl (omega arith)

pub returns-in_default : goal.returns-in_default
returns-in_default c = divides-other c.args.n c.args.c (λ h. omega arith) (λ h. omega arith) (λ h. omega arith) (λ h. omega arith)
