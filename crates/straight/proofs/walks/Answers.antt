-- `straight::walks` meets its contract.
use mathlib.Core.Path.{◌∙◌}
use native.Mathlib.Omega.{arith}
use borrow.Author.Tests.{ne_eqb}
use Rattle.straight.proofs.Steps.{walk_is, walk-not}
use Rattle.straight.proofs.walks.Goals as goal

pub returns-then-kind-eq-IN : goal.returns-then-kind-eq-IN
returns-then-kind-eq-IN c = walk_is c.args.kind c.args.size c.args.c (omega arith) c.requires

pub returns-else-kind-eq-IN : goal.returns-else-kind-eq-IN
returns-else-kind-eq-IN c = let n = c.if-kind-eq-IN.false in ne_eqb _ _ n ∙ walk-not c.args.kind c.args.size c.args.c n
