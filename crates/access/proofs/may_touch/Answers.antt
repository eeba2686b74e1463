-- `access::may_touch` meets its contract.
use mathlib.Core.Path.{◌∙◌}
use native.Mathlib.Omega.{arith}
use borrow.Author.Tests.{le-leb}
use Rattle.access.proofs.Fields.{touch-free, touch-own}
use Rattle.access.proofs.may_touch.Goals as goal

pub returns-then-base-ge-NO_BASE : goal.returns-then-base-ge-NO_BASE
returns-then-base-ge-NO_BASE c = le-leb _ _ c.if-base-ge-NO_BASE.true ∙ touch-free c.args.base c.args.v (omega arith)

pub returns-else-base-ge-NO_BASE : goal.returns-else-base-ge-NO_BASE
returns-else-base-ge-NO_BASE c = touch-own c.args.base c.args.v (omega arith)
