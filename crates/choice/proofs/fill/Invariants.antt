-- `choice::fill` meets its contract. The invariant: the rows before place k are laid.
use mathlib.Core.Path.{◌≡◌}
use Rattle.choice.proofs.Laying.{laid_first}
use Rattle.choice.proofs.fill.Given as goal

abbrev pub invariant-loop-k : goal.invariant-loop-k
invariant-loop-k l = l.blocks ≡ laid_first l.fn.blocks l.offered l.blanks.three l.a.choice l.k
