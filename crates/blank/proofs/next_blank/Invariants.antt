-- `blank::next_blank` meets its contract. The invariant: no block is blank from where the search began up to b.
use mathlib.Core.Path.{◌≡◌}
use Rattle.blank.proofs.Laws.{onward}
use Rattle.blank.proofs.next_blank.Given as goal

abbrev pub invariant-loop-b : goal.invariant-loop-b
invariant-loop-b l = onward l.blocks l.from ≡ onward l.blocks l.b
