-- `table::words_well` meets its contract. The invariant: the words from place f on come to what all come to.
use mathlib.Core.Path.{◌≡◌}
use Prim.Native.Nat.{◌-◌}
use Rattle.model.specs.Question.{every}
use Rattle.table.specs.Row.{row_well}
use Rattle.table.proofs.words_well.Given as goal

abbrev pub invariant-loop-f : goal.invariant-loop-f
invariant-loop-f l = every 8 0 (row_well l.count l.n l.marks l.words) ≡ every (8 - l.f) l.f (row_well l.count l.n l.marks l.words)
