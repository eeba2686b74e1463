-- `table::head` meets its contract: word 0 of the row.
use mathlib.Core.Path.{ap, ◌∙◌}
use mathlib.Core.List.{List}
use Prim.Native.Nat.{ℕ}
use native.Mathlib.Omega.{arith}
use lib.ListN.{length, get_or}
use Rattle.table.proofs.Laws.{row-length}
use Rattle.table.proofs.head.Goals as goal

pub bounds-row-0 : goal.bounds-row-0
bounds-row-0 c = omega (arith, ap length c.row.ensures ∙ row-length _ _ c.requires)

pub returns : goal.returns
returns c = ap (λ (own : List ℕ). get_or own 0 0) c.row.ensures
