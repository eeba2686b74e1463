-- `layout::layout` meets its contract.
use native.Mathlib.Omega.{arith}
use mathlib.Core.Path.{sym, ◌∙◌}
use Rattle.table.proofs.Laws.{type-lengths-passed}
use Rattle.layout.proofs.layout.Goals as goal

pub types-requires : goal.types-requires
types-requires c = omega (arith, type-lengths-passed _ _ (sym c.type_lengths.ensures ∙ c.in_ok-type_lengths.was))
