-- `table::type_word` meets its contract: the word of the row past its number.
use mathlib.Core.Path.{ap, sym, ◌∙◌}
use mathlib.Core.List.{List}
use Prim.Native.Nat.{ℕ, ◌+◌}
use native.Mathlib.Omega.{arith}
use lib.ListN.{length, get_or}
use Rattle.table.proofs.Laws.{row-length, word-in-row}
use Rattle.table.proofs.type_word.Goals as goal

pub bounds-row-j : goal.bounds-row-j
bounds-row-j c = omega (arith, ap length c.row.ensures ∙ row-length _ _ c.requires.0)

pub returns : goal.returns
returns c = ap (λ (own : List ℕ). get_or own (c.args.j + 1) 0) c.row.ensures ∙ sym (word-in-row c.args.table.now c.args.k c.args.j)
