-- `table::type_words` meets its contract: the row past its number.
use native.Mathlib.Omega.{arith}
use Rattle.table.proofs.Laws.{row_words, part-is}
use Rattle.table.proofs.type_words.Goals as goal

pub slice_bounds-result-count : goal.slice_bounds-result-count
slice_bounds-result-count c = omega (arith, row_words _ _ _ c.requires c.row.ensures)

pub slice_bounds-result-start : goal.slice_bounds-result-start
slice_bounds-result-start c = omega (arith, row_words _ _ _ c.requires c.row.ensures)

pub returns : goal.returns
returns c = part-is _ _ _ c.row.ensures
