-- `table::row` meets its contract: the part from k * 9 on that is nine words long.
use native.Mathlib.Nat.{add-sub_cancel_left}
use Rattle.model.specs.Table.{row_of}
use Rattle.table.proofs.row.Goals as goal

pub returns : goal.returns
unfolding row_of
returns c = rw add-sub_cancel_left
