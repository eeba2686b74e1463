-- `blank::offered_row` meets its contract: the part from k * 8 on that is eight words long.
use native.Mathlib.Nat.{add-sub_cancel_left}
use Rattle.model.specs.Blank.{offered_row}
use Rattle.blank.proofs.offered_row.Goals as goal

pub returns : goal.returns
unfolding offered_row
returns c = rw add-sub_cancel_left
