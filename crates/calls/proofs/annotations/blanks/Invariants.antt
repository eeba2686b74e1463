-- `annotations::blanks` meets its contract: what was found, with the blank rows from b on, are all.
use Rattle.std.proofs.Common.{◌≡◌, ◌+◌, ◌-◌, ◌≤◌, length}
use Rattle.model.specs.Table.{rows}
use Rattle.model.specs.Blank.{blanks_from, blanks_of}
use Rattle.calls.proofs.annotations.blanks.Given as goal

abbrev pub invariant-loop-b : goal.invariant-loop-b
invariant-loop-b l =
    (l.found ≤ l.b) × (l.found + length (blanks_from l.blocks (rows l.blocks - l.b) l.b) ≡ length (blanks_of l.blocks))
