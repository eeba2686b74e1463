-- After each turn the letters gone through stand after what was held, with the numbers in place of A and B.
use Rattle.std.proofs.Common.{◌≡◌, ◌++◌, ◌+◌, ◌*◌, ◌≤◌, length, take}
use Rattle.telling.specs.Row.{written}
use Rattle.telling.proofs.said_place.Given as goal

abbrev pub invariant-loop-byte : goal.invariant-loop-byte
invariant-loop-byte l = record {
  appended : l.out ≡ l.initial.out ++ written l.place (take l.byte-index l.byte-items);
  upper_bound : length l.out ≤ length l.initial.out + 20 * l.byte-index;
}
