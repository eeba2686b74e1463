-- After each turn the fields of the words gone through stand after what was held.
use Rattle.std.proofs.Common.{◌≡◌, ◌++◌, ◌+◌, ◌*◌, ◌≤◌, length, take}
use Rattle.protocol.specs.Text.{fields}
use Rattle.output.proofs.Buffer.words.Given as goal

abbrev pub invariant-loop-value : goal.invariant-loop-value
invariant-loop-value l = record {
  appended : l.self ≡ l.initial.self ++ fields (take l.value-index l.list);
  upper_bound : length l.self ≤ length l.initial.self + 11 * l.value-index;
}
