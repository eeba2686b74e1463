-- `numeral::digits` meets its contract. The invariant: the scan goes on from byte i, with the value so far, as it would from the first digit.
use Rattle.std.proofs.Common.{◌≡◌, ◌+◌, ◌<◌, drop}
use Rattle.grammar.specs.Grammar.{word_end}
use Rattle.numeral.specs.Scan.{scan}
use Rattle.numeral.proofs.digits.Given as goal

abbrev pub invariant-loop-i : goal.invariant-loop-i
invariant-loop-i l = record {
  same : scan l.radix l.before 0 l.before l.bytes ≡ scan l.radix l.before l.value (l.before + l.i) (drop l.i l.bytes);
  word : l.value < word_end;
}
