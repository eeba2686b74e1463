-- `fill` puts the last digits down from the last to the first: those that are left stand before at, and those that are put from there on.
use Rattle.std.proofs.Common.{◌≡◌, ◌++◌, length, drop}
use Rattle.output.specs.Digits.{last_digits}
use Rattle.output.proofs.fill.Given as goal

abbrev pub invariant-loop-at : goal.invariant-loop-at
invariant-loop-at l = last_digits (length l.initial.places) l.value ≡ last_digits l.at l.rest ++ drop l.at l.places
