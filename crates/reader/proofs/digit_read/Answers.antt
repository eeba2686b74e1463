-- `reader::digit_read` meets its contract.
use Rattle.std.proofs.Common.{arith}
use Rattle.numeral.proofs.Numerals.{base-most}
use Rattle.reader.proofs.Steps.{digit-other, digit-large, digit-on}
use Rattle.reader.proofs.digit_read.Goals as goal

pub digit-requires : goal.digit-requires
digit-requires c = omega (arith, c.base-by.ensures, base-most c.args.l.phase)

pub returns-in_default : goal.returns-in_default
returns-in_default c = digit-other c.args.l _ _ c.malformed.ensures (rw c.base-by.ensures at c.in_default.ensures)

pub returns-in_default-grown : goal.returns-in_default-grown
returns-in_default-grown c =
    let d = rw c.base-by.ensures at c.in-Some.ensures in
    let v = rw c.base-by.ensures at c.in_default-grown.ensures in
    digit-large c.args.l _ _ d _ c.in-Some-largest.ensures _ c.malformed-in_default-grown.ensures v

pub returns : goal.returns
returns c =
    let d = rw c.base-by.ensures at c.in-Some.ensures in
    let v = rw c.base-by.ensures at c.in-Some-grown.ensures in
    digit-on c.args.l _ _ d _ c.in-Some-largest.ensures _ _ v c.digit_to.ensures
