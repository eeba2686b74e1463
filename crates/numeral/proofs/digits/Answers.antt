-- `numeral::digits` meets its contract.
use Rattle.std.proofs.Common.{◌≡◌, ◌+◌, suc, refl, sym, ◌∙◌, arith}
use Rattle.numeral.proofs.Numerals.{digit-some, digit_none, digit-most}
use Rattle.numeral.proofs.Scans.{scan-on, scan-large, scan-closed, scan-end}
use Rattle.numeral.proofs.digits.Goals as goal

pub returns-in_default : goal.returns-in_default
returns-in_default c =
    let l = c.loop-i in
    let no = digit_none _ _ (c.in_default.ensures) in
    c.closed.ensures ∙ sym (l.invariant.same ∙ scan-closed c.args.radix _ _ l.i _ _ _ _ c.loop-i-test.true refl refl no)

-- one more digit cannot wrap
pub overflow_add-value : goal.overflow_add-value
overflow_add-value c =
    let l = c.loop-i in
    let d = digit-some c.args.radix _ _ (c.in-Some.ensures) in
    let most = digit-most l.value c.args.radix l.invariant.word c.requires.0 in
    omega arith

pub returns-then-value-gt-WORD_MOST : goal.returns-then-value-gt-WORD_MOST
returns-then-value-gt-WORD_MOST c =
    let l = c.loop-i in
    let d = digit-some c.args.radix _ _ (c.in-Some.ensures) in
    sym (l.invariant.same ∙ scan-large c.args.radix _ _ l.i _ _ _ _ c.loop-i-test.true refl d.0 _ d.1 refl (omega arith))

pub loop-i-preserved : goal.loop-i-preserved
loop-i-preserved c =
    let l = c.loop-i in
    let d = digit-some c.args.radix _ _ (c.in-Some.ensures) in
    let on : c.args.before + (l.i + 1) ≡ suc (c.args.before + l.i) = omega arith in
    record {
      same = l.invariant.same ∙ scan-on c.args.radix _ _ l.i _ _ _ _ c.loop-i-test.true refl d.0 _ _ d.1 refl on (omega arith);
      word = omega arith;
    }

pub returns : goal.returns
returns c = let l = c.loop-i in sym (l.invariant.same ∙ scan-end c.args.radix _ _ l.i l.value _ (omega arith))
