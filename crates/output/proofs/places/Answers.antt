-- `places` counts the digits: one more than the logarithm.
use Rattle.std.proofs.Common.{◌≡◌, ◌+◌, ◌*◌, ◌^◌, ◌≤◌, ◌∙◌, ap, length, arith}
use native.Mathlib.Nat.{pow-suc, pow-le-pow_right}
use native.Mathlib.Numerals.{add-one}
use Rattle.protocol.specs.Text.{decimal}
use Rattle.output.specs.Digits.{last_digits}
use Rattle.output.proofs.Decimals.{decimal-is, length_last}
use Rattle.output.proofs.places.Goals as goal

pub returns : goal.returns
returns c =
    let k = c.ilog10.result in
    let value = c.args.value in
    let more : 10 ^ (k + 1) ≡ 10 ^ k * 10 = rw add-one (pow-suc 10 k) in
    let ten : 1 ≤ k → 10 ^ 1 ≤ 10 ^ k = λ h. pow-le-pow_right (omega arith) h in
    let digits : decimal value ≡ last_digits (k + 1) value =
    decimal-is (k + 1) value (omega arith) (omega arith) (omega arith) (λ h. omega (arith, ten (omega arith))) in
    record { digits = digits; count = ap length digits ∙ length_last (k + 1) value }
