-- `word::moved` meets its contract: d raised by 2^32 is a natural number, and 2^32 falls away modulo 2^32.
use Rattle.std.proofs.Common.{◌+◌, ◌%◌, T, ℤ, nat_abs, ap, ◌∙◌, arith, w64, Fits}
use mathlib.Core.Path.{subst⁻¹}
use lib.Signed.{non_neg}
use Rattle.word.proofs.Signs.{widened, raised-small, shifted_fits, shifted_back, moved-raised}
use Rattle.word.proofs.moved.Goals as goal

pub overflow_cast-up : goal.overflow_cast-up
overflow_cast-up c = widened c.args.d c.ranges.d

pub overflow_add-up : goal.overflow_add-up
overflow_add-up c = shifted_fits c.args.d c.ranges.d

pub overflow_cast-up-2 : goal.overflow_cast-up-2
overflow_cast-up-2 c =
    subst⁻¹ (λ (z : ℤ). T (non_neg z) × Fits w64 (nat_abs z)) (shifted_back c.args.d c.ranges.d)
    (tt, record { fits = omega (arith, raised-small c.args.d c.ranges.d) })

pub returns : goal.returns
returns c =
    ap (λ (z : ℤ). (c.args.x + nat_abs z % 4294967296) % 4294967296) (shifted_back c.args.d c.ranges.d)
    ∙ moved-raised c.args.x c.args.d c.ranges.d
