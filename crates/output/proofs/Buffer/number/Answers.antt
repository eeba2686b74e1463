-- A number has no more than twenty digits.
use Rattle.std.proofs.Common.{ℕ, ap, length, length-append, arith}
use Rattle.output.proofs.Decimals.{decimal-length}
use Rattle.output.proofs.Buffer.number.Goals as goal

pub digits-requires : goal.digits-requires
digits-requires c = omega (arith, decimal-length c.args.value)

pub returns-clause-upper_bound : goal.returns-clause-upper_bound
returns-clause-upper_bound c = omega (arith, ap length c.digits.ensures, length-append {A = ℕ}, decimal-length c.args.value)
