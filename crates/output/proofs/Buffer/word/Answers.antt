-- A word has no more than ten digits.
use Rattle.std.proofs.Common.{ℕ, ap, length, length-append, arith}
use Rattle.output.proofs.Decimals.{word-length}
use Rattle.output.proofs.Buffer.word.Goals as goal

pub digits_after_blank-requires : goal.digits_after_blank-requires
digits_after_blank-requires c = omega (arith, word-length c.from.result (omega arith))

pub returns-clause-upper_bound : goal.returns-clause-upper_bound
returns-clause-upper_bound c = omega (arith, ap length c.digits_after_blank.ensures, length-append {A = ℕ}, word-length c.from.result (omega arith))
