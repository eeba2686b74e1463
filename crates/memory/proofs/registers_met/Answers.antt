-- `memory::registers_met` meets its contract: the first register that does not meet its meaning, if any.
use mathlib.Core.Path.{sym, ◌∙◌}
use native.Mathlib.Omega.{arith}
use Rattle.meaning.proofs.Search.{found-below}
use Rattle.memory.proofs.Checks.{registers-stop, registers-pass}
use Rattle.memory.proofs.registers_met.Goals as goal

pub at-requires : goal.at-requires
at-requires c = omega (arith, found-below _ _ _ (sym c.first_unmet.ensures ∙ c.in-Some.is), c.requires.named)

pub returns-in-Some : goal.returns-in-Some
returns-in-Some c = rw c.at.ensures (registers-stop _ _ _ _ _ (sym c.first_unmet.ensures ∙ c.in-Some.is))

pub returns-in-None : goal.returns-in-None
returns-in-None c = registers-pass _ _ _ _ _ (sym c.first_unmet.ensures ∙ c.in-None.is)
