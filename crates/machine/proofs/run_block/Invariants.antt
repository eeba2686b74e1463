-- The steps that are left come to what the whole block comes to.
use mathlib.Core.Path.{◌≡◌}
use Prim.Native.Nat.{ℕ, ◌+◌, ◌-◌}
use lib.ListN.{length}
use Rattle.model.specs.Table.{Routine}
use Rattle.model.specs.Machine.{steps}
use Rattle.step.specs.Answer.{at}
use Rattle.machine.specs.Run.{Covers}
use Rattle.machine.proofs.run_block.Given as goal

abbrev pub invariant-loop-i : goal.invariant-loop-i
invariant-loop-i l =
    (P : Routine) (f n : ℕ) → Covers P l.b l.part
    → steps P (P.long l.b) (at l.b 0 l.fn.registers l.fn.memory f n)
    ≡ steps P (length l.part - l.i) (at l.b l.i l.registers l.memory f (n + l.i))
