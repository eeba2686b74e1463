-- `choice::try_choices` meets its contract. The invariant: each choice below i was tried.
use mathlib.Core.Path.{◌≡◌}
use Prim.Native.Nat.{ℕ}
use lib.ListN.{length}
use Rattle.model.specs.Table.{Routine}
use Rattle.verify.specs.Blocks.{tables_lent}
use Rattle.choice.specs.Choices.{BlockOf, Tried}
use Rattle.choice.proofs.try_choices.Given as goal

abbrev pub invariant-loop-i : goal.invariant-loop-i
invariant-loop-i l =
    (length l.passed ≡ 512)
    × ((P : ℕ → Routine)
    → BlockOf P l.routine.blocks.now l.offer.offered.now l.offer.blanks l.offer.most l.block.number l.block.first l.block.code.now
    → Tried (tables_lent l.routine) P l.offer.most l.weights l.block.number l.passed l.i)
