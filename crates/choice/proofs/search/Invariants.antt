-- `choice::search` meets its contract. The invariant: the choices left are those with which the blocks below b pass.
use mathlib.Core.Path.{◌≡◌}
use Prim.Native.Nat.{ℕ}
use lib.ListN.{length}
use Rattle.model.specs.Table.{code_of, Routine}
use Rattle.verify.specs.Blocks.{tables_lent}
use Rattle.choice.specs.Choices.{Routines}
use Rattle.choice.proofs.Choosing.{LeftSo}
use Rattle.choice.proofs.search.Given as goal

abbrev pub invariant-loop-b : goal.invariant-loop-b
invariant-loop-b l =
    ((P : ℕ → Routine) → Routines P (code_of l.routine.blocks.now l.routine.code.now) l.offer.offered.now l.offer.blanks l.offer.most
    → LeftSo (tables_lent l.routine) P l.offer.most l.left l.b)
    × (length l.left ≡ 512)
