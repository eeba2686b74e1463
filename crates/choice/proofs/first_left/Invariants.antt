-- `choice::first_left` meets its contract. The invariant: no choice below i is left.
use mathlib.Core.Path.{◌≡◌}
use mathlib.Core.Bool.{true, false}
use Prim.Native.Nat.{ℕ, ◌<◌}
use lib.ListN.{get_or}
use Rattle.choice.specs.Choices.{is_choice}
use Rattle.choice.proofs.first_left.Given as goal

abbrev pub invariant-loop-i : goal.invariant-loop-i
invariant-loop-i l = (k : ℕ) → k < l.i → is_choice l.offer.most k ≡ true → get_or l.left k false ≡ true → ⊥
