-- `known::Values::far_root` meets its contract. The invariant: the steps that are left lead where all of them do.
use mathlib.Core.Path.{◌≡◌}
use Prim.Native.Nat.{ℕ, ◌-◌, ◌<◌}
use Rattle.model.specs.Values.{along}
use Rattle.known.specs.Numbers.{values_of}
use Rattle.known.proofs.Values.far_root.Given as goal

abbrev pub invariant-loop : goal.invariant-loop
invariant-loop l =
    ((tested equal : ℕ) → along (values_of l.self tested equal) (7 - l.counter) l.x ≡ along (values_of l.self tested equal) 7 l.v) × (l.x < 256)
