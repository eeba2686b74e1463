-- `known::Values::least_on_circle` meets its contract. The invariant: the steps that are left come to what all come to.
use mathlib.Core.Path.{◌≡◌}
use Prim.Native.Nat.{ℕ, ◌-◌, ◌<◌}
use Rattle.model.specs.Values.{least_along}
use Rattle.known.specs.Numbers.{values_of}
use Rattle.known.proofs.Values.least_on_circle.Given as goal

abbrev pub invariant-loop : goal.invariant-loop
invariant-loop l =
    ((tested equal : ℕ)
    → least_along (values_of l.self tested equal) (7 - l.counter) l.least l.x ≡ least_along (values_of l.self tested equal) 7 l.u l.u)
    × (l.least < 256) × (l.x < 256)
