-- `fits::Facts::row_fits` meets its contract. The invariant: the places from k on come to what all come to.
use mathlib.Core.Path.{◌≡◌}
use Prim.Native.Nat.{◌-◌}
use Rattle.model.specs.Question.{every}
use Rattle.model.specs.Reading.{row_fits}
use Rattle.fits.specs.Fits.{By, place_fits}
use Rattle.fits.proofs.Facts.row_fits.Given as goal

abbrev pub invariant-loop-k : goal.invariant-loop-k
invariant-loop-k l = By l.self (λ 𝒯 vs. row_fits 𝒯 vs l.n l.row l.names ≡ every (l.n - l.k) l.k (place_fits 𝒯 vs l.row l.names))
