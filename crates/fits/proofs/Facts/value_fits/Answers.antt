-- `fits::Facts::value_fits` meets its contract.
use mathlib.Core.Path.{refl}
use native.Mathlib.Omega.{arith}
use Rattle.fits.proofs.Answers.{fits-any, fits-same}
use Rattle.fits.proofs.Facts.value_fits.Goals as goal

pub returns-then-kind-eq-ANY : goal.returns-then-kind-eq-ANY
returns-then-kind-eq-ANY c = λ types tested equal paired. fits-any _ _ _ _ c.args.names.now _ c.kind-kind.ensures.0 (omega arith)

pub returns-in-5 : goal.returns-in-5
returns-in-5 c =
    λ types tested equal paired. fits-same _ _ _ _ c.args.names.now _ c.kind-kind.ensures.0 _ _ c.first_dependency.ensures.0
    c.named-y.ensures (omega arith) _ refl (omega arith) _ (c.known_equal.ensures tested equal paired)
