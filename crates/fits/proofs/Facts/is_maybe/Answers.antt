-- `fits::Facts::is_maybe` meets its contract.
use native.Mathlib.Omega.{arith}
use Rattle.fits.proofs.Answers.{maybe_maybe, maybe-other, maybe_tagged}
use Rattle.fits.proofs.Facts.is_maybe.Goals as goal

pub returns-in-2 : goal.returns-in-2
returns-in-2 c = λ types tested equal paired. maybe_maybe _ _ _ c.kind.ensures.0 _ c.record_type.ensures.0 _ _ c.in-2.is

pub returns-in-3 : goal.returns-in-3
returns-in-3 c =
    λ types tested equal paired. maybe_tagged _ _ _ c.kind.ensures.0 _ _ c.first_dependency.ensures.0 c.dependency-x.ensures _ _
    c.in-3.is _ (c.known_tag.ensures types tested equal paired)

pub returns-in_default : goal.returns-in_default
returns-in_default c =
    λ types tested equal paired. maybe-other _ _ _ c.kind.ensures.0 _ _ (λ h. omega arith) (λ h. omega arith)
