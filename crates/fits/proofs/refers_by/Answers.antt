-- `fits::refers_by` meets its contract.
use native.Mathlib.Omega.{arith}
use Rattle.fits.proofs.Answers.{refers-record, refers-other, refers-present}
use Rattle.fits.proofs.refers_by.Goals as goal

pub returns-in-1 : goal.returns-in-1
returns-in-1 c = λ tested equal. refers-record _ _ _ c.kind.ensures.0 _ c.record_type.ensures.0 c.in-1.is

pub returns-in-4 : goal.returns-in-4
returns-in-4 c =
    λ tested equal. refers-present _ _ _ c.kind.ensures.0 _ _ c.first_dependency.ensures.0 c.dependency.ensures c.in-4.is

pub returns-in_default : goal.returns-in_default
returns-in_default c = λ tested equal. refers-other _ _ _ c.kind.ensures.0 (assumption c) (λ h. omega arith)
