-- `fits::Facts::is_span` meets its contract.
use native.Mathlib.Omega.{arith}
use Rattle.fits.proofs.Answers.{bound_is, span_below, span-other, span-first, span-both}
use Rattle.fits.proofs.Facts.is_span.Goals as goal

pub returns-then-kind : goal.returns-then-kind
returns-then-kind c = λ types tested equal paired. span_below _ _ _ c.args.w c.args.names.now (omega arith) (omega arith)

pub returns-then-record_type : goal.returns-then-record_type
returns-then-record_type c =
    λ types tested equal paired. span-other _ _ _ c.args.w c.args.names.now (omega arith) (omega arith) _ _ c.record_type.ensures.0
    c.record_type-2.ensures.0 (λ h. omega arith)

pub returns-then-bound : goal.returns-then-bound
returns-then-bound c =
    λ types tested equal paired. span-both _ _ _ c.args.w c.args.names.now (omega arith) (omega arith) _ _ c.record_type.ensures.0
    c.record_type-2.ensures.0 (omega arith) _
    (bound_is _ _ _ _ _ _ _ c.first_dependency.ensures.0 c.first_dependency-2.ensures.0 _ (c.bound.ensures types tested equal paired)) c.if-bound.true _
    (bound_is _ _ _ _ _ _ _ c.second_dependency.ensures.0 c.second_dependency-then-bound.ensures.0 _ (c.bound-then-bound.ensures types tested equal paired))

pub returns-else-bound : goal.returns-else-bound
returns-else-bound c =
    λ types tested equal paired. span-first _ _ _ c.args.w c.args.names.now (omega arith) (omega arith) _ _ c.record_type.ensures.0
    c.record_type-2.ensures.0 (omega arith) _
    (bound_is _ _ _ _ _ _ _ c.first_dependency.ensures.0 c.first_dependency-2.ensures.0 _ (c.bound.ensures types tested equal paired)) c.if-bound.false
