-- `fits::Facts::fits_pointer` meets its contract.
use mathlib.Core.Path.{refl, sym, ◌∙◌}
use native.Mathlib.Omega.{arith}
use borrow.Author.Tests.{ne_eqb}
use Rattle.fits.proofs.Answers.{fits-is-ref, fits-ref, fits-zero, fits-maybe}
use Rattle.fits.proofs.Facts.fits_pointer.Goals as goal

pub returns-then-is_ref : goal.returns-then-is_ref
returns-then-is_ref c =
    λ types tested equal paired. fits-is-ref _ _ _ c.args.w c.args.names.now _ refl _ c.record_type-t.ensures.0 (omega arith) (omega arith)
    (sym (c.is_ref.ensures types tested equal paired) ∙ c.if-is_ref.true)

pub returns-then-known_zero : goal.returns-then-known_zero
returns-then-known_zero c =
    λ types tested equal paired. c.if-known_zero.true
    ∙ fits-zero _ _ _ _ c.args.names.now _ c.kind.ensures.0 _ c.record_type-t.ensures.0
    (sym (c.is_ref.ensures types tested equal paired) ∙ c.if-is_ref.false) (omega arith)
    (sym (c.known_zero.ensures types _ tested equal paired) ∙ c.if-known_zero.true)

pub returns-else-known_zero : goal.returns-else-known_zero
returns-else-known_zero c =
    λ types tested equal paired. fits-maybe _ _ _ _ c.args.names.now _ c.kind.ensures.0 _ c.record_type-t.ensures.0
    (sym (c.is_ref.ensures types tested equal paired) ∙ c.if-is_ref.false) (omega arith)
    (sym (c.known_zero.ensures types _ tested equal paired) ∙ c.if-known_zero.false) _ (c.is_maybe.ensures types tested equal paired)

pub returns-else-kind-eq-MAYBE : goal.returns-else-kind-eq-MAYBE
returns-else-kind-eq-MAYBE c =
    λ types tested equal paired. ne_eqb _ _ c.if-kind-eq-MAYBE.false
    ∙ fits-ref _ _ _ _ c.args.names.now _ c.kind.ensures.0 _ c.record_type-t.ensures.0
    (sym (c.is_ref.ensures types tested equal paired) ∙ c.if-is_ref.false) (omega arith)
