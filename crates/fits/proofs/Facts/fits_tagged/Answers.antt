-- `fits::Facts::fits_tagged` meets its contract: by the tag first, and known 0 last.
use mathlib.Core.Path.{sym, ap, ◌∙◌}
use mathlib.Core.Bool.{not}
use native.Mathlib.Omega.{arith}
use borrow.Author.Tests.{eq-eqb, ne_eqb}
use Rattle.fits.proofs.Answers.{fits-tag, fits-present, fits-tagged}
use Rattle.fits.proofs.Facts.fits_tagged.Goals as goal

pub returns-then-tag_fits : goal.returns-then-tag_fits
returns-then-tag_fits c =
    λ types tested equal paired. c.if-tag_fits.true
    ∙ fits-tag _ _ _ _ c.args.names.now _ c.kind-present.ensures.0 _ _ c.first_dependency.ensures.0 c.named-y.ensures (omega arith) (omega arith)
    (sym (c.tag_fits.ensures types tested equal paired) ∙ c.if-tag_fits.true)

pub returns-then-not-present : goal.returns-then-not-present
returns-then-not-present c =
    λ types tested equal paired. fits-tagged _ _ _ _ c.args.names.now _ c.kind-present.ensures.0 _ _ c.first_dependency.ensures.0 c.named-y.ensures
    (omega arith) (omega arith) (sym (c.tag_fits.ensures types tested equal paired) ∙ c.if-tag_fits.false) (ne_eqb _ _ c.if-not-present.true) _
    (c.known_zero.ensures types _ tested equal paired)

pub returns-else-not-present : goal.returns-else-not-present
returns-else-not-present c =
    let present = eq-eqb _ _ c.if-not-present.false in
    λ types tested equal paired. ap not present
    ∙ fits-present _ _ _ _ c.args.names.now _ c.kind-present.ensures.0 _ _ c.first_dependency.ensures.0 c.named-y.ensures (omega arith) (omega arith)
    (sym (c.tag_fits.ensures types tested equal paired) ∙ c.if-tag_fits.false) present
