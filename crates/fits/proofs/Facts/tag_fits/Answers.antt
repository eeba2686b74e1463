-- `fits::Facts::tag_fits` meets its contract.
use mathlib.Core.Path.{sym, ◌∙◌}
use Rattle.table.proofs.Questions.{test-false, test-true}
use Rattle.fits.proofs.Answers.{tag-of-record, tag-other, tag-of-own}
use Rattle.fits.proofs.Facts.tag_fits.Goals as goal

pub returns-then-by_record : goal.returns-then-by_record
returns-then-by_record c =
    λ types tested equal paired. tag-of-record _ _ _ c.kind-kind.ensures.0 _ c.record_type-t.ensures.0 _ _ _
    (sym c.by_record.ensures ∙ c.if-by_record.true) _ (c.known_tag.ensures types tested equal paired)

pub returns-then-not-by_own_tag : goal.returns-then-not-by_own_tag
returns-then-not-by_own_tag c =
    λ types tested equal paired. tag-other _ _ _ c.kind-kind.ensures.0 _ _ _ (sym c.by_record.ensures ∙ c.if-by_record.false)
    (test-false c.by_own_tag.ensures c.if-not-by_own_tag.true-raw)

pub returns : goal.returns
returns c =
    λ types tested equal paired. tag-of-own _ _ _ c.kind-kind.ensures.0 _ _ c.first_dependency.ensures.0 c.dependency-x.ensures _ _ _
    (test-true c.by_own_tag.ensures c.if-not-by_own_tag.false-raw) _ (c.known_equal.ensures tested equal paired)
