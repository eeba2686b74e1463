-- `fits::Facts::is_ref` meets its contract.
use mathlib.Core.Path.{refl, ap, ◌∙◌}
use Rattle.std.specs.Prelude.{Some}
use Rattle.fits.proofs.Answers.{ref-told}
use Rattle.fits.proofs.Facts.is_ref.Goals as goal

pub returns-in-Some-Record : goal.returns-in-Some-Record
returns-in-Some-Record c =
    let r = c.in-Some-Record in
    λ types tested equal paired. ref-told _ _ _ _ _ (r.is ∙ ap Some r.field-0-is) (c.refers_by.ensures tested equal) _ _ refl

pub returns-in-Some-Tag : goal.returns-in-Some-Tag
returns-in-Some-Tag c =
    let r = c.in-Some-Tag in
    λ types tested equal paired. ref-told _ _ _ _ _ (r.is ∙ ap Some r.field-0-is) (c.refers_by.ensures tested equal) _ _
    (c.known_tag.ensures types tested equal paired)

pub returns-in-None : goal.returns-in-None
returns-in-None c = λ types tested equal paired. ref-told _ _ _ _ _ c.in-None.is (c.refers_by.ensures tested equal) _ _ refl
