-- `fits::reference` meets its contract.
use mathlib.Core.Path.{refl, ap, ◌∙◌}
use Rattle.std.specs.Prelude.{Some}
use Rattle.fits.proofs.Answers.{reference-told}
use Rattle.fits.proofs.reference.Goals as goal

pub returns-in-Record : goal.returns-in-Record
returns-in-Record c =
    λ types. reference-told _ _ _ _ _ (c.in_ok-t.was ∙ ap Some c.in-Record.is) (c.refers_by.ensures 0 0) _ refl

pub returns-in-Tag : goal.returns-in-Tag
returns-in-Tag c =
    λ types. reference-told _ _ _ _ _ (c.in_ok-t.was ∙ ap Some c.in-Tag.is) (c.refers_by.ensures 0 0) _ (c.known_type.ensures types)

pub returns-in_err-t : goal.returns-in_err-t
returns-in_err-t c =
    λ types. c.from_residual.ensures ∙ reference-told _ _ _ _ _ c.in_err-t.was (c.refers_by.ensures 0 0) _ refl
