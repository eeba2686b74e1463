-- `step::advance` meets its contract: the register taken over makes the registers those handed back.
use mathlib.Core.Path.{◌∙◌}
use Rattle.std.proofs.lemmas.Result.{err_from_is_err_and}
use Rattle.step.specs.Answer.{step_of, does}
use Rattle.step.proofs.advance.Goals as goal

pub returns-in_err-e : goal.returns-in_err-e
unfolding step_of does
returns-in_err-e c =
    let p = err_from_is_err_and c.from_residual.result c.from_residual.ensures.1 in
    λ P b j f n d. rw (p.1, p.2) (c.in_err-e.ensures.does P b j f n _ d)

pub returns-in_err-next : goal.returns-in_err-next
unfolding step_of
returns-in_err-next c =
    let p = err_from_is_err_and c.from_residual-in_err-next.result c.from_residual-in_err-next.ensures.1 in
    λ P b j f n d. rw (p.1, p.2) (c.in_err-next.ensures.does b j f n ∙ c.in_ok-e.ensures.does P b j f n _ d)

pub returns : goal.returns
unfolding step_of
returns c = λ P b j f n d. rw (c.register.ensures, ← c.in_ok-next.ensures.others) (c.in_ok-next.ensures.does b j f n ∙ c.in_ok-e.ensures.does P b j f n _ d)
