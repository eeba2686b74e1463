-- `step::carry_out` meets its contract: what was reached goes into the effect's register, and no other changes.
use Rattle.std.proofs.lemmas.Result.{err_from_is_err_and}
use Rattle.step.specs.Answer.{step_of}
use Rattle.step.proofs.carry_out.Goals as goal

pub returns-in_err-word-clause-does : goal.returns-in_err-word-clause-does
unfolding step_of
returns-in_err-word-clause-does c =
    let p = err_from_is_err_and c.from_residual.result c.from_residual.ensures.1 in
    λ b j f n. rw (p.1, p.2) (c.in_err-word.ensures b j f n _)

pub returns-clause-does : goal.returns-clause-does
unfolding step_of
returns-clause-does c = λ b j f n. rw c.register.ensures (c.in_ok-word.ensures b j f n _)
