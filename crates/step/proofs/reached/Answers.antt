-- `step::reached` meets its contract: a law for each return.
use Rattle.std.proofs.lemmas.Result.{err_from_is_err_and}
use Rattle.step.proofs.Instructions.{put-done, read_past, read_done, write-past, write_done}
use Rattle.step.proofs.reached.Goals as goal

pub returns-in-Put : goal.returns-in-Put
returns-in-Put c = λ b j f n l. rw c.in-Put.is (put-done b j f n l _ _ 0 _)

pub returns-in_err-addressed-in-Read : goal.returns-in_err-addressed-in-Read
returns-in_err-addressed-in-Read c =
    let p = err_from_is_err_and c.from_residual.result c.from_residual.ensures.1 in
    let e = c.in_err-addressed-in-Read.ensures in
    λ b j f n l. rw (p.1, p.2, e.0, c.in-Read.is) (read_past b j f n l _ _ _ e.1)

pub returns-in_err-addressed-in-Write : goal.returns-in_err-addressed-in-Write
returns-in_err-addressed-in-Write c =
    let p = err_from_is_err_and c.from_residual-in_err-addressed-in-Write.result c.from_residual-in_err-addressed-in-Write.ensures.1 in
    let e = c.in_err-addressed-in-Write.ensures in
    λ b j f n l. rw (p.1, p.2, e.0, c.in-Write.is) (write-past b j f n l _ _ _ _ e.1)

pub returns-in_ok-addressed-in-Read : goal.returns-in_ok-addressed-in-Read
returns-in_ok-addressed-in-Read c = λ b j f n l. rw c.in-Read.is (read_done b j f n l _ _ _ c.in_ok-addressed-in-Read.ensures)

pub returns-in_ok-addressed-in-Write : goal.returns-in_ok-addressed-in-Write
returns-in_ok-addressed-in-Write c = λ b j f n l. rw c.in-Write.is (write_done b j f n l _ _ _ _ c.in_ok-addressed-in-Write.ensures)
