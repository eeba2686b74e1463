-- `answer` meets its contract.
use Rattle.std.proofs.Common.{sym, ◌∙◌}
use Rattle.answers.proofs.Replies.{no-reply, replied}
use Rattle.answers.proofs.answer.Goals as goal

pub returns-then-not-has_answer-clause-reply : goal.returns-then-not-has_answer-clause-reply
returns-then-not-has_answer-clause-reply c =
    no-reply c.args.l c.args.room.now.pools c.args.s c.args.count c.args.room.now.out (sym c.has_answer.ensures ∙ c.if-not-has_answer.true)

pub returns-clause-reply : goal.returns-clause-reply
returns-clause-reply c =
    rw (c.is_refusal.ensures, c.line_end.ensures)
    (replied
    c.args.l
    c.args.room.now.pools
    c.args.s
    c.args.count
    c.args.room.now.out
    _ _ _
    c.answered-g.result
    (sym c.has_answer.ensures ∙ c.if-not-has_answer.false)
    c.numbered.ensures.text
    c.numbered.ensures.room
    c.answered-g.ensures.answer
    c.remarked.ensures)
