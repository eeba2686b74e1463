-- `tallied` meets its contract.
use Rattle.std.proofs.Common.{◌≡◌, length, rules, append_assoc}
use Rattle.answers.proofs.Replies.{choice_few, tally-none}
use Rattle.answers.proofs.tallied.Goals as goal

pub returns-then-t-ne0-clause-text : goal.returns-then-t-ne0-clause-text
returns-then-t-ne0-clause-text c =
    let t = c.in-Some.t in
    let three : 3 ≡ length t.choice = search rules in
    let few = choice_few t.chosen c.min.result t.choice c.if-t-ne0.true three c.min.ensures in
    rw (c.words.ensures.appended, c.text-then-t-ne0.ensures, c.number.ensures.appended, c.text.ensures, c.from.ensures, c.in-Some.is, ← few)
    (simp append_assoc)

pub returns-else-t-ne0-clause-text : goal.returns-else-t-ne0-clause-text
returns-else-t-ne0-clause-text c =
    rw (c.number.ensures.appended, c.text.ensures, c.from.ensures, c.in-Some.is, tally-none c.in-Some.t c.if-t-ne0.false) (simp append_assoc)
