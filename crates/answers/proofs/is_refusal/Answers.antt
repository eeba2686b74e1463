-- `is_refusal` meets its contract.
use Rattle.std.proofs.Common.{sym, rules}
use Rattle.answers.proofs.Replies.{refusal_none, refusal_other}
use Rattle.answers.proofs.is_refusal.Goals.{in-0, in_default}
use Rattle.answers.proofs.is_refusal.Goals as goal

pub returns : goal.returns
returns c =
    let row = c.args.row in
    elim c.match-matches.branch [
      | in-0 w ↦ rw w.matches-is (sym (refusal_none row w.in-0.is))
      | in_default w ↦ rw w.matches-is (sym (refusal_other row (search rules) (search rules) (search rules)))
    ]
