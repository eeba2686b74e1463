-- `protocol::piece` meets its contract.
use Rattle.std.proofs.Common.{sym, ◌∙◌}
use Rattle.protocol.proofs.Words.{reads-past}
use Rattle.protocol.proofs.piece.Goals as goal

pub returns : goal.returns
returns c =
    let a = c.loop-ahead in
    (sym (a.invariant.same ∙ reads-past _ _ a.ahead.at c.loop-ahead-test.false), a.invariant.fine)
