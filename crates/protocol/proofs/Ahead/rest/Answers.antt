-- `protocol::Ahead::rest` meets its contract.
use Rattle.std.proofs.Common.{refl, arith}
use Rattle.protocol.proofs.Words.{rest_goes}
use Rattle.protocol.proofs.Ahead.rest.Goals as goal

pub returns : goal.returns
returns c =
    let s = c.args in
    let (fine, over, less) = c.requires in
    (λ p. rest_goes s.bytes.now p.words p.ends p.longs s.self.line s.self.at _ fine over (omega arith) refl, less)
