-- `protocol::Ahead::byte_ahead` meets its contract.
use Rattle.std.proofs.Common.{arith}
use Rattle.reader.specs.Reader.{reader}
use Rattle.reader.proofs.Keeps.{fine-step, fine-by}
use Rattle.protocol.proofs.Words.{some_byte}
use Rattle.protocol.proofs.Ahead.byte_ahead.Goals as goal

pub returns : goal.returns
returns c =
    let s = c.args in
    let r = reader s.self.line s.pools.now in (
      record {
        same = some_byte r _ s.bytes.now s.self.at c.requires.1 c.next.ensures;
        on = omega arith;
        within = omega arith;
        fine = fine-by _ _ c.next.ensures (fine-step r _ c.requires.0);
      },
      omega arith,
    )
