-- `protocol::Ahead::some` meets its contract.
use Rattle.std.proofs.Common.{arith}
use Rattle.numeral.proofs.Scans.{found}
use Rattle.reader.specs.Reader.{reader}
use Rattle.reader.proofs.Keeps.{room-part, fine-by}
use Rattle.protocol.proofs.Words.{fine-ended, some_number}
use Rattle.protocol.proofs.Ahead.some.Goals as goal

pub returns-then-is_over : goal.returns-then-is_over
returns-then-is_over c = (c.rest.ensures.0 _, c.rest.ensures.1)

-- the number that was found may be taken, lies in the bytes and is a word
pub take_ahead-requires : goal.take_ahead-requires
take_ahead-requires c =
    let here = c.in-Some.ensures in
    let lies = found c.args.bytes.now c.args.self.at _ _ (omega arith) here.read in
    (room-part _ _ c.requires.0 here.room, lies.word, lies.some)

pub overflow_add-result : goal.overflow_add-result
overflow_add-result c =
    let here = c.in-Some.ensures in
    omega (arith, found c.args.bytes.now c.args.self.at _ _ (omega arith) here.read)

pub returns-in-Some : goal.returns-in-Some
returns-in-Some c =
    let s = c.args in
    let r = reader s.self.line s.pools.now in
    let p = c.requires.0 in
    let here = c.in-Some.ensures in
    let lies = found s.bytes.now s.self.at _ _ (omega arith) here.read in (
      record {
        same = some_number r _ _ _ _ _ here.gap (p.gap here.gap) here.read lies.some here.room c.take_ahead.ensures;
        on = omega arith;
        within = lies.within;
        fine = fine-by _ _ c.take_ahead.ensures (fine-ended r _ _ p here.room);
      },
      omega (arith, lies.some),
    )
