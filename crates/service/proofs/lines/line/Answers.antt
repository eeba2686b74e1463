-- `lines::line` meets its contract.
use Rattle.reader.specs.Reader.{reader}
use Rattle.service.proofs.Along.{same_then, same-along, same_over, end_from}
use Rattle.service.proofs.lines.line.Goals as goal

pub returns-then-stop-bytes-clause-same : goal.returns-then-stop-bytes-clause-same
returns-then-stop-bytes-clause-same c =
    let bytes = c.args.bytes.now in
    let p = c.args.p in
    let stop = end_from bytes c.args.from c.before_end.result c.before_end.ensures.place in
    same_then
    c.args.s
    (same-along c.args.s (reader p.line c.args.room.now.pools) (reader c.piece.result c.piece.new.pools) p.count p.refused c.args.room.now.out bytes c.args.from
    _ stop c.piece.ensures.0)
    (same_over c.args.s _ _ _ _ bytes c.args.from _ stop c.if-stop-bytes.true c.line_ended.ensures)

pub returns-else-stop-bytes-clause-same : goal.returns-else-stop-bytes-clause-same
returns-else-stop-bytes-clause-same c =
    let bytes = c.args.bytes.now in
    let p = c.args.p in
    let stop = end_from bytes c.args.from c.before_end.result c.before_end.ensures.place in
    same-along c.args.s (reader p.line c.args.room.now.pools) (reader c.piece.result c.piece.new.pools) p.count p.refused c.args.room.now.out bytes c.args.from
    _ stop c.piece.ensures.0
