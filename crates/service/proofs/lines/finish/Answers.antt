-- `lines::finish` meets its contract.
use Rattle.service.proofs.Along.{finished-before, finished-line}
use Rattle.service.proofs.lines.finish.Goals as goal

pub returns-then-p-eq0 : goal.returns-then-p-eq0
returns-then-p-eq0 c = finished-before c.args.s c.args.p c.args.room.now.pools c.args.room.now.out c.requires c.if-p-eq0.true

pub returns-else-p-eq0 : goal.returns-else-p-eq0
returns-else-p-eq0 c =
    finished-line c.args.s c.args.p c.args.room.now.pools c.args.room.now.out c.line_ended.result _ _ c.requires c.if-p-eq0.false c.line_ended.ensures
