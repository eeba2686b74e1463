-- `protocol::end` meets its contract.
use Rattle.reader.proofs.Steps.{end-made}
use Rattle.protocol.proofs.end.Goals as goal

pub returns : goal.returns
returns c = end-made _ c.act-m.result _ _ _ _ c.settled.ensures c.act-m.ensures
