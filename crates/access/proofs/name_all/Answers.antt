-- `access::name_all` meets its contract.
use Rattle.access.proofs.Fields.{names-are}
use Rattle.access.proofs.name_all.Goals as goal

pub returns : goal.returns
returns c = names-are _
