-- `access::may_store` meets its contract.
use Rattle.access.proofs.Fields.{may-store}
use Rattle.access.proofs.may_store.Goals as goal

pub returns : goal.returns
returns c = λ tags. may-store _ _ _ _ _ _ c.type_word.ensures c.locked.ensures
