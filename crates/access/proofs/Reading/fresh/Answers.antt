-- `access::Reading::fresh` meets its contract.
use mathlib.Core.Path.{refl}
use Rattle.access.proofs.Fields.{fresh-is}
use Rattle.access.proofs.Reading.fresh.Goals as goal

pub returns : goal.returns
returns c = (fresh-is c.args.self.now c.args.a c.args.g c.args.w c.args.frame c.args.constant, refl, refl, refl)
