-- `meaning::owner::Owners::owner` meets its contract, within the addresses and past them.
use mathlib.Core.Path.{ap, ◌∙◌}
use native.Mathlib.Omega.{arith}
use Rattle.std.proofs.Common.{unwrap_or}
use Rattle.meaning.specs.Owners.{owner_at}
use Rattle.meaning.proofs.Owners.{owner-is}
use Rattle.meaning.proofs.owner.Owners.owner.Goals as goal

pub returns : goal.returns
returns c =
    c.unwrap_or.ensures ∙ ap (λ o. unwrap_or o 0) c.copied.ensures ∙ c.get.ensures.lookup.4 (omega arith) 0
    ∙ owner-is c.self.inside.entries c.args.x c.self.told ∙ ap (λ o. owner_at o c.args.x) c.self.view_is
