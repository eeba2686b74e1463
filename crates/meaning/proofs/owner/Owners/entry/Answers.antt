-- `meaning::owner::Owners::entry` meets its contract, where a run goes on and where it ends.
use mathlib.Core.Path.{sym, ◌∙◌}
use Rattle.meaning.proofs.Owners.{entry-goes-on, entry-ends}
use Rattle.meaning.proofs.owner.Owners.entry.Goals as goal

pub returns-then-starts : goal.returns-then-starts
returns-then-starts c = c.owner.ensures ∙ entry-goes-on _ _ _ (sym c.starts.ensures ∙ c.if-starts.true)

pub returns-else-starts : goal.returns-else-starts
returns-else-starts c = entry-ends _ _ _ (sym c.starts.ensures ∙ c.if-starts.false)
