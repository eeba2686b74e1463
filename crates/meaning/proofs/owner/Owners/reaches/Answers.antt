-- `meaning::owner::Owners::reaches` meets its contract, where a record starts and where none does.
use mathlib.Core.Path.{sym, ◌∙◌}
use Rattle.meaning.proofs.Runs.{and-goes-on, and-stops}
use Rattle.meaning.proofs.owner.Owners.reaches.Goals as goal

pub returns-then-starts : goal.returns-then-starts
returns-then-starts c = rw c.owner.ensures (and-goes-on _ _ (sym c.starts.ensures ∙ c.if-starts.true))

pub returns-else-starts : goal.returns-else-starts
returns-else-starts c = c.starts.ensures ∙ and-stops _ _ (sym c.starts.ensures ∙ c.if-starts.false)
