-- `meaning::Meanings::is_tagged` meets its contract, within the table of tags and past it.
use mathlib.Core.Path.{◌∙◌}
use native.Mathlib.Omega.{arith}
use Rattle.meaning.proofs.ByKind.{tag-beyond, tag-starts}
use Rattle.meaning.proofs.Meanings.is_tagged.Goals as goal

pub returns-then-k-self : goal.returns-then-k-self
returns-then-k-self c = c.starts.ensures ∙ tag-starts c.args.self.now _ _ (omega arith)

pub returns-else-k-self : goal.returns-else-k-self
returns-else-k-self c = tag-beyond c.args.self.now _ _ (omega arith)
