-- `embed::ramdulsi_memory_check` meets its contract.
use mathlib.Core.Path.{ap, ◌∙◌}
use Rattle.embed.specs.Lent.{place_of}
use Rattle.embed.proofs.ramdulsi_memory_check.Goals as goal

pub returns : goal.returns
returns c = (
  c.placed.ensures.0 ∙ ap (λ v. v.number) c.memory_check-v.ensures,
  c.placed.ensures.1 ∙ ap place_of c.memory_check-v.ensures,
)
