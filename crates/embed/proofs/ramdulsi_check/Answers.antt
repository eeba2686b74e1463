-- `embed::ramdulsi_check` meets its contract.
use mathlib.Core.Path.{ap, ◌∙◌}
use Rattle.embed.specs.Lent.{place_and_count}
use Rattle.embed.proofs.ramdulsi_check.Goals as goal

pub returns : goal.returns
returns c = (
  c.counted.ensures.0 ∙ ap (λ v. v.number) c.check-a.ensures,
  c.counted.ensures.1 ∙ ap place_and_count c.check-a.ensures,
)
