-- `embed::ramdulsi_run` meets its contract.
use mathlib.Core.Path.{ap, ◌∙◌}
use Rattle.embed.specs.Lent.{ended_at}
use Rattle.embed.proofs.ramdulsi_run.Goals as goal

pub returns : goal.returns
returns c =
    let e = c.run-r.ensures in (
      ap (λ r. r.number) e.0,
      e.1,
      ap (λ r. r.registers) e.0,
      c.ended.ensures ∙ ap ended_at e.0,
    )
