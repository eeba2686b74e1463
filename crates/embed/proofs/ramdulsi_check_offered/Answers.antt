-- `embed::ramdulsi_check_offered` meets its contract.
use mathlib.Core.Path.{ap, ◌∙◌}
use Rattle.embed.specs.Lent.{counted_place}
use Rattle.embed.proofs.ramdulsi_check_offered.Goals as goal

pub returns : goal.returns
returns c =
    let e = c.check_offered-a.ensures in (
      c.chosen.ensures.0 ∙ ap (λ a. a.number) e,
      c.chosen.ensures.1 ∙ ap counted_place e,
      c.chosen.ensures.2 ∙ ap (λ a. a.choice) e,
    )
