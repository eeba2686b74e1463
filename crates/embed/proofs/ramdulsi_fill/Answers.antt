-- `embed::ramdulsi_fill` meets its contract.
use mathlib.Core.Path.{◌≡◌, ap, ◌∙◌}
use mathlib.Core.List.{List}
use Prim.Native.Nat.{ℕ}
use Rattle.model.specs.declared.OfferedAnswer.{OfferedAnswer}
use Rattle.model.specs.Blank.{filled_after}
use Rattle.embed.specs.Lent.{counted_place}
use Rattle.embed.proofs.ramdulsi_fill.Goals as goal

filled-by : (blocks offered left : List ℕ) (a b : OfferedAnswer) → a ≡ b → left ≡ filled_after a blocks offered → left ≡ filled_after b blocks offered
filled-by blocks offered left a b e h = h ∙ ap (λ (x : OfferedAnswer). filled_after x blocks offered) e

pub returns : goal.returns
returns c =
    let e = c.fill-a.ensures in (
      (c.chosen.ensures.0 ∙ ap (λ a. a.number) e.0, c.chosen.ensures.1 ∙ ap counted_place e.0, c.chosen.ensures.2 ∙ ap (λ a. a.choice) e.0),
      filled-by _ _ _ _ _ e.0 e.1,
    )
