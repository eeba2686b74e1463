-- `table::words_well` meets its contract.
use mathlib.Core.Path.{refl, sym, ◌∙◌}
use native.Mathlib.Omega.{arith}
use Rattle.table.proofs.Questions.{every-on, every-stops, every-end}
use Rattle.table.proofs.Answers.{place_is}
use Rattle.table.proofs.words_well.Goals as goal

pub returns-then-not-place_well : goal.returns-then-not-place_well
returns-then-not-place_well c =
    every-stops _ 8 c.loop-f.f _ c.loop-f.invariant (omega arith) (sym (place_is _ _ _ _ _ _ refl) ∙ sym c.place_well.ensures ∙ c.if-not-place_well.true)

pub loop-f-preserved : goal.loop-f-preserved
loop-f-preserved c =
    every-on _ 8 c.loop-f.f _ c.loop-f.invariant (omega arith) (sym (place_is _ _ _ _ _ _ refl) ∙ sym c.place_well.ensures ∙ c.if-not-place_well.false)

pub returns : goal.returns
returns c = every-end _ 8 c.loop-f.f _ c.loop-f.invariant (omega arith)
