-- `choice::Offer::has` meets its contract.
use mathlib.Core.Path.{sym, ◌∙◌}
use native.Mathlib.Omega.{arith}
use borrow.Author.Tests.{ltb-true}
use Rattle.std.proofs.lemmas.Bool.{ltb-false}
use Rattle.choice.proofs.Numbers.{no-first, no_second, by-third}
use Rattle.choice.proofs.Offer.has.Goals as goal
use Rattle.choice.proofs.Offer.has.Goals.{then-i-self, else-i-self}

pub returns-then-i-self-2 : goal.returns-then-i-self-2
returns-then-i-self-2 c =
    elim c.if-i-self.branch [
      | then-i-self w ↦ by-third _ _ w.if-i-self.true (ltb-true _ _ (sym w.value-is ∙ c.if-i-self-2.true))
      | else-i-self w ↦ absurd (omega (arith, ltb-true _ _ (sym w.value-is ∙ c.if-i-self-2.true)))
    ]

pub returns-else-i-self-2 : goal.returns-else-i-self-2
returns-else-i-self-2 c =
    c.if-i-self-2.false
    ∙ elim c.if-i-self.branch [
      | then-i-self w ↦ no_second _ _ w.if-i-self.true (ltb-false _ _ (sym w.value-is ∙ c.if-i-self-2.false))
      | else-i-self w ↦ no-first _ _ w.if-i-self.false
    ]
