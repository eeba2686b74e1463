-- `choice::narrow` meets its contract: once where no chosen row is read, else by the least of those alike.
use mathlib.Core.Path.{◌∙◌}
use native.Mathlib.Omega.{arith}
use Rattle.choice.proofs.Numbers.{first-choice}
use Rattle.choice.proofs.Choosing.{narrow-once, narrow-each}
use Rattle.choice.proofs.narrow.Goals as goal

pub block_passes-requires : goal.block_passes-requires
block_passes-requires c = (c.requires.0, first-choice c.args.offer.now.offers)

pub returns-then-weights-eq0 : goal.returns-then-weights-eq0
returns-then-weights-eq0 c =
    let o = c.args.offer.now.offers in
    let zero = first-choice o in (
      c.requires.1,
      λ P B.
          narrow-once _ o.three B c.requires.0 _ c.target.ensures (rw c.weights-weights.ensures.0 at c.if-weights-eq0.true) _ zero _
          (c.block_passes.ensures (P 0) (B.annotated 0 (omega arith) zero) (B.at 0 (omega arith) zero)),
    )

pub returns : goal.returns
returns c =
    let w = c.weights-weights.ensures.0 in (
      c.strike.ensures.long ∙ c.requires.1,
      λ P B.
          narrow-each _ c.args.offer.now.offers.three B c.requires.0 _ c.target.ensures _ _ _ (rw w at (c.try_choices.ensures.1 P B))
          (rw w at c.strike.ensures),
    )
