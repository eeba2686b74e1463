-- `meaning::Meanings::first_unmet` meets its contract, place by place.
use mathlib.Core.Path.{refl, sym, ◌∙◌}
use native.Mathlib.Omega.{arith}
use Rattle.meaning.proofs.ByKind.{legible}
use Rattle.meaning.proofs.Search.{search-on, search-stops, search-ends, place_is}
use Rattle.meaning.proofs.Meanings.first_unmet.Goals as goal

pub is_met-requires : goal.is_met-requires
is_met-requires c = legible _ _ _ _ _ refl (c.requires.well c.loop-i.i (omega arith)) c.requires.named

pub returns-then-not-is_met : goal.returns-then-not-is_met
returns-then-not-is_met c =
    search-stops c.loop-i.invariant (omega arith) (sym (place_is _ _ _ c.args.names.now _ _ _ c.is_met.ensures refl) ∙ c.if-not-is_met.true)

pub loop-i-preserved : goal.loop-i-preserved
loop-i-preserved c =
    search-on c.loop-i.invariant (omega arith) (sym (place_is _ _ _ c.args.names.now _ _ _ c.is_met.ensures refl) ∙ c.if-not-is_met.false)

pub returns : goal.returns
returns c = search-ends c.loop-i.invariant (omega arith)
