-- `access::Reading::load` meets its contract.
use mathlib.Core.Path.{refl, sym, ◌∙◌}
use Rattle.access.proofs.Outcomes.{none_more}
use Rattle.access.proofs.Fields.{load-own, load-other}
use Rattle.access.proofs.Reading.load.Goals as goal

pub returns-then-may_touch : goal.returns-then-may_touch
returns-then-may_touch c =
    λ types tags. record {
      outcome = λ place. load-own _ _ _ _ _ _ (sym c.may_touch.ensures ∙ c.if-may_touch.true);
      count = none_more refl refl;
    }

pub returns : goal.returns
returns c =
    λ types tags. record {
      outcome = λ place. load-other _ _ _ _ _ _ (sym c.may_touch.ensures ∙ c.if-may_touch.false) _;
      count = none_more refl refl;
    }
