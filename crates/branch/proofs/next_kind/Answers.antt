-- `branch::next_kind` meets its contract.
use mathlib.Core.Path.{refl, sym, ◌∙◌}
use Rattle.known.proofs.Stands.{paired-nothing}
use Rattle.branch.proofs.Ends.{next-other, next-not, next-is}
use Rattle.branch.proofs.next_kind.Goals as goal
use Rattle.branch.proofs.next_kind.Goals.{else-kind-via-then-kind+else-known_equal, else-kind-via-else-kind}

pub returns-then-known_equal : goal.returns-then-known_equal
returns-then-known_equal c =
    next-is _ _ _ _ _ _ c.kind.ensures.0 c.if-kind.true _ c.dependency.ensures
    (sym (c.known_equal.ensures 0 0 (paired-nothing _ refl)) ∙ c.if-known_equal.true) _ c.with_kind.ensures

pub returns-else-kind : goal.returns-else-kind
returns-else-kind c =
    elim c.else-kind.branch [
      | else-kind-via-then-kind+else-known_equal w ↦
          next-not _ _ _ _ _ _ c.kind.ensures.0 w.if-kind.true _ w.dependency.ensures
          (sym (w.known_equal.ensures 0 0 (paired-nothing _ refl)) ∙ w.if-known_equal.false)
      | else-kind-via-else-kind w ↦ next-other _ _ _ _ _ _ c.kind.ensures.0 w.if-kind.false
    ]
