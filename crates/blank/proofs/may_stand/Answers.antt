-- `blank::may_stand` meets its contract.
use Rattle.model.specs.Question.{◌or◌}
use Rattle.blank.proofs.may_stand.Goals as goal

pub returns-then-annotation_well : goal.returns-then-annotation_well
unfolding ◌or◌
returns-then-annotation_well c = rw (← c.annotation_well.ensures, c.if-annotation_well.true)

pub returns-else-annotation_well : goal.returns-else-annotation_well
unfolding ◌or◌
returns-else-annotation_well c = rw (← c.annotation_well.ensures, c.if-annotation_well.false) c.is_blank.ensures
