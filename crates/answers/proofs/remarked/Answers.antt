-- `remarked` meets its contract.
use Rattle.answers.proofs.Replies.{remarked, unremarked}
use Rattle.answers.proofs.remarked.Goals as goal

pub returns-then-worded : goal.returns-then-worded
returns-then-worded c =
    remarked c.args.worded c.args.g c.args.out.now _ _ c.if-worded.true c.explain.ensures c.tallied.ensures.text c.tallied.ensures.room

pub returns-else-worded : goal.returns-else-worded
returns-else-worded c = unremarked c.args.worded c.args.g c.args.out.now c.if-worded.false
