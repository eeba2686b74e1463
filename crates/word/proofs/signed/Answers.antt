-- `word::signed` meets its contract.
use Rattle.word.proofs.Signs.{signed-fits, signed_is}
use Rattle.word.proofs.signed.Goals as goal

pub overflow_sub-result : goal.overflow_sub-result
overflow_sub-result c = signed-fits c.args.c c.requires

pub returns : goal.returns
returns c = signed_is c.args.c c.requires
