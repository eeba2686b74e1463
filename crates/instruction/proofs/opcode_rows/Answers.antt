-- `instruction::opcode_rows` meets its contract: the rows of the code are those of the definitions.
use mathlib.Core.Path.{refl}
use Rattle.model.specs.Uses.{use_rows}
use Rattle.instruction.proofs.opcode_rows.Goals as goal

pub returns : goal.returns
unfolding use_rows
returns c = refl
