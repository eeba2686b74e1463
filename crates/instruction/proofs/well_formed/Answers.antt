-- `instruction::well_formed` meets its contract: it asks what the row of the word's opcode says.
use native.Mathlib.Omega.{arith}
use Rattle.instruction.proofs.Rows.{no_row, set-bit, no-bit}
use Rattle.instruction.proofs.well_formed.Goals as goal

pub returns-then-op-ge-OPCODES : goal.returns-then-op-ge-OPCODES
returns-then-op-ge-OPCODES c = no_row _ c.before.args.rows.now (omega arith)

pub returns-then-set-ne0 : goal.returns-then-set-ne0
returns-then-set-ne0 c = let s = c.before.before.before in set-bit _ s.args.rows.now (omega arith) c.if-set-ne0.true

pub returns : goal.returns
returns c = let s = c.before.before.before.before in no-bit _ s.args.rows.now (omega arith) c.before.if-set-ne0.false
