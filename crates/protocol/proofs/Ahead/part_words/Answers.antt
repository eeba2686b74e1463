-- `protocol::Ahead::part_words` meets its contract.
use Rattle.std.proofs.Common.{arith}
use Rattle.numeral.proofs.Scans.{found}
use Rattle.protocol.proofs.Words.{in-words, reached-none, reached-more, reached-goes, onwards}
use Rattle.protocol.proofs.Ahead.part_words.Goals as goal

pub loop-left-init : goal.loop-left-init
loop-left-init c = reached-none _ _ _ _ c.requires.0 (in-words _ c.requires.1).0 c.requires.2

-- a number that was found lies in the bytes and is a word
pub overflow_cast-pools : goal.overflow_cast-pools
overflow_cast-pools c = omega (arith, found _ _ _ _ c.loop-left.invariant.within (onwards _ c.args.bytes.now c.loop-left.at c.in-Some.ensures))

pub overflow_add-at : goal.overflow_add-at
overflow_add-at c = omega (arith, found _ _ _ _ c.loop-left.invariant.within (onwards _ c.args.bytes.now c.loop-left.at c.in-Some.ensures))

pub loop-left-preserved : goal.loop-left-preserved
loop-left-preserved c = reached-more _ _ _ _ _ _ _ _ c.loop-left.invariant _ _ (omega arith) (omega arith) (onwards _ c.args.bytes.now c.loop-left.at c.in-Some.ensures)

pub returns : goal.returns
returns c = reached-goes _ _ _ _ _ _ _ _ c.loop-left.invariant _ _ c.requires.0 (omega (arith, in-words _ c.requires.1)) c.gone.ensures
