-- `reader::blank_read` meets its contract.
use Rattle.std.proofs.Common.{arith}
use Rattle.reader.specs.Reader.{kind}
use Rattle.grammar.proofs.Rows.{bound-most}
use Rattle.reader.proofs.Keeps.{past-gap}
use Rattle.reader.proofs.blank_read.Goals as goal

-- the number that ends is below the bound
pub take-requires : goal.take-requires
take-requires c =
    let l = c.args.l in
    let room = c.requires.0.number (past-gap l.phase c.requires.1 c.in_default.not-Gap) in
    (room.0, λ z. omega (arith, room.1, bound-most (kind l) l.left l.used z))
