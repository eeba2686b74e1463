-- `protocol::piece` meets its contract. The invariant: what is left of the bytes comes to what all of them come to.
use Rattle.std.proofs.Common.{◌-◌, length}
use Rattle.reader.specs.Reader.{reader}
use Rattle.protocol.specs.Ahead.{Goes}
use Rattle.protocol.proofs.piece.Given as goal

abbrev pub invariant-loop-ahead : goal.invariant-loop-ahead
invariant-loop-ahead l = Goes l.bytes (reader l.initial.ahead.line l.initial.pools) (reader l.ahead.line l.pools) 0 l.ahead.at

abbrev pub decreases-loop-ahead : goal.decreases-loop-ahead
decreases-loop-ahead l = length l.bytes - l.ahead.at
