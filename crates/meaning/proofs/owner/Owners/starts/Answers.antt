-- `meaning::owner::Owners::starts` meets its contract: the part above of the entry.
use mathlib.Core.Path.{ap}
use Prim.Native.Nat.{ℕ, ◌+◌, ◌/◌}
use lib.Dec.{eqb}
use Rattle.meaning.specs.Owners.{starts_at}
use Rattle.meaning.proofs.owner.Owners.starts.Goals as goal

pub returns : goal.returns
unfolding starts_at
returns c = ap (λ (o : ℕ). eqb (o / 65536) (c.args.t + 1)) c.owner.ensures
