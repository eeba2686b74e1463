-- The places from i on come to what all come to.
use lib.ListN.{length}
use Rattle.meaning.specs.Means.{tables}
use Rattle.meaning.specs.Search.{place_meets}
use Rattle.meaning.proofs.Search.{PlacesLeft}
use Rattle.meaning.proofs.Meanings.first_unmet.Given as goal

abbrev pub invariant-loop-i : goal.invariant-loop-i
invariant-loop-i l = PlacesLeft (place_meets (tables l.fn.self) l.fn.self.allocations.now l.fn.words l.fn.names) (length l.fn.words) l.i
