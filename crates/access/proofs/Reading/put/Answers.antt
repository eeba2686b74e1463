-- `access::Reading::put` meets its contract: nothing was tested.
use mathlib.Core.Path.{refl}
use Rattle.known.proofs.Stands.{paired-nothing}
use Rattle.access.proofs.Reading.put.Goals as goal

pub returns : goal.returns
returns c = (refl, λ types. c.row_fits.ensures types 0 0 (paired-nothing _ refl))
