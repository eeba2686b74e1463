-- `fits::Facts::field_fits` meets its contract.
use Rattle.fits.proofs.Answers.{place_is}
use Rattle.fits.proofs.Facts.field_fits.Goals as goal

pub returns : goal.returns
returns c = λ types tested equal paired. place_is _ _ _ _ _ _ (c.value_fits.ensures types tested equal paired)
