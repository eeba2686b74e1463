-- `fits::Facts::row_fits` meets its contract.
use native.Mathlib.Omega.{arith}
use Rattle.table.proofs.Questions.{test-false, test-true, every-on, every-stops, every-end}
use Rattle.fits.proofs.Answers.{row_is}
use Rattle.fits.proofs.Facts.row_fits.Goals as goal

pub loop-k-init : goal.loop-k-init
loop-k-init c = λ types tested equal paired. row_is _ _ _ _ _

pub returns-then-not-field_fits : goal.returns-then-not-field_fits
returns-then-not-field_fits c =
    λ types tested equal paired. every-stops _ _ c.loop-k.k _ (c.loop-k.invariant types tested equal paired) (omega arith)
    (test-false (c.field_fits.ensures types tested equal paired) c.if-not-field_fits.true-raw)

pub loop-k-preserved : goal.loop-k-preserved
loop-k-preserved c =
    λ types tested equal paired. every-on _ _ c.loop-k.k _ (c.loop-k.invariant types tested equal paired) (omega arith)
    (test-true (c.field_fits.ensures types tested equal paired) c.if-not-field_fits.false-raw)

pub returns : goal.returns
returns c =
    λ types tested equal paired. every-end _ _ c.loop-k.k _ (c.loop-k.invariant types tested equal paired) (omega arith)
