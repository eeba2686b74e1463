-- `straight::step` meets its contract.
use native.Mathlib.Omega.{arith}
use Rattle.straight.proofs.step.Goals as goal

pub access-requires : goal.access-requires
access-requires c =
    let (f, g, asked) = c.requires in
    (record { well = f.well; from = omega arith; to = f.to; a_exists = f.a_exists; b_exists = f.b_exists }, g, asked)
