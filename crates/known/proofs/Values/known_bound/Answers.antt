-- `known::Values::known_bound` meets its contract.
use native.Mathlib.Omega.{arith}
use Rattle.known.proofs.Answers.{equal-one, equal-constants}
use Rattle.known.proofs.Values.known_bound.Goals as goal

pub returns-then-x-y : goal.returns-then-x-y
returns-then-x-y c = λ tested equal paired. equal-one _ _ _ _ _ (omega arith)

pub returns-then-c-own_constant : goal.returns-then-c-own_constant
returns-then-c-own_constant c =
    λ tested equal paired.
    let (kx, rx) = c.own_constant-c.ensures tested equal in
    let (ky, ry) = c.own_constant.ensures tested equal in
    equal-constants _ _ _ _ _ _ _ kx (rx (omega arith)) ky (ry (omega arith)) (omega arith) (omega arith)
