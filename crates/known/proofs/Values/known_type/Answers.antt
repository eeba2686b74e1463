-- `known::Values::known_type` meets its contract.
use mathlib.Core.Path.{ap, ◌∙◌}
use native.Mathlib.Omega.{arith}
use Rattle.std.specs.Prelude.{Some}
use Rattle.known.proofs.Answers.{type-none, type-past, type-of-tag}
use Rattle.known.proofs.Values.known_type.Goals as goal

pub returns-then-r-lt256 : goal.returns-then-r-lt256
returns-then-r-lt256 c = λ types. type-none _ _ _ _ _ (c.stand-r.ensures 0 0) (omega arith)

pub returns-in-Some : goal.returns-in-Some
returns-in-Some c =
    let (inside, is) = c.in-Some.ensures.lookup.3 in
    λ types. ap Some (is 0) ∙ type-of-tag _ _ _ _ _ (c.stand-r.ensures 0 0) (omega arith) inside

pub returns-in-None : goal.returns-in-None
returns-in-None c = λ types. type-past _ _ _ _ _ (c.stand-r.ensures 0 0) (omega arith) c.in-None.ensures.lookup.3
