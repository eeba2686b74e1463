-- `known::is_tag` meets its contract.
use mathlib.Core.Path.{ap, ◌∙◌}
use Prim.Native.Nat.{ℕ}
use native.Mathlib.Omega.{arith}
use lib.Dec.{eqb}
use Rattle.known.proofs.Answers.{tag-none, tag-past, tag_is}
use Rattle.known.proofs.is_tag.Goals as goal

pub returns-then-r-lt256 : goal.returns-then-r-lt256
returns-then-r-lt256 c = λ types. tag-none types c.args.tags.now c.args.beyond c.args.r c.args.t (omega arith)

pub returns-in-Some : goal.returns-in-Some
returns-in-Some c =
    let (inside, is) = c.in-Some.ensures.lookup.3 in
    λ types. ap (λ (n : ℕ). eqb n c.args.t) (is 0) ∙ tag_is types c.args.tags.now c.args.beyond c.args.r c.args.t (omega arith) inside

pub returns-in-None : goal.returns-in-None
returns-in-None c =
    λ types. tag-past types c.args.tags.now c.args.beyond c.args.r c.args.t (omega arith) c.in-None.ensures.lookup.3
