-- `access::Reading::access` meets its contract.
use mathlib.Core.Path.{refl, sym, ap, ◌∙◌}
use Prim.Native.Nat.{ℕ, ◌+◌}
use Rattle.access.proofs.Outcomes.{none_more}
use Rattle.access.proofs.Fields.{Parts, access-nothing, nothing-asked, access-on, access-asked}
use Rattle.access.proofs.Reading.access.Goals.{After-c-c}
use Rattle.access.proofs.Reading.access.Goals as goal

-- the word's parts, read
parts : (c : After-c-c) → Parts c.args.word c.a-a.result c.b-b.result c.c-c.result
parts c = record { a-is = c.a-a.ensures.0; b-is = c.b-b.ensures.0; c-is = c.c-c.ensures.0 }

pub returns-in_default : goal.returns-in_default
returns-in_default c =
    let p = parts (goal.at.returns-in_default c).After-c-c in
    let told = sym c.in_default.is ∙ c.reference.ensures _ in
    record {
      outcome = λ place. access-nothing p c.requires.0 _ _ _ _ told _;
      count = none_more refl (nothing-asked p c.requires.0 _ _ told);
    }

pub returns : goal.returns
returns c =
    let p = parts (goal.at.returns c).After-c-c in
    let told = sym c.in-Some.is ∙ c.reference.ensures _ in
    let r = c.touch.ensures in
    record {
      outcome = λ place. r.outcome place ∙ access-on p c.requires.0 _ _ _ _ _ told _ c.opcode.ensures.0;
      count = r.count ∙ ap (λ (k : ℕ). c.args.self.now.asked + k) (access-asked p c.requires.0 _ _ _ told _ c.opcode.ensures.0);
    }
