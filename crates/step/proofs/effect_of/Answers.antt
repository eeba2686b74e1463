-- `step::effect_of` meets its contract: a law for each return.
use mathlib.Core.Path.{refl, sym, ◌∙◌}
use native.Mathlib.Omega.{arith}
use Rattle.std.proofs.lemmas.Result.{err_from_is_err_and}
use Rattle.instruction.specs.Form.{Inside}
use Rattle.instruction.proofs.Laws.{inside-word}
use Rattle.step.proofs.Instructions.{fewer, divisor, refuses, loads, stores, divides, values}
use Rattle.step.proofs.effect_of.Goals as goal
use Rattle.step.proofs.effect_of.Goals.{In_ok-form}

inside : (c : In_ok-form) → Inside 1 c.args.w
inside c = inside-word _ _ _ (sym c.in_ok-form.was ∙ c.form.ensures)

pub returns-in_err-form-clause-does : goal.returns-in_err-form-clause-does
returns-in_err-form-clause-does c =
    let p = err_from_is_err_and c.from_residual.result c.from_residual.ensures.1 in
    λ P b j f n m d. rw (p.1, p.2) (refuses P b j f n _ m d _ _ (sym c.in_err-form.was ∙ c.form.ensures))

pub bounds-registers-b : goal.bounds-registers-b
bounds-registers-b c = omega (arith, (inside (goal.at.bounds-registers-b c).In_ok-form).b_exists)

pub bounds-registers-a : goal.bounds-registers-a
bounds-registers-a c = omega (arith, (inside (goal.at.bounds-registers-a c).In_ok-form).a_exists)

pub quotient-v-requires : goal.quotient-v-requires
quotient-v-requires c =
    omega (arith, divisor _ (inside (goal.at.quotient-v-requires c).In_ok-form) (sym c.opcode.ensures.0 ∙ c.in-6.is), c.c-c.ensures.0)

pub returns-in-8-clause-does : goal.returns-in-8-clause-does
returns-in-8-clause-does c =
    let k = inside (goal.at.returns-in-8-clause-does c).In_ok-form in
    λ P b j f n m d.
    loads P b j f n _ m d _ k _ c.a-a.ensures.0 _ c.c-c.ensures.0 _ _ c.b.ensures.0 refl (sym c.opcode.ensures.0 ∙ c.in-8.is) _ c.address-at.ensures

pub returns-in-8-clause-place : goal.returns-in-8-clause-place
returns-in-8-clause-place c = omega (arith, (inside (goal.at.returns-in-8-clause-place c).In_ok-form).a_exists)

pub returns-in-9-clause-does : goal.returns-in-9-clause-does
returns-in-9-clause-does c =
    let k = inside (goal.at.returns-in-9-clause-does c).In_ok-form in
    λ P b j f n m d.
    stores P b j f n _ m d _ k _ c.a-a.ensures.0 _ c.c-c.ensures.0 _ _ c.b.ensures.0 refl (sym c.opcode.ensures.0 ∙ c.in-9.is) _ c.address-at.ensures

pub returns-in-9-clause-place : goal.returns-in-9-clause-place
returns-in-9-clause-place c = omega (arith, (inside (goal.at.returns-in-9-clause-place c).In_ok-form).a_exists)

pub returns-in-6-clause-does : goal.returns-in-6-clause-does
returns-in-6-clause-does c =
    let k = inside (goal.at.returns-in-6-clause-does c).In_ok-form in
    λ P b j f n m d.
    divides P b j f n _ m d _ k _ c.a-a.ensures.0 _ c.c-c.ensures.0 _ _ c.b.ensures.0 refl (sym c.opcode.ensures.0 ∙ c.in-6.is) _ c.quotient-v.ensures

pub returns-in-6-clause-place : goal.returns-in-6-clause-place
returns-in-6-clause-place c = omega (arith, (inside (goal.at.returns-in-6-clause-place c).In_ok-form).a_exists)

pub returns-in_default-clause-does : goal.returns-in_default-clause-does
returns-in_default-clause-does c =
    let k = inside (goal.at.returns-in_default-clause-does c).In_ok-form in
    let o = c.opcode.ensures.0 in
    let few = fewer _ k (λ e. omega (arith, o, e)) (λ e. omega (arith, o, e)) in
    λ P b j f n m d.
    values P b j f n _ m d _ k _ c.a-a.ensures.0 _ c.c-c.ensures.0 _ _ c.b.ensures.0 refl _ refl few (λ e. omega (arith, o, e)) _ _ o c.value-v.ensures

pub returns-in_default-clause-place : goal.returns-in_default-clause-place
returns-in_default-clause-place c = omega (arith, (inside (goal.at.returns-in_default-clause-place c).In_ok-form).a_exists)
