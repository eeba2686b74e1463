-- `step::leave` meets its contract: a law for each return.
use mathlib.Core.Path.{◌≡◌, sym, ◌∙◌}
use Prim.Native.Nat.{◌<◌}
use native.Mathlib.Omega.{arith}
use Rattle.std.proofs.lemmas.Result.{err_from_is_err_and}
use Rattle.model.specs.Word.{opcode_of}
use Rattle.instruction.specs.Form.{Ending}
use Rattle.instruction.proofs.Laws.{ending-word}
use Rattle.step.proofs.Instructions.{refuses-last, halts-here, jumps_to, if-equal, if-less}
use Rattle.step.proofs.leave.Goals as goal
use Rattle.step.proofs.leave.Goals.{In_ok-form}

ending : (c : In_ok-form) → Ending c.args.b c.args.count c.args.w
ending c = ending-word _ _ _ (sym c.in_ok-form.was ∙ c.form.ensures)

pub returns-in_err-form : goal.returns-in_err-form
returns-in_err-form c =
    let p = err_from_is_err_and c.from_residual.result c.from_residual.ensures.1 in
    λ P j f n m ec d. rw (p.1, p.2) (refuses-last P _ j f n _ m _ _ ec d _ (sym c.in_err-form.was ∙ c.form.ensures))

pub bounds-registers-a : goal.bounds-registers-a
bounds-registers-a c = omega (arith, (ending (goal.at.bounds-registers-a c).In_ok-form).a_exists)

pub bounds-registers-a-in_default : goal.bounds-registers-a-in_default
bounds-registers-a-in_default c = omega (arith, (ending (goal.at.bounds-registers-a-in_default c).In_ok-form).a_exists)

pub bounds-registers-b : goal.bounds-registers-b
bounds-registers-b c = omega (arith, (ending (goal.at.bounds-registers-b c).In_ok-form).b_exists)

pub returns-in-0 : goal.returns-in-0
returns-in-0 c =
    let k = ending (goal.at.returns-in-0 c).In_ok-form in
    λ P j f n m ec d. halts-here P _ j f n _ m _ _ ec d k (sym c.opcode.ensures.0 ∙ c.in-0.is)

pub returns-in-10 : goal.returns-in-10
returns-in-10 c =
    let k = ending (goal.at.returns-in-10 c).In_ok-form in
    λ P j f n m ec d. jumps_to P _ j f n _ m _ _ ec d k _ c.c-c.ensures.0 (sym c.opcode.ensures.0 ∙ c.in-10.is)

pub returns-in-11 : goal.returns-in-11
returns-in-11 c =
    let k = ending (goal.at.returns-in-11 c).In_ok-form in
    λ P j f n m ec d. if-equal P _ j f n _ m _ _ ec d k _ c.c-c.ensures.0 _ _ c.a.ensures.0 (sym c.opcode.ensures.0 ∙ c.in-11.is) c.fork.ensures

pub returns-in_default : goal.returns-in_default
returns-in_default c =
    let k = ending (goal.at.returns-in_default c).In_ok-form in
    let o = c.opcode.ensures.0 in
    let some : 0 < opcode_of c.args.w = omega (arith, o) in
    let twelve : opcode_of c.args.w ≡ 12 = omega (arith, o, k.known, k.ends some) in
    λ P j f n m ec d.
    if-less P _ j f n _ m _ _ ec d k _ c.c-c.ensures.0 _ _ c.a-in_default.ensures.0 twelve _ c.b.ensures.0 c.fork-in_default.ensures
