-- `straight::read_inside` meets its contract: Q7 and Q8, then the instruction.
use mathlib.Core.Path.{◌≡◌, refl, sym, ap, ◌∙◌}
use native.Mathlib.Omega.{arith}
use Prim.Native.Nat.{ℕ, ◌+◌}
use Rattle.model.specs.Question.{refused}
use Rattle.instruction.specs.Form.{Inside}
use Rattle.instruction.proofs.Laws.{inside-word}
use Rattle.access.proofs.Outcomes.{none_more}
use Rattle.straight.proofs.Inside.{inside-refuses, inside-reads, form-unasked, inside-asked}
use Rattle.straight.proofs.read_inside.Goals.{In_ok-form}
use Rattle.straight.proofs.read_inside.Goals as goal

word-inside : (c : In_ok-form) → Inside 1 c.args.word
word-inside c = inside-word _ _ _ (sym c.in_ok-form.was ∙ c.form.ensures)

pub returns-in_err-form : goal.returns-in_err-form
returns-in_err-form c =
    let no = c.in_err-form.field-0.0 in
    let same : c.from_residual.result ≡ refused no = grind arith in
    let f = sym c.in_err-form.was ∙ c.form.ensures in
    λ P b. rw same (record {
      outcome = λ place. inside-refuses _ P place b _ _ _ no _ _ f _;
      count = none_more refl (form-unasked _ P b _ _ no _ _ f);
    })

pub step-requires : goal.step-requires
step-requires c =
    let (rows, g, asked) = c.requires in
    (word-inside (goal.at.step-requires c).In_ok-form, g, asked)

pub returns : goal.returns
returns c =
    let f = word-inside (goal.at.returns c).In_ok-form in
    let r = c.step.ensures in
    λ P b. record {
      outcome = λ place. r.outcome place ∙ inside-reads _ _ _ _ _ _ _ f;
      count = r.count ∙ ap (λ (k : ℕ). c.args.reading.now.asked + k) (inside-asked _ P b _ _ f);
    }
