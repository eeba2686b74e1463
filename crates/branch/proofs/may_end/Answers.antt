-- `branch::may_end` meets its contract: Q7 to Q9, then Q13.
use mathlib.Core.Path.{◌≡◌, sym, ◌∙◌}
use native.Mathlib.Omega.{arith}
use Rattle.model.specs.Question.{refused}
use Rattle.instruction.specs.Form.{Ending}
use Rattle.instruction.proofs.Laws.{ending-word}
use Rattle.branch.proofs.Ends.{end-form, end-open, end-shut}
use Rattle.branch.proofs.may_end.Goals.{In_ok-form}
use Rattle.branch.proofs.may_end.Goals as goal

word-ends : (c : In_ok-form) → Ending c.args.b c.args.count c.args.word
word-ends c = ending-word _ _ _ (sym c.in_ok-form.was ∙ c.form.ensures)

pub returns-in_err-form : goal.returns-in_err-form
returns-in_err-form c =
    let no = c.in_err-form.field-0.0 in
    let same : c.from_residual.result ≡ refused no = grind arith in
    rw same (end-form _ _ _ _ no (sym c.in_err-form.was ∙ c.form.ensures))

pub returns-then-base-lt-NO_BASE : goal.returns-then-base-lt-NO_BASE
returns-then-base-lt-NO_BASE c = end-open _ _ _ _ (word-ends (goal.at.returns-then-base-lt-NO_BASE c).In_ok-form) (omega arith)

pub returns : goal.returns
returns c = end-shut _ _ _ _ (word-ends (goal.at.returns c).In_ok-form) (omega arith)
