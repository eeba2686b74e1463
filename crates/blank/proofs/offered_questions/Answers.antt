-- `blank::offered_questions` meets its contract.
use mathlib.Core.Path.{sym, ◌∙◌}
use native.Mathlib.Omega.{arith}
use Rattle.model.proofs.Tests.{asked}
use Rattle.blank.proofs.Laws.{lengths-well, four-blank, three-blank}
use Rattle.blank.proofs.offered_questions.Goals as goal

pub returns-in-Some : goal.returns-in-Some
returns-in-Some c = λ blocks most e. rw c.at.ensures (four-blank _ blocks _ _ (sym c.in-Some.is ∙ e))

pub returns-in_err-offered_length : goal.returns-in_err-offered_length
returns-in_err-offered_length c = λ blocks most e. let left = three-blank c.args.count blocks c.args.offered.now (sym c.in_default.is ∙ e) in grind (arith, asked)

pub offered_rows-requires : goal.offered_rows-requires
offered_rows-requires c = (lengths-well _ (sym c.offered_length.ensures ∙ c.in_ok-offered_length.was)).1

pub returns : goal.returns
returns c = λ blocks most e. let left = three-blank c.args.count blocks c.args.offered.now (sym c.in_default.is ∙ e) in grind (arith, asked)
