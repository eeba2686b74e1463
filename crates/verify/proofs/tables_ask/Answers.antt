-- `verify::tables_ask` meets its contract: Q1 to Q5, then Q6.
use mathlib.Core.Path.{sym, ◌∙◌}
use native.Mathlib.Omega.{arith}
use Rattle.model.specs.Table.{code_of}
use Rattle.verify.proofs.Blocks.{tabled, tables-refused, tables-last}
use Rattle.verify.proofs.tables_ask.Goals as goal

pub returns-in_err-first_questions-clause-outcome : goal.returns-in_err-first_questions-clause-outcome
returns-in_err-first_questions-clause-outcome c =
    let no = tables-refused c.args.types.now c.args.tags.now (code_of c.args.blocks.now c.args.code.now)
    (sym c.first_questions.ensures.outcome ∙ c.in_err-first_questions.was) in
    grind arith

pub overflow_cast-rows : goal.overflow_cast-rows
overflow_cast-rows c =
    omega (arith, c.rows.ensures, (tabled _ c.args.tags.now (code_of c.args.blocks.now c.args.code.now) (sym c.first_questions.ensures.outcome ∙ c.in_ok-first_questions.was)).typed)

pub annotations-requires : goal.annotations-requires
annotations-requires c =
    (tabled c.args.types.now c.args.tags.now (code_of c.args.blocks.now c.args.code.now) (sym c.first_questions.ensures.outcome ∙ c.in_ok-first_questions.was)).most

pub returns-clause-outcome : goal.returns-clause-outcome
returns-clause-outcome c =
    rw c.rows.ensures at c.annotations.ensures ∙ sym (tables-last _ _ _ (sym c.first_questions.ensures.outcome ∙ c.in_ok-first_questions.was))

pub returns-clause-tabled : goal.returns-clause-tabled
returns-clause-tabled c = λ _. tabled _ _ _ (sym c.first_questions.ensures.outcome ∙ c.in_ok-first_questions.was)

pub returns-clause-filled : goal.returns-clause-filled
returns-clause-filled c = λ _. c.first_questions.ensures.filled c.in_ok-first_questions.was
