-- `verify::check` meets its contract: the questions of the tables, then all blocks, none of them filled.
use mathlib.Core.Path.{sym, ◌∙◌}
use Rattle.model.specs.Question.{verdict_of}
use Rattle.model.specs.Table.{code_of, routine_of}
use Rattle.verify.proofs.Blocks.{check-refused, check-judges, own-annotated, own-divided}
use Rattle.verify.proofs.check.Goals as goal

pub returns-in-Err : goal.returns-in-Err
unfolding verdict_of
returns-in-Err c = c.counting.ensures ∙ check-refused _ _ _ (sym c.tables_ask.ensures.outcome ∙ c.in-Err.is)

pub invariant_of-routine : goal.invariant_of-routine
invariant_of-routine c =
    record {
      opcodes = c.opcode_rows-rows.ensures;
      tabled = c.tables_ask.ensures.tabled c.in_default.is;
      placed = c.tables_ask.ensures.filled c.in_default.is;
    }

pub returns : goal.returns
returns c =
    let C = code_of c.args.blocks.now c.args.code.now in
    let T = c.tables_ask.ensures.tabled c.in_default.is in
    c.judge.ensures (routine_of C) (rw c.unfilled.ensures (own-annotated C _ T.most)) (own-divided C)
    ∙ check-judges _ _ _ (sym c.tables_ask.ensures.outcome ∙ c.in_default.is)
