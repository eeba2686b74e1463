-- `verify::first_questions` meets its contract.
use mathlib.Core.Path.{sym, ◌∙◌}
use Rattle.table.proofs.Laws.{type-lengths-passed, code-lengths-passed}
use Rattle.verify.proofs.first_questions.Goals as goal

pub types-requires : goal.types-requires
types-requires c =
    let L = type-lengths-passed _ _ (sym c.type_lengths.ensures ∙ c.in_ok-type_lengths.was) in
    (L.most, L.tagged)

pub lengths-requires : goal.lengths-requires
lengths-requires c =
    let L = code-lengths-passed _ _ (sym c.code_lengths.ensures ∙ c.in_ok-code_lengths.was) in
    (L.most, L.long)

pub returns-clause-filled : goal.returns-clause-filled
returns-clause-filled c = c.lengths.ensures.filled c.told-starts
