-- `memory::routine_ask` meets its contract.
use mathlib.Core.Path.{sym, ◌∙◌}
use native.Mathlib.Omega.{arith}
use Rattle.table.proofs.Laws.{code-lengths-passed}
use Rattle.memory.proofs.routine_ask.Goals as goal

pub lengths-requires : goal.lengths-requires
lengths-requires c =
    let L = code-lengths-passed _ _ (sym c.code_lengths.ensures ∙ c.in_ok-code_lengths.was) in
    (L.most, L.long)

pub annotations-requires : goal.annotations-requires
annotations-requires c = (code-lengths-passed _ _ (sym c.code_lengths.ensures ∙ c.in_ok-code_lengths.was)).most
