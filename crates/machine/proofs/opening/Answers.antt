-- `machine::opening` meets its contract.
use mathlib.Core.Path.{sym, ◌∙◌}
use Rattle.table.proofs.Laws.{code-lengths-passed, start-passed}
use Rattle.machine.proofs.opening.Goals as goal

pub lengths-requires : goal.lengths-requires
lengths-requires c =
    let L = code-lengths-passed _ _ (sym c.code_lengths.ensures ∙ c.in_ok-code_lengths.was) in
    (L.most, L.long)

pub returns-clause-opened : goal.returns-clause-opened
returns-clause-opened c =
    let L = code-lengths-passed _ _ (sym c.code_lengths.ensures ∙ c.in_ok-code_lengths.was) in
    λ _. record {
      lengths = sym c.lengths.ensures.outcome ∙ c.in_ok-lengths.was;
      few = L.most;
      short = L.long;
      exists = start-passed _ _ (sym c.start_block.ensures ∙ c.in_ok-start_block.was);
      filled = c.lengths.ensures.filled c.told-starts c.in_ok-lengths.was;
    }
