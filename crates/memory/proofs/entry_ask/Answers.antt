-- `memory::entry_ask` meets its contract: the layout, the routine's tables, then every register.
use mathlib.Core.Path.{◌≡◌, refl, sym, ◌∙◌}
use lib.ListN.{length}
use native.Mathlib.Omega.{arith}
use Rattle.model.specs.MemoryCheck.{entry_ask}
use Rattle.model.proofs.Tests.{asked}
use Rattle.table.proofs.Laws.{own-eight}
use Rattle.layout.proofs.Passed.{layout-types}
use Rattle.memory.proofs.Checks.{layout-fields, layout-can-be-laid, layout-owned, routine-block, routine-legible}
use Rattle.memory.proofs.entry_ask.Goals as goal

pub routine_ask-requires : goal.routine_ask-requires
routine_ask-requires c = layout-types _ _ _ _ (sym c.layout.ensures ∙ c.in_ok-layout.was)

pub fill-requires : goal.fill-requires
fill-requires c = layout-can-be-laid _ _ _ _ (sym c.layout.ensures ∙ c.in_ok-layout.was)

pub invariant_of-meanings : goal.invariant_of-meanings
invariant_of-meanings c =
    let q = sym c.layout.ensures ∙ c.in_ok-layout.was in
    record { fields = layout-fields _ _ _ _ q; owned = layout-owned _ _ _ _ q 16384 _ refl c.empty-owners.ensures c.fill.ensures }

pub type_words-requires : goal.type_words-requires
type_words-requires c = omega (arith, routine-block _ _ _ (sym c.routine_ask.ensures ∙ c.in_ok-routine_ask.was))

pub registers_met-requires : goal.registers_met-requires
registers_met-requires c =
    let made = sym c.routine_ask.ensures ∙ c.in_ok-routine_ask.was in
    let eight = own-eight _ _ _ (omega (arith, routine-block _ _ _ made)) c.type_words.ensures in
    routine-legible _ _ _ made _ _ c.type_words.ensures eight (omega arith)

pub returns : goal.returns
unfolding entry_ask
returns c =
    let made = sym c.routine_ask.ensures ∙ c.in_ok-routine_ask.was in
    let eight : length c.type_words.result.now ≡ 8 = own-eight _ _ _ (omega (arith, routine-block _ _ _ made)) c.type_words.ensures in
    let met = rw (eight, c.type_words.ensures) at c.registers_met.ensures in
    grind (arith, asked)
