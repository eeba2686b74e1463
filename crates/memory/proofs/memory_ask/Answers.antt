-- `memory::memory_ask` meets its contract: the layout, then every field of every record.
use mathlib.Core.Path.{refl, sym, ◌∙◌}
use Rattle.model.specs.MemoryCheck.{memory_ask}
use Rattle.model.proofs.Tests.{asked}
use native.Mathlib.Omega.{arith}
use Rattle.memory.proofs.Checks.{layout-fields, layout-can-be-laid, layout-owned}
use Rattle.memory.proofs.memory_ask.Goals as goal

pub fill-requires : goal.fill-requires
fill-requires c = layout-can-be-laid _ _ _ _ (sym c.layout.ensures ∙ c.in_ok-layout.was)

pub invariant_of-meanings : goal.invariant_of-meanings
invariant_of-meanings c =
    let q = sym c.layout.ensures ∙ c.in_ok-layout.was in
    record { fields = layout-fields _ _ _ _ q; owned = layout-owned _ _ _ _ q 16384 _ refl c.empty-owners.ensures c.fill.ensures }

pub records-requires : goal.records-requires
records-requires c = sym c.layout.ensures ∙ c.in_ok-layout.was

pub returns : goal.returns
unfolding memory_ask
returns c = grind (arith, asked)
