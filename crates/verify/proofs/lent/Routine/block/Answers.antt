-- `verify::lent::Routine::block` meets its contract: the code from one start to the next.
use native.Mathlib.Omega.{arith}
use mathlib.Core.Path.{refl}
use Rattle.model.specs.Table.{code_of, rows}
use Rattle.verify.specs.declared.lent.Routine.{Routine}
use Rattle.verify.proofs.Blocks.{Placed, placed_at, part_is, part-bounds}
use Rattle.verify.proofs.lent.Routine.block.Goals as goal
use Prim.Native.Nat.{ℕ, ◌+◌, ◌<◌}
use lib.ListN.{get_or}

-- where the block is
placed : (r : Routine) (b : ℕ) → b < rows r.blocks.now
    → Placed (code_of r.blocks.now r.code.now) (get_or r.starts.now b 0) (get_or r.starts.now (b + 1) 0) b
placed r b h = placed_at (code_of r.blocks.now r.code.now) r.starts.now b r.tabled r.placed h

pub slice_bounds-result-count : goal.slice_bounds-result-count
slice_bounds-result-count c = omega (arith, placed c.args.self.now c.args.b c.requires)

pub slice_bounds-result-start : goal.slice_bounds-result-start
slice_bounds-result-start c = omega (arith, placed c.args.self.now c.args.b c.requires)

pub slice_bounds-result-end : goal.slice_bounds-result-end
slice_bounds-result-end c = omega (arith, placed c.args.self.now c.args.b c.requires)

pub invariant_of-result : goal.invariant_of-result
invariant_of-result c =
    let p = placed c.args.self.now c.args.b c.requires in
    record { some = rw (part_is p) (part-bounds p).0; long = rw (part_is p) (part-bounds p).1; near = omega (arith, p); counted = omega (arith, c.requires, c.args.self.now.tabled.most) }

pub returns : goal.returns
returns c = let p = placed c.args.self.now c.args.b c.requires in (refl, p.from, part_is p)
