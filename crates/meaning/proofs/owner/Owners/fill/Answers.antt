-- `meaning::owner::Owners::fill` meets its contract, row by row.
use Prim.Native.Nat.{◌-◌}
use native.Mathlib.Omega.{arith}
use Rattle.layout.proofs.Layouts.{RowAt}
use Rattle.meaning.proofs.Owners.{laid_none, laid-row}
use Rattle.meaning.proofs.owner.Owners.fill.Goals as goal

pub loop-k-init : goal.loop-k-init
loop-k-init c = laid_none _ _ _ c.requires.even

pub loop-k-preserved : goal.loop-k-preserved
loop-k-preserved c =
    let R : RowAt c.args.allocations.now (c.loop-k.k - 1) c.start-p.result c.record_type-t.result =
    record { whole = omega arith; start = c.start-p.ensures; typed = c.record_type-t.ensures } in
    rw c.self.view_is (laid-row c.loop-k.invariant R (omega arith) _ _ c.head-n.ensures c.entry-own.ensures)
