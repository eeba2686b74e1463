-- `verify::inside` meets its contract.
use mathlib.Core.Path.{◌≡◌, refl}
use Prim.Native.Nat.{◌+◌, ◌<◌}
use native.Mathlib.Omega.{arith}
use lib.ListN.{length}
use Rattle.access.specs.State.{placing}
use Rattle.verify.proofs.Blocks.{lent-small, inside-begins, few-more, inside_on, inside-stops, inside-ends}
use Rattle.verify.proofs.inside.Goals as goal

pub loop-j-init : goal.loop-j-init
loop-j-init c = rw c.requires (inside-begins _ _ _ c.args.block.now.some)

pub read_inside-requires : goal.read_inside-requires
read_inside-requires c =
    let r = c.args.routine.now in
    (r.opcodes, omega (arith, c.args.block.now.long), omega (arith, c.loop-j.invariant.few, c.args.block.now.long))

pub placed-requires : goal.placed-requires
placed-requires c = omega (arith, c.args.block.now.long)

pub returns-in-Err : goal.returns-in-Err
unfolding placing
returns-in-Err c =
    let s = c.read_inside.ensures in
    let h : c.loop-j.j + 1 < length c.args.block.now.code.now = omega arith in
    let few = few-more c.loop-j.invariant _ _ _ h (λ P b. (s P b).outcome) (λ P b. (s P b).count) (lent-small c.args.routine.now) in
    rw c.placed.ensures (record {
      reads = λ P B. inside-stops c.loop-j.invariant _ _ _ h (λ P b. (s P b).outcome) (λ P b. (s P b).count) P _ _ B _ (rw c.in-Err.is refl);
      few = omega (arith, few, h, c.args.block.now.long);
    })

pub loop-j-preserved : goal.loop-j-preserved
loop-j-preserved c =
    let s = c.read_inside.ensures in
    let h : c.loop-j.j + 1 < length c.args.block.now.code.now = omega arith in
    inside_on c.loop-j.invariant _ _ _ h (λ P b. (s P b).outcome) (λ P b. (s P b).count) (lent-small c.args.routine.now) c.in_default.is

pub returns : goal.returns
returns c =
    let l = c.loop-j.invariant in
    let e : c.loop-j.j + 1 ≡ length c.args.block.now.code.now = omega (arith, c.args.block.now.some) in
    record { reads = λ P B. inside-ends l e P _ _ B; few = omega (arith, l.few, c.args.block.now.long) }
