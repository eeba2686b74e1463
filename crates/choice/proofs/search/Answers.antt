-- `choice::search` meets its contract.
use mathlib.Core.Path.{refl}
use Prim.Native.Nat.{◌<◌}
use native.Mathlib.Omega.{arith}
use Rattle.model.specs.Table.{rows}
use Rattle.choice.proofs.Choosing.{block_of, left-ones, left-on, search-stops, search-ends}
use Rattle.choice.proofs.search.Goals as goal

pub loop-b-init : goal.loop-b-init
loop-b-init c = (λ P R. left-ones _ P _, refl)

pub returns-then-not-narrow : goal.returns-then-not-narrow
returns-then-not-narrow c =
    let r = c.args.routine.now in
    let h : c.loop-b.b < rows r.blocks.now = omega arith in
    λ P R.
    search-stops _ P _ (rows r.blocks.now) (λ j h x. (R.annotated j h x).count) _ _ c.loop-b.b _ h
    (rw c.block.ensures.0 at (c.narrow.ensures.1 P (block_of r c.loop-b.b h c.block.result c.block.ensures R))) c.if-not-narrow.true

pub loop-b-preserved : goal.loop-b-preserved
loop-b-preserved c =
    let r = c.args.routine.now in
    let h : c.loop-b.b < rows r.blocks.now = omega arith in (
      λ P R. left-on _ P _ _ _ c.loop-b.b _ (c.loop-b.invariant.0 P R)
          (rw c.block.ensures.0 at (c.narrow.ensures.1 P (block_of r c.loop-b.b h c.block.result c.block.ensures R))) c.if-not-narrow.false,
      c.narrow.ensures.0,
    )

pub returns : goal.returns
returns c =
    λ P R.
    search-ends _ P _ (rows c.args.routine.now.blocks.now) (λ j h x. (R.annotated j h x).count) _ c.loop-b.b _ (c.loop-b.invariant.0 P R) (omega arith)
    c.first_left.ensures
