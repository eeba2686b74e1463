-- `verify::judge` meets its contract.
use mathlib.Core.Path.{◌∙◌}
use Prim.Native.Nat.{◌<◌}
use native.Mathlib.Omega.{arith}
use Rattle.model.specs.Question.{verdict_of}
use Rattle.model.specs.Table.{code_of, Routine, rows}
use Rattle.verify.specs.Blocks.{Divided}
use Rattle.verify.proofs.Blocks.{judge-begins, judge-on, judge-stops, judge-ends, asked_is, block_at, blocks_few, in_force_of, force-annotated, force-divided}
use Rattle.verify.proofs.judge.Goals as goal

pub loop-b-init : goal.loop-b-init
loop-b-init c = (λ P A D. judge-begins _ P _ A.count, omega arith)

pub block-v-requires : goal.block-v-requires
block-v-requires c = let most = c.args.routine.now.tabled.most in let e = c.block.ensures.0 in (omega arith, omega (arith, c.loop-b.invariant.1))

pub returns-then-v-ne-PASSED : goal.returns-then-v-ne-PASSED
returns-then-v-ne-PASSED c =
    let r = c.args.routine.now in
    let h : c.loop-b.b < rows r.blocks.now = omega arith in
    let C = code_of r.blocks.now r.code.now in
    let here = λ (P : Routine) (D : Divided P C). block_at C r.starts.now c.loop-b.b r.tabled r.placed h c.block.result c.block.ensures P D in
    λ P A D. judge-stops (c.loop-b.invariant.0 P A D) h _ (rw c.block.ensures.0 at (c.block-v.ensures P A (here P D))) c.if-v-ne-PASSED.true

pub loop-b-preserved : goal.loop-b-preserved
loop-b-preserved c =
    let r = c.args.routine.now in
    let C = code_of r.blocks.now r.code.now in
    let h : c.loop-b.b < rows r.blocks.now = omega arith in
    let here = λ (P : Routine) (D : Divided P C). block_at C r.starts.now c.loop-b.b r.tabled r.placed h c.block.result c.block.ensures P D in
    let P₀ = in_force_of C c.args.offered.now c.args.filling in
    let A₀ = force-annotated C c.args.offered.now c.args.filling in
    let D₀ = force-divided C c.args.offered.now c.args.filling in
    let more = asked_is (c.loop-b.invariant.0 P₀ A₀ D₀) h _ (rw c.block.ensures.0 at (c.block-v.ensures P₀ A₀ (here P₀ D₀))) in (
      λ P A D. judge-on (c.loop-b.invariant.0 P A D) h _ (rw c.block.ensures.0 at (c.block-v.ensures P A (here P D))) c.if-v-ne-PASSED.false,
      omega (arith, more, blocks_few r P₀ c.loop-b.b h D₀, c.loop-b.invariant.1),
    )

pub returns : goal.returns
unfolding verdict_of
returns c = λ P A D. c.counting.ensures ∙ judge-ends (c.loop-b.invariant.0 P A D) (omega arith)
