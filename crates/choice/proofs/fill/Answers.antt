-- `choice::fill` meets its contract: a refused routine's table stays, an accepted one's has the chosen rows laid one after another.
use mathlib.Core.Path.{◌≡◌, ◌∙◌}
use native.Mathlib.Omega.{arith}
use Rattle.model.specs.Table.{code_of}
use Rattle.choice.proofs.Laying.{accepted-most, fillable, left-as-is, filled_is, laid-none, laid-more, may-lay, all_laid}
use Rattle.choice.proofs.fill.Goals as goal

pub returns-then-a-ne-PASSED : goal.returns-then-a-ne-PASSED
returns-then-a-ne-PASSED c = record { answer = c.check_offered-a.ensures; filled = left-as-is _ _ c.check_offered-a.result c.if-a-ne-PASSED.true }

pub blank_blocks-blanks-requires : goal.blank_blocks-blanks-requires
blank_blocks-blanks-requires c = accepted-most _ _ (code_of _ c.args.code.now) _ _ c.check_offered-a.ensures c.if-a-ne-PASSED.false

pub loop-k-init : goal.loop-k-init
loop-k-init c = laid-none _ _ _ _

pub lay-requires : goal.lay-requires
lay-requires c =
    let L = c.blank_blocks-blanks.ensures in
    let F = fillable _ _ (code_of _ c.args.code.now) _ _ c.check_offered-a.ensures c.if-a-ne-PASSED.false _ L in
    λ h. let (p, q) = may-lay _ _ _ _ L F _ c.loop-k-test.true h in (omega (arith, p), q)

pub loop-k-preserved : goal.loop-k-preserved
loop-k-preserved c = laid-more _ _ _ _ _ c.loop-k.invariant c.lay.ensures.laid

pub returns : goal.returns
returns c =
    let L = c.blank_blocks-blanks.ensures in
    let F = fillable _ _ (code_of _ c.args.code.now) _ _ c.check_offered-a.ensures c.if-a-ne-PASSED.false _ L in
    let three : c.loop-k.k ≡ 3 = omega arith in
    record {
      answer = c.check_offered-a.ensures;
      filled = filled_is _ _ c.check_offered-a.result c.if-a-ne-PASSED.false _ (rw three at c.loop-k.invariant ∙ all_laid _ _ _ _ L F);
    }
