-- `verify::block_end` meets its contract: Q7 to Q9 and Q13, then the edges to the rows of the target and of the next block.
use mathlib.Core.Path.{sym, ◌∙◌}
use Prim.Native.Nat.{◌*◌, ◌+◌, ◌≤◌}
use native.Mathlib.Omega.{arith}
use lib.ListN.{length}
use Rattle.model.specs.Table.{Routine}
use Rattle.verify.specs.Blocks.{Annotated}
use Rattle.blank.proofs.Laws.{force-length}
use Rattle.branch.proofs.Ends.{end-word, end-refuses, end-unasked, end_reads, end-asked}
use Rattle.verify.proofs.Blocks.{target_row, leads}
use Rattle.verify.proofs.block_end.Goals as goal

pub returns-in-Err : goal.returns-in-Err
returns-in-Err c =
    let m = sym c.in-Err.is ∙ c.may_end.ensures in (
      λ P A place g. end-refuses _ _ _ _ _ _ _ _ A.count _ m,
      λ P A. end-unasked _ _ _ _ _ _ A.count _ m,
    )

pub in_force-taken-requires : goal.in_force-taken-requires
in_force-taken-requires c =
    let e = end-word _ _ _ _ (sym c.in_default.is ∙ c.may_end.ensures) in
    target_row _ _ _ e.exist c.requires _ (c.target.ensures e.well e.ends)

pub in_force-untaken-requires : goal.in_force-untaken-requires
in_force-untaken-requires c = omega (arith, c.min.ensures)

pub edges-requires : goal.edges-requires
edges-requires c =
    let e = end-word _ _ _ _ (sym c.in_default.is ∙ c.may_end.ensures) in
    let a = c.args.annotations.now in
    let taken : c.target.result * 9 + 9 ≤ length a.blocks.now = target_row _ _ _ e.exist c.requires _ (c.target.ensures e.well e.ends) in
    let untaken : c.min.result * 9 + 9 ≤ length a.blocks.now = omega (arith, c.min.ensures) in (
      e.well,
      e.ends,
      omega (arith, force-length _ _ _ _ taken a.most a.fits _ c.in_force-taken.ensures),
      omega (arith, force-length _ _ _ _ untaken a.most a.fits _ c.in_force-untaken.ensures),
    )

pub returns : goal.returns
returns c =
    let m = sym c.in_default.is ∙ c.may_end.ensures in
    let e = end-word _ _ _ _ m in
    let t = c.args.routine.now.types.now in
    let a = c.args.annotations.now in
    let leading = λ (P : Routine) (A : Annotated P a.blocks.now a.offered.now a.filling).
    leads _ _ _ e.exist P _ _ A c.requires _ _ (c.target.ensures e.well e.ends) (λ h. omega (arith, c.min.ensures)) _ _
    c.in_force-taken.ensures c.in_force-untaken.ensures in (
      λ P A place g.
          end_reads _ _ _ _ _ _ _ _ A.count m _ (c.edges.ensures.0 _ _ (leading P A) place t),
      λ P A.
          c.edges.ensures.1 _ _ (leading P A) t ∙ end-asked _ _ _ _ _ _ A.count m,
    )
