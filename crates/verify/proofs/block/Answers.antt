-- `verify::block` meets its contract: the instructions before the last, then the last.
use mathlib.Core.Path.{◌∙◌}
use mathlib.Core.List.{[]}
use Prim.Native.Nat.{◌≤◌}
use native.Mathlib.Omega.{arith}
use Rattle.model.specs.Table.{code_of}
use Rattle.model.proofs.Cost.{last-bound}
use Rattle.blank.proofs.Laws.{force-length}
use Rattle.verify.proofs.Blocks.{block-begins, block-stops, block-ends, force-annotated, own-row}
use Rattle.verify.proofs.block.Goals as goal

pub copy_row-requires : goal.copy_row-requires
copy_row-requires c =
    let a = c.args.annotations.now in
    omega (arith, force-length _ _ _ _ c.requires.0 a.most a.fits _ c.in_force-own.ensures)

pub returns-in-Err : goal.returns-in-Err
returns-in-Err c =
    λ P A B.
    let begins = block-begins P _ _ _ c.copy_row.ensures (own-row A c.requires.0 c.in_force-own.ensures) in
    let S = rw c.in-Err.is at (c.inside-before.ensures.reads P B) in
    c.counting.ensures ∙ block-stops _ B begins _ _ S

-- the last instruction puts at most 16 fit questions
pub overflow_add-so_far-2 : goal.overflow_add-so_far-2
overflow_add-so_far-2 c =
    let few : c.block_end-end.result.asked ≤ 16 = rw (c.block_end-end.ensures.1 _ (force-annotated (code_of _ []) _ _)) (last-bound _ _ _ _ _) in
    omega (arith, few, c.inside-before.ensures.few, c.requires)

pub returns : goal.returns
returns c =
    λ P A B.
    let begins = block-begins P _ _ _ c.copy_row.ensures (own-row A c.requires.0 c.in_force-own.ensures) in
    let S = rw c.in_default.is at (c.inside-before.ensures.reads P B) in
    let ends = block-ends _ B begins _ S c.args.block.now.some _ _ (λ place. c.block_end-end.ensures.0 P A place _) (c.block_end-end.ensures.1 P A) in
    rw (c.counting-2.ensures, c.placed.ensures) ends
