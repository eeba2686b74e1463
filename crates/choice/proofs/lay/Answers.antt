-- `choice::lay` meets its contract: the row is copied over the type words of the block.
use mathlib.Core.Path.{sym, ap, ◌∙◌}
use native.Mathlib.Omega.{arith}
use lib.ListN.{length, length-take, length-drop}
use borrow.Author.Tests.{lt-ltb}
use Rattle.blank.proofs.Laws.{eight-offered}
use Rattle.access.proofs.Fields.{laid-part}
use Rattle.choice.proofs.lay.Goals as goal

pub copy_from_slice-requires : goal.copy_from_slice-requires
copy_from_slice-requires c =
    let h = c.requires c.if-b-ge-NO_BLOCK.false in
    let eight = eight-offered _ _ _ h.1 c.offered_row.ensures in
    simp (length-take, length-drop) (omega (arith, eight, h.0))

pub returns-clause-laid : goal.returns-clause-laid
returns-clause-laid c =
    let h = c.requires c.if-b-ge-NO_BLOCK.false in
    let eight = ap length (sym c.offered_row.ensures) ∙ eight-offered _ _ _ h.1 c.offered_row.ensures in
    rw (lt-ltb c.args.b 256 c.if-b-ge-NO_BLOCK.false)
    (laid-part _ _ _ _ _ (c.copy_from_slice.ensures.after ∙ c.offered_row.ensures) (omega (arith, eight)) (omega (arith, eight, h.0)))
