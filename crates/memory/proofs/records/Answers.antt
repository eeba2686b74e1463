-- `memory::records` meets its contract, record by record.
use mathlib.Core.Path.{sym, ◌∙◌}
use native.Mathlib.Omega.{arith}
use Rattle.std.proofs.Common.{length-take-le}
use Rattle.table.proofs.Laws.{own-eight}
use Rattle.layout.proofs.Passed.{layout-rows, layout-even, layout_row}
use Rattle.memory.proofs.Checks.{row-read, fields-read, fields-legible, field-below, records-on, records-stop, records-end}
use Rattle.memory.proofs.records.Goals as goal

pub head-n-requires : goal.head-n-requires
head-n-requires c = omega (arith, layout_row _ _ _ _ c.requires (row-read (omega arith) c.start-start.ensures c.record_type-t.ensures))

pub type_words-requires : goal.type_words-requires
type_words-requires c = omega (arith, layout_row _ _ _ _ c.requires (row-read (omega arith) c.start-start.ensures c.record_type-t.ensures))

pub slice_bounds-words-end : goal.slice_bounds-words-end
slice_bounds-words-end c =
    let P = layout_row _ _ _ _ c.requires (row-read (omega arith) c.start-start.ensures c.record_type-t.ensures) in
    sym (length-take-le _ _ (omega (arith, P, c.head-n.ensures, own-eight _ _ _ (omega (arith, P)) c.type_words.ensures)))

pub slice_bounds-names-count : goal.slice_bounds-names-count
slice_bounds-names-count c = omega (arith, layout_row _ _ _ _ c.requires (row-read (omega arith) c.start-start.ensures c.record_type-t.ensures))

pub slice_bounds-names-start : goal.slice_bounds-names-start
slice_bounds-names-start c = omega (arith, layout_row _ _ _ _ c.requires (row-read (omega arith) c.start-start.ensures c.record_type-t.ensures))

pub first_unmet-requires : goal.first_unmet-requires
first_unmet-requires c =
    fields-legible c.args.meanings.now.tags.now c.requires (fields-read (row-read (omega arith) c.start-start.ensures c.record_type-t.ensures) c.head-n.ensures c.type_words.ensures)

pub within-requires : goal.within-requires
within-requires c =
    let F = fields-read (row-read (omega arith) c.start-start.ensures c.record_type-t.ensures) c.head-n.ensures c.type_words.ensures in
    (omega (arith, layout-rows _ _ _ _ c.requires), omega (arith, field-below c.args.meanings.now.tags.now c.requires F c.loop-k.invariant c.first_unmet.ensures c.in-Some.is))

pub returns-in-Some : goal.returns-in-Some
returns-in-Some c =
    let F = fields-read (row-read (omega arith) c.start-start.ensures c.record_type-t.ensures) c.head-n.ensures c.type_words.ensures in
    rw c.within.ensures (records-stop c.args.meanings.now.tags.now c.requires F c.loop-k.invariant c.first_unmet.ensures c.in-Some.is)

pub loop-k-preserved : goal.loop-k-preserved
loop-k-preserved c =
    let F = fields-read (row-read (omega arith) c.start-start.ensures c.record_type-t.ensures) c.head-n.ensures c.type_words.ensures in
    records-on c.args.meanings.now.tags.now c.requires F c.loop-k.invariant c.first_unmet.ensures c.in_default.is

pub returns : goal.returns
returns c = records-end c.loop-k.invariant (omega (arith, layout-even _ _ _ _ c.requires))
