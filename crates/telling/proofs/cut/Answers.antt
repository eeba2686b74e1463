-- `cut` gives the part of the row in the column's place.
use Rattle.std.proofs.Common.{◌≡◌, ◌∙◌, ap, refl, rules, tests}
use Rattle.std.proofs.lemmas.Iterator.Consumers.{nth_from_yields_List}
use Rattle.std.proofs.lemmas.Iterator.Splits.{YieldsList-from_slice_split}
use Rattle.telling.specs.Row.{column_of}
use Rattle.telling.proofs.Columns.{column_found}
use Rattle.telling.proofs.Widths.{column-long}
use Rattle.telling.proofs.cut.Goals as goal

pub returns : goal.returns
returns c =
    let row = c.args.row.now in
    let part : c.unwrap_or.result.now ≡ column_of c.args.column row =
    ap (λ r. r.now) c.unwrap_or.ensures
    ∙ column_found c.args.column row c.nth.result _ refl
    (nth_from_yields_List c.nth.result _ _ c.nth.ensures.ran
    (YieldsList-from_slice_split _ _ row c.split.ensures.rest c.split.ensures.done c.split.ensures.closure (λ x r q k. search (rules, tests)))) in
    record { part = part; upper_bound = rw part (column-long row c.args.column) }
