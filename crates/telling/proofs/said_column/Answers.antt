-- `said_column` appends a column, which is printable and short.
use Rattle.std.proofs.Common.{◌≡◌, ◌∙◌, ap, ◌++◌, List, ℕ}
use Rattle.telling.specs.Row.{column_of}
use Rattle.telling.proofs.Widths.{told-column}
use Rattle.telling.proofs.said_column.Goals as goal

pub returns : goal.returns
returns c =
    let text : c.text.new.self ≡ c.args.out.now ++ column_of c.args.column c.args.row.now =
    c.text.ensures ∙ ap (λ (l : List ℕ). c.args.out.now ++ l) c.cut.ensures.part in
    record { text = text; told = told-column c.args.row.now c.requires.0 c.args.column text }
