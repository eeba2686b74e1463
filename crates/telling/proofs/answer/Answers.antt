-- `answer` appends name, meaning and place, with what stands between them.
use Rattle.std.proofs.Common.{◌≡◌, ◌++◌, append_assoc}
use Rattle.telling.specs.Row.{answer_text}
use Rattle.telling.proofs.Widths.{told-answer}
use Rattle.telling.proofs.answer.Goals as goal

pub returns : goal.returns
returns c =
    let at = c.args.at in
    let text : c.said_place.new.out ≡ c.args.out.now ++ answer_text c.args.number at.first at.second c.args.row.now =
    rw (c.said_place.ensures, c.text-4.ensures, c.cut-2.ensures.part, c.text-3.ensures, c.text-2.ensures, c.cut.ensures.part, c.text.ensures)
    (simp append_assoc) in
    record { text = text; told = told-answer c.args.row.now c.requires.0 c.args.number at.first at.second text }
