-- The answer to what a line says: the call that a request asks for, at the request's tables, as text.
use Rattle.std.specs.Prelude.{Bool, false, not, Option, Some, None, List, [], ◌∷◌, ◌++◌, ℕ, eqb, get_or, take}
use Rattle.model.specs.declared.Verdict.{Verdict}
use Rattle.model.specs.declared.OfferedAnswer.{OfferedAnswer}
use Rattle.model.specs.declared.RunAnswer.{RunAnswer}
use Rattle.model.specs.Question.{pick}
use Rattle.model.specs.Machine.{Run, returned}
use Rattle.grammar.specs.declared.Form.{Form}
use Rattle.grammar.specs.declared.Form.TheVariants.{Check, Memory, Entry}
use Rattle.grammar.specs.declared.Form.TheVariants.{Run as RunForm}
use Rattle.grammar.specs.Codes.{codes}
use Rattle.protocol.specs.Text.{decimal, fields, verdict_text, check_text, run_text, malformed_text}
use Rattle.protocol.specs.Said.{Said, nothing, malformed_at, request}
use Rattle.telling.specs.Row.{answering, answer_text}
use Rattle.answers.specs.declared.Given.{Given}
use Rattle.answers.specs.declared.Tally.{Tally}
use Rattle.calls.specs.Requests.{check_of, blanks_in, memory_verdict, entry_verdict, run_of}

-- ---- answers

-- an answer's text, and what the table of words is asked about it
pub record Answer : Type 0 where
  pub text : List ℕ
  pub given : Given

-- the rows of the table of words that are no number of document 01: a run that halted, and a line that is no request
abbrev pub halted_row : ℕ
halted_row = 100

abbrev pub malformed_row : ℕ
malformed_row = 101

-- an answer with no tally
abbrev pub plain : List ℕ → ℕ → ℕ → ℕ → Answer
plain text row first second = record { text = text; given = record { row = row; place = answering first second; tally = None } }

abbrev pub judged : Verdict → Answer
judged v = plain (verdict_text v) v.number v.first v.second

-- a routine with so many blank annotations has a row for each, and none where it is refused
abbrev pub chosen_for : ℕ → ℕ → ℕ
chosen_for number blanks = pick (eqb number 0) blanks 0

-- the tally of a check: its count, and for how many blank annotations rows were chosen, and which
abbrev pub tally_of : OfferedAnswer → ℕ → Tally
tally_of a blanks = record { asked = a.asked; chosen = chosen_for a.number blanks; choice = a.choice }

abbrev pub checked : OfferedAnswer → ℕ → Answer
checked a blanks =
    record {
      text = check_text a;
      given = record { row = a.number; place = answering a.first a.second; tally = Some (tally_of a blanks) };
    }

-- a run's 0 has another row than that of a check
abbrev pub run_row : ℕ → ℕ
run_row number = pick (eqb number 0) halted_row number

abbrev pub ran_with : RunAnswer → List ℕ → Answer
ran_with a memory = plain (run_text a memory) (run_row a.number) a.block a.index

abbrev pub ran : Run → Answer
ran r = ran_with (returned r) r.memory

abbrev pub unread : ℕ → Answer
unread place = plain (malformed_text place) malformed_row place 0

-- ---- requests

unfoldable pub request_answer : Form → List (List ℕ) → List ℕ → Answer
request_answer Check parts longs = checked (check_of parts) (blanks_in parts)
request_answer Memory parts longs = judged (memory_verdict parts)
request_answer Entry parts longs = judged (entry_verdict parts)
request_answer RunForm parts longs = ran (run_of parts (get_or longs 0 0))

-- ---- lines

-- the number of the line that is answered, and a blank, where it is asked for
abbrev pub line_number : Bool → ℕ → List ℕ
line_number lined count = pick lined (decimal count ++ (32 ∷ [])) []

-- a line of output: this, the answer, what is added in words, the line's end
abbrev pub output_line : Bool → ℕ → Answer → List ℕ → List ℕ
output_line lined count a remark = line_number lined count ++ (a.text ++ (remark ++ (10 ∷ [])))

-- an empty line or a comment has no answer
unfoldable pub line_text : Bool → ℕ → Said → List ℕ → List ℕ
line_text lined count nothing remark = []
line_text lined count (malformed_at place) remark = output_line lined count (unread place) remark
line_text lined count (request form parts longs) remark = output_line lined count (request_answer form parts longs) remark

-- '; rows chosen: P0 ..', one for each blank annotation of an accepted routine
abbrev pub choice_text : ℕ → List ℕ → List ℕ
choice_text chosen choice = pick (eqb chosen 0) [] (codes "; rows chosen:" ++ fields (take chosen choice))

-- '; fit questions: N', of an answer that has a count, and its rows
abbrev pub tally_text : Option Tally → List ℕ
tally_text None = []
tally_text (Some t) = codes "; fit questions: " ++ decimal t.asked ++ choice_text t.chosen t.choice

-- what is added in words, over the row of the table that the answer has
abbrev pub words_of : Given → List ℕ → List ℕ
words_of g row = answer_text g.row g.place.first g.place.second row ++ tally_text g.tally

unfoldable pub remark_text : Said → List ℕ → List ℕ
remark_text nothing row = []
remark_text (malformed_at place) row = words_of (unread place).given row
remark_text (request form parts longs) row = words_of (request_answer form parts longs).given row

-- an answer other than 0 and 40, by its row
unfoldable pub refusal_row : ℕ → Bool
refusal_row row = pick (eqb row 0) false (pick (eqb row 40) false (not (eqb row halted_row)))

unfoldable pub refused : Said → Bool
refused nothing = false
refused (malformed_at place) = refusal_row (unread place).given.row
refused (request form parts longs) = refusal_row (request_answer form parts longs).given.row
