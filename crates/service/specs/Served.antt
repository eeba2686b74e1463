-- What the program writes for the bytes that it reads, however they come in pieces.
use Rattle.std.specs.Prelude.{ℕ, suc, Bool, true, List, [], ◌∷◌, ◌++◌, ◌==◌}
use Rattle.model.specs.Question.{pick}
use Rattle.reader.specs.Reader.{Reader, on_line, fresh_line, past, step, reads, at_end}
use Rattle.protocol.specs.Said.{Said, said}
use Rattle.answers.specs.Answers.{line_text, refused}

-- the byte that ends a line
abbrev pub newline : ℕ
newline = 10

-- how far an input was read: the line that is being read, its number, and whether some answer was other than 0 and 40
pub record Standing : Type 0 where
  pub reader : Reader
  pub count : ℕ
  pub refused : Bool

abbrev pub standing : Reader → ℕ → Bool → Standing
standing r k f = record { reader = r; count = k; refused = f }

abbrev pub spoken : Standing → Said
spoken t = said (at_end t.reader)

-- one more byte of a line
abbrev pub further : Standing → ℕ → Standing
further t b = standing (step t.reader b) t.count t.refused

-- the line at its end is answered, and the next begins
abbrev pub next_line : Standing → Standing
next_line t = standing (on_line (at_end t.reader) fresh_line) (past t.count 1) (pick t.refused true (refused (spoken t)))

abbrev pub line_answer : Bool → Standing → List ℕ
line_answer lined t = line_text lined t.count (spoken t) []

-- the answers to all lines that end in some bytes
unfoldable pub served : Bool → Standing → List ℕ → List ℕ
served lined t [] = []
served lined t (b ∷ bs) = pick (b == newline) (line_answer lined t ++ served lined (next_line t) bs) (served lined (further t b) bs)

-- how far an input was read after them
unfoldable pub stood : Standing → List ℕ → Standing
stood t [] = t
stood t (b ∷ bs) = pick (b == newline) (stood (next_line t) bs) (stood (further t b) bs)

-- the last line of an input may lack its end; one of which nothing was read is none
unfoldable pub last_answer : Bool → Standing → List ℕ
last_answer lined t = pick (t.reader.line.at == 0) [] (line_answer lined t)

unfoldable pub last_refused : Standing → Bool
last_refused t = pick (t.reader.line.at == 0) t.refused (next_line t).refused

-- ---- lines

-- how many bytes stand before the line's end
unfoldable pub to_end : List ℕ → ℕ
to_end [] = 0
to_end (b ∷ bs) = pick (b == newline) 0 (suc (to_end bs))

-- the line after bytes that do not end it
abbrev pub along_by : Standing → List ℕ → Standing
along_by t bs = standing (reads t.reader bs) t.count t.refused
