-- A row: its columns in order, with bars between them. What is said of an answer is made of a row.
use Rattle.std.specs.Prelude.{Bool, true, false, ◌≡◌, List, [], ◌∷◌, ◌++◌, ℕ, zero, suc, ◌-◌, ◌≤◌, eqb, length}
use Rattle.model.specs.Question.{pick, number_of}
use Rattle.model.specs.declared.questions.Question.TheVariants.{StartBlock as q16, MemoryLength as q17}
use Rattle.grammar.specs.Codes.{codes}
use Rattle.protocol.specs.Text.{decimal}
use Rattle.output.specs.Digits.{printable}
use Rattle.telling.specs.declared.Place.{Place}

-- ---- columns

-- the letters '|', 'A' and 'B'
abbrev pub bar : ℕ
bar = 124

abbrev pub letter_a : ℕ
letter_a = 65

abbrev pub letter_b : ℕ
letter_b = 66

-- one column less is left to pass where a bar is passed
abbrev pub after_byte : ℕ → ℕ → ℕ
after_byte left byte = pick (eqb byte bar) (left - 1) left

-- a column of a row, counted from 0: a row is cut at its bars
unfoldable pub column_of : ℕ → List ℕ → List ℕ
column_of k [] = []
column_of zero (b ∷ bs) = pick (eqb b bar) [] (b ∷ column_of zero bs)
column_of (suc k) (b ∷ bs) = column_of (after_byte (suc k) b) bs

-- A and B of a place are written as the numbers answered
abbrev pub letter_text : Place → ℕ → List ℕ
letter_text at b = pick (eqb b letter_a) (decimal at.first) (pick (eqb b letter_b) (decimal at.second) (b ∷ []))

unfoldable pub written : Place → List ℕ → List ℕ
written at [] = []
written at (b ∷ bs) = letter_text at b ++ written at bs

-- ---- an answer in words

-- the columns that an answer is told by: name, meaning and place
abbrev pub name : List ℕ → List ℕ
name = column_of 0

abbrev pub meaning : List ℕ → List ℕ
meaning = column_of 1

abbrev pub place : List ℕ → List ℕ
place = column_of 4

-- a check that passed, and the questions of a start block and of a memory's length, answer 0, 0 whatever the cause
abbrev pub has_place : ℕ → Bool
has_place number =
    pick (eqb number 0) false
    (pick (eqb number (number_of q16)) false
    (pick (eqb number (number_of q17)) false
    true))

abbrev pub answering : ℕ → ℕ → Place
answering first second = record { first = first; second = second }

abbrev pub place_text : ℕ → ℕ → ℕ → List ℕ → List ℕ
place_text number first second row = pick (has_place number) (codes "; at " ++ written (answering first second) (place row)) []

-- '  # NAME: MEANING; at PLACE'
abbrev pub answer_text : ℕ → ℕ → ℕ → List ℕ → List ℕ
answer_text number first second row =
    codes "  # " ++ (name row ++ (codes ": " ++ (meaning row ++ place_text number first second row)))

-- ---- rows that can be told

-- printable, and no longer than 700 bytes
pub record Fine (row : List ℕ) : Type 0 where
  pub seen : printable row ≡ true
  pub short : length row ≤ 700
