-- What is promised of words: a text without line ends, made of some row.
use Rattle.std.specs.Prelude.{true, ◌≡◌, List, ◌++◌, ℕ, ◌≤◌, length}
use Rattle.output.specs.Digits.{printable}

-- the text that is made of one of the rows stands after what was held
pub record Told (text_of : List ℕ → List ℕ) (before after : List ℕ) : Type 0 where
  pub row : List ℕ
  pub seen : printable (text_of row) ≡ true
  pub short : length (text_of row) ≤ 16000
  pub appended : after ≡ before ++ text_of row
