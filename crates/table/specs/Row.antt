-- The type words of one row, as the function that reads them answers: the model's Q3 and Q6 come to it.
use Rattle.std.specs.Prelude.{Bool, not, List, ℕ, ltb, eqb, get_or}
use Rattle.model.specs.Question.{◌and◌, ◌or◌, pick}
use Rattle.model.specs.Word.{locked_of}
use Rattle.model.specs.Table.{well_made}

-- The word w of place f is well made over count record types and n names where f is below n, and marked only where marks are allowed;
-- past that it is zero.
unfoldable pub place_well : ℕ → ℕ → Bool → ℕ → ℕ → Bool
place_well count n marks f w = pick (ltb f n) ((marks or not (locked_of w)) and well_made count n w) (eqb w 0)

-- the word of place f of a row
unfoldable pub row_well : ℕ → ℕ → Bool → List ℕ → ℕ → Bool
row_well count n marks words f = place_well count n marks f (get_or words f 0)
