-- What a type table has to be for a reading to ask it.
use Rattle.std.specs.Prelude.{List, ◌≡◌, ℕ, ◌%◌, ◌≤◌, length}
use Rattle.model.specs.Table.{head_of}

-- a type table of whole rows, whose sizes are at most 8
pub record Sizes (types : List ℕ) : Type 0 where
  pub whole : length types % 9 ≡ 0
  pub small : (t : ℕ) → head_of types t ≤ 8
