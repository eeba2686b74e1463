-- What Q1 to Q5 give where they pass.
use Rattle.std.specs.Prelude.{◌≡◌, List, ℕ, ◌+◌, ◌≤◌, ◌<◌, length, get_or}
use Rattle.model.specs.Table.{Code, rows, head_of, start_of}
use Rattle.access.specs.State.{Sizes}

-- starts has where each block starts, and after the last where the code ends
abbrev pub Starts : List ℕ → List ℕ → Type 0
Starts blocks starts = (b : ℕ) → b ≤ rows blocks → get_or starts b 0 ≡ start_of blocks b

-- the bounds of the tables
pub record Tabled (types : List ℕ) (C : Code) : Type 0 where
  pub sizes : Sizes types
  pub typed : length types ≤ 576
  pub most : length C.blocks ≤ 2304
  pub long : length C.code ≤ 8192
  pub bounds : (b : ℕ) → b < rows C.blocks
      → (1 ≤ head_of C.blocks b) × (head_of C.blocks b ≤ 32) × (start_of C.blocks b + head_of C.blocks b ≤ length C.code)
