-- The table of owners: for each address the record type that starts there, and where the run of that type from there ends.
use Rattle.std.specs.Prelude.{◌≡◌, Bool, true, false, List, [], ◌∷◌, ℕ, ◌+◌, ◌*◌, ◌/◌, ◌%◌, ◌≤◌, ◌<◌, ltb, eqb, length, get_or, set}
use Rattle.model.specs.Question.{pick}
use Rattle.model.specs.Table.{rows, head_of, Tables}
use Rattle.model.specs.Allocation.{is_allocated}

-- An entry is 0 where no record starts, and else (t + 1) * 65536 + the end of the run. Addresses are below 16,384.
unfoldable pub owner_at : List ℕ → ℕ → ℕ
owner_at owners x = pick (ltb x 16384) (get_or owners x 0) 0

-- a record of type t starts at x
unfoldable pub starts_at : List ℕ → ℕ → ℕ → Bool
starts_at owners x t = eqb (owner_at owners x / 65536) (t + 1)

-- the entry of a record of type t that ends at x: the run that starts there goes on, or ends with it
unfoldable pub entry_of : List ℕ → ℕ → ℕ → ℕ
entry_of owners x t = pick (starts_at owners x t) (owner_at owners x) ((t + 1) * 65536 + x)

-- the rows of a list laid into a table, the last first
unfoldable pub owners_of : (ℕ → ℕ) → List ℕ → List ℕ → List ℕ
owners_of size [] owners = owners
owners_of size (p ∷ []) owners = owners
owners_of size (p ∷ t ∷ rest) owners = set (owners_of size rest owners) p (entry_of (owners_of size rest owners) (p + size t) t)

-- a record of type t at p has a field, and ends within the addresses
pub record RowCanBeLaid (types : List ℕ) (p t : ℕ) : Type 0 where
  pub exists : t < rows types
  pub some : 1 ≤ head_of types t
  pub inside : p + head_of types t ≤ 16384

-- the allocations that can be laid into the table: whole rows, over types that an entry has room for
pub record CanBeLaid (types allocations : List ℕ) : Type 0 where
  pub few : rows types ≤ 64
  pub even : length allocations % 2 ≡ 0
  pub each : (k : ℕ) → k * 2 + 1 < length allocations → RowCanBeLaid types (get_or allocations (k * 2) 0) (get_or allocations (k * 2 + 1) 0)

-- the table tells what the allocations say: which records start where, and how far a run of them goes
pub record Owned (𝒯 : Tables) (allocations owners : List ℕ) : Type 0 where
  pub starts : (x t : ℕ) → is_allocated allocations x t ≡ starts_at owners x t
  pub reaches : (x t : ℕ) → is_allocated allocations x t ≡ true → x + 𝒯.size t ≤ owner_at owners x % 65536
  pub goes_on : (x t : ℕ) → is_allocated allocations x t ≡ true → is_allocated allocations (x + 𝒯.size t) t ≡ true
      → owner_at owners x ≡ owner_at owners (x + 𝒯.size t)
  pub ends : (x t : ℕ) → is_allocated allocations x t ≡ true → is_allocated allocations (x + 𝒯.size t) t ≡ false
      → owner_at owners x % 65536 ≡ x + 𝒯.size t
