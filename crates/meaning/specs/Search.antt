-- What the search over a record's fields, or over the registers, answers.
use Rattle.std.specs.Prelude.{◌≡◌, Bool, true, List, ℕ, zero, suc, ◌≤◌, ◌<◌, length, get_or, Option, Some, None}
use Rattle.model.specs.Question.{pick}
use Rattle.model.specs.Word.{kind_of, record_of, first_of, second_of}
use Rattle.model.specs.Types.{type_of}
use Rattle.model.specs.Table.{rows, head_of, Tables, well_made}
use Rattle.model.specs.MemoryCheck.{meets}

-- the first of the n numbers from i on that does not pass, if any does not
unfoldable pub first_false : ℕ → ℕ → (ℕ → Bool) → Option ℕ
first_false zero i f = None
first_false (suc n) i f = pick (f i) (first_false n (suc i) f) (Some i)

-- a type word that can be read: its kind is one of the nine, the record type of a run exists, names have one of the n words
pub record Legible (count n w : ℕ) : Type 0 where
  pub kind : kind_of w ≤ 8
  pub typed : 6 ≤ kind_of w → record_of w < count
  pub first : 3 ≤ kind_of w → first_of w < 8 → first_of w < n
  pub second : 6 ≤ kind_of w → second_of w < 8 → second_of w < n

-- the word at place i meets its type word, the names standing for the words beside it
unfoldable pub place_meets : Tables → List ℕ → List ℕ → List ℕ → ℕ → Bool
place_meets 𝒯 allocations words names i = meets 𝒯 allocations (type_of (get_or words i 0)) (λ g. get_or names g 0) (get_or names i 0)

-- each record type has a field
abbrev pub EachHasField : List ℕ → Type 0
EachHasField types = (t : ℕ) → t < rows types → 1 ≤ head_of types t

-- the type words are well made, with as many names or more to stand for words
pub record WordsLegible (count : ℕ) (words names : List ℕ) : Type 0 where
  pub named : length words ≤ length names
  pub well : (i : ℕ) → i < length words → well_made count (length words) (get_or words i 0) ≡ true
