-- Columns of rows: the parts into which a row is cut at its bars.
use mathlib.Core.Bool.{Bool, true, false}
use mathlib.Core.Path.{◌≡◌, refl, sym, ap, ◌∙◌}
use mathlib.Core.List.{List, [], ◌∷◌}
use Prim.Native.Nat.{ℕ, zero, suc}
use native.Mathlib.Numerals.{unary_clauses}
use lib.Dec.{eqb}
use lib.ListN.{get_or}
use denote.Ref.{Bor}
use Rattle.std.specs.List.{slice_split, slice_get, onto_first}
use Rattle.std.specs.Option.{option_map, unwrap_or}
use Rattle.std.specs.Prelude.{Option, None, Some}
use Rattle.std.proofs.lemmas.Option.{unwrap_or-slice_get}
use Rattle.telling.specs.Row.{bar, column_of}

-- whether a byte is a bar
abbrev pub is_bar : ℕ → Bool
is_bar b = eqb b bar

-- a byte put before the first part makes that part longer, and leaves the others
first-part : (b : ℕ) (parts : List (List ℕ)) → get_or (onto_first b parts) 0 [] ≡ b ∷ get_or parts 0 []
first-part b [] = refl
first-part b (x ∷ xs) = refl

later-part : (b k : ℕ) (parts : List (List ℕ)) → get_or (onto_first b parts) (suc k) [] ≡ get_or parts (suc k) []
later-part b k [] = refl
later-part b k (x ∷ xs) = refl

-- one byte of the row, where the columns of the bytes after it are known
one-byte : (k b : ℕ) (bs : List ℕ) (here : Bool) → is_bar b ≡ here → ((j : ℕ) → column_of j bs ≡ get_or (slice_split is_bar bs) j [])
    → column_of k (b ∷ bs) ≡ get_or (slice_split is_bar (b ∷ bs)) k []
unfolding column_of
one-byte zero b bs true e rest = rw e
one-byte (suc k) b bs true e rest = rw e (simp unary_clauses (rest k))
one-byte zero b bs false e rest = rw e (ap (λ (l : List ℕ). b ∷ l) (rest 0) ∙ sym (first-part b (slice_split is_bar bs)))
one-byte (suc k) b bs false e rest = rw e (rest (suc k) ∙ sym (later-part b k (slice_split is_bar bs)))

-- a column is the part in its place
pub column-is : (k : ℕ) (row : List ℕ) → column_of k row ≡ get_or (slice_split is_bar row) k []
unfolding column_of
column-is zero [] = refl
column-is (suc k) [] = refl
column-is k (b ∷ bs) = one-byte k b bs (is_bar b) refl (λ j. column-is j bs)

-- ---- a part that is asked for by its place

now-unwrap : (r : Option (Bor (List ℕ))) (d : Bor (List ℕ)) → (unwrap_or r d).now ≡ unwrap_or (option_map (λ x. x.now) r) d.now
now-unwrap None d = refl
now-unwrap (Some x) d = refl

-- the part that was found, or nothing, is the column
pub column_found : (k : ℕ) (row : List ℕ) (r : Option (Bor (List ℕ))) (d : Bor (List ℕ)) → d.now ≡ []
    → option_map (λ x. x.now) r ≡ slice_get (slice_split is_bar row) k → (unwrap_or r d).now ≡ column_of k row
column_found k row r d none found =
    now-unwrap r d
    ∙ rw (found, none) (unwrap_or-slice_get (slice_split is_bar row) k [])
    ∙ sym (column-is k row)
