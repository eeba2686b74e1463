-- What is asked of a value: whether it fits a type word, and what makes it a reference.
use Rattle.std.specs.Prelude.{Option, Some, None, Bool, true, false, List, ℕ, eqb, get_or}
use Rattle.model.specs.Question.{◌or◌, pick}
use Rattle.model.specs.Types.{Dep, Ty, any, ref, maybe, tagged, present, same, span, type_of, rename}
use Rattle.model.specs.Table.{Tables, tables_of}
use Rattle.model.specs.Values.{Values}
use Rattle.model.specs.Reading.{is_tagged, is_present, fits}
use Rattle.known.specs.Numbers.{dep_at, values_of, Paired}
use Rattle.fits.specs.declared.Facts.{Facts}
use Rattle.fits.specs.declared.Referred.{Referred}
use Rattle.fits.specs.declared.Referred.TheVariants.{Record, Tag}

-- the type that w says, where the names stand for other values
abbrev pub meant : List ℕ → ℕ → Ty
meant names w = rename (λ i. get_or names i 0) (type_of w)

-- said of the tables and the values that the facts tell of, past the test
abbrev pub By : Facts → (Tables → Values → Type 0) → Type 0
By facts said =
    (types : List ℕ) (tested equal : ℕ) → Paired (values_of facts.values.now tested equal) facts.test
    → said (tables_of types facts.tags.now) (values_of facts.values.now tested equal)

-- ---- references

-- what makes a value of a type a reference: its record type, its dependency where that is a tag, or nothing
pub data Refers : Type 0 where
  to_record : ℕ → Refers
  by_tag : Dep → Refers
  by_nothing : Refers

unfoldable pub refers : Ty → Refers
refers any = by_nothing
refers (ref t) = to_record t
refers (maybe t) = by_nothing
refers (tagged d) = by_nothing
refers (present d) = by_tag d
refers (same d) = by_nothing
refers (span k t d e) = pick (eqb k 2) (to_record t) by_nothing

-- the same as the code says it
abbrev pub refers_told : Referred → Refers
refers_told (Record t) = to_record t
refers_told (Tag x) = by_tag (dep_at x)

abbrev pub refers_of : Option Referred → Refers
refers_of (Some r) = refers_told r
refers_of None = by_nothing

-- ---- Tagged, and Present

-- 01: 'is Ref T, In T or Maybe T where d is a known tag of T'; for Present without Maybe
unfoldable pub by_record : Bool → ℕ → Bool
by_record true kind = eqb kind 1 or eqb kind 8
by_record false kind = eqb kind 1 or eqb kind 8 or eqb kind 2

-- 01: 'is Tagged or Present of a known equal dependency'; for Present without Tagged
unfoldable pub by_own_tag : Bool → ℕ → Bool
by_own_tag true kind = eqb kind 4
by_own_tag false kind = eqb kind 4 or eqb kind 3

-- the value is so, known 0 apart
unfoldable pub tag_fits : Tables → Values → Bool → Dep → Ty → Bool
tag_fits 𝒯 vs true d ty = is_present 𝒯 vs d ty
tag_fits 𝒯 vs false d ty = is_tagged 𝒯 vs d ty

-- ---- rows

-- the value at place i fits its type word
unfoldable pub place_fits : Tables → Values → List ℕ → List ℕ → ℕ → Bool
place_fits 𝒯 vs row names i = fits 𝒯 vs (get_or names i 0) (meant names (get_or row i 0))
