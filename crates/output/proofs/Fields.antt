-- The fields of a list: appended one after the other, and printable.
use mathlib.Core.Bool.{true}
use mathlib.Core.Path.{◌≡◌, refl, ap}
use mathlib.Core.List.{List, [], ◌∷◌, ◌++◌}
use Prim.Native.Nat.{ℕ, ◌+◌, ◌<◌}
use lib.ListN.{length, take, get_or}
use Rattle.std.specs.List.{flat_map}
use Rattle.std.proofs.lemmas.List.{take_more, flat_map_more}
use Rattle.protocol.specs.Text.{field, fields}
use Rattle.output.specs.Digits.{printable, all_from}
use Rattle.output.proofs.Decimals.{decimal-printable, all_append}

fields-joined : (l : List ℕ) → fields l ≡ flat_map field l
unfolding fields
fields-joined [] = refl
fields-joined (x ∷ xs) = ap (λ l. field x ++ l) (fields-joined xs)

-- one more field after a text and the fields so far
pub fields-more : (text l : List ℕ) (i : ℕ) → i < length l → (text ++ fields (take i l)) ++ field (get_or l i 0) ≡ text ++ fields (take (i + 1) l)
fields-more text l i h =
    rw (take_more l i 0 h, fields-joined (take i l), fields-joined (take i l ++ (get_or l i 0 ∷ [])))
    (flat_map_more field text (take i l) (get_or l i 0))

pub fields-printable : (l : List ℕ) → printable (fields l) ≡ true
unfolding fields all_from
fields-printable [] = refl
fields-printable (n ∷ ns) = all_append 32 126 (field n) (fields ns) (decimal-printable n) (fields-printable ns)
