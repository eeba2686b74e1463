-- A place with its numbers, letter after letter.
use mathlib.Core.Path.{◌≡◌, refl, ap}
use mathlib.Core.List.{List, [], ◌∷◌, ◌++◌}
use Prim.Native.Nat.{ℕ, ◌+◌, ◌<◌}
use lib.ListN.{length, take, get_or}
use Rattle.std.specs.List.{flat_map}
use Rattle.std.proofs.lemmas.List.{take_more, flat_map_more}
use Rattle.telling.specs.declared.Place.{Place}
use Rattle.telling.specs.Row.{letter_text, written}

module _ (at : Place) where
  written-joined : (l : List ℕ) → written at l ≡ flat_map (letter_text at) l
  unfolding written
  written-joined [] = refl
  written-joined (x ∷ xs) = ap (λ l. letter_text at x ++ l) (written-joined xs)

  -- one more letter after a text and the letters so far
  pub written-more : (text l : List ℕ) (i : ℕ) → i < length l
      → (text ++ written at (take i l)) ++ letter_text at (get_or l i 0) ≡ text ++ written at (take (i + 1) l)
  written-more text l i h =
      rw (take_more l i 0 h, written-joined (take i l), written-joined (take i l ++ (get_or l i 0 ∷ [])))
      (flat_map_more (letter_text at) text (take i l) (get_or l i 0))
