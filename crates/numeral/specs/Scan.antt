-- A number and the blank after it, in one piece.
use Rattle.std.specs.Prelude.{List, [], ◌∷◌, ℕ, suc, ◌+◌, ◌*◌, ltb, eqb, Option, None, Some}
use Rattle.model.specs.Question.{pick}
use Rattle.grammar.specs.Grammar.{word_end}
use Rattle.grammar.specs.Phase.{blank}
use Rattle.numeral.specs.declared.Found.{Found}
use Rattle.numeral.specs.Digit.{numeral, nought, ex}

-- so many bytes, and a value
abbrev pub scanned : ℕ → ℕ → Option Found
scanned k v = Some record { count = k; value = v }

abbrev pub not_found : Option Found
not_found = None

-- the first that is found
abbrev pub first_of : Option Found → Option Found → Option Found
first_of None other = other
first_of (Some found) other = Some found

-- k bytes of a number were read, and its digits come to a value; its first digit comes after o bytes: the byte after them must be a blank, and
-- there is no number where it is none or there is no digit at all
unfoldable pub closed : ℕ → ℕ → ℕ → ℕ → Option Found
closed o v k b = pick (blank b) (pick (eqb k o) not_found (scanned (suc k) v)) not_found

-- the digits that are left, and the blank; not found where there is no such thing or no word
unfoldable pub scan : ℕ → ℕ → ℕ → ℕ → List ℕ → Option Found
scan radix o v k [] = not_found
scan radix o v k (b ∷ bs) =
    pick (ltb (numeral b) radix)
    (pick (ltb (v * radix + numeral b) word_end) (scan radix o (v * radix + numeral b) (suc k) bs) not_found)
    (closed o v k b)

abbrev pub scan_decimal : List ℕ → Option Found
scan_decimal xs = scan 10 0 0 0 xs

-- 0x, and hexadecimal digits
unfoldable pub scan_hex : List ℕ → Option Found
scan_hex [] = not_found
scan_hex (a ∷ []) = not_found
scan_hex (a ∷ b ∷ bs) = pick (eqb a nought) (pick (eqb b ex) (scan 16 2 0 2 bs) not_found) not_found

-- a decimal number, else a hexadecimal one
unfoldable pub scan_number : List ℕ → Option Found
scan_number xs = first_of (scan_decimal xs) (scan_hex xs)
