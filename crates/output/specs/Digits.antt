-- Digits as they are put down, from the last to the first, and as they are read.
use Rattle.std.specs.Prelude.{Bool, true, false, List, [], ◌∷◌, ◌++◌, ℕ, zero, suc, ◌+◌, ◌*◌, ◌-◌, ◌/◌, leb}
use Rattle.model.specs.Question.{pick}
use Rattle.protocol.specs.Text.{last_digit}

-- the last k digits of a number, zeros in front where it has fewer
unfoldable pub last_digits : ℕ → ℕ → List ℕ
last_digits zero n = []
last_digits (suc k) n = last_digits k (n / 10) ++ (last_digit n ∷ [])

-- the value of digits that are read after a value
unfoldable pub value_after : ℕ → List ℕ → ℕ
value_after v [] = v
value_after v (b ∷ bs) = value_after (v * 10 + (b - 48)) bs

-- the value of digits in base ten
abbrev pub value_of : List ℕ → ℕ
value_of bs = value_after 0 bs

-- every code of a text stands between two codes
unfoldable pub all_from : ℕ → ℕ → List ℕ → Bool
all_from low high [] = true
all_from low high (b ∷ bs) = pick (leb low b) (pick (leb b high) (all_from low high bs) false) false

-- the codes of '0' to '9'
abbrev pub all_digits : List ℕ → Bool
all_digits = all_from 48 57

-- the codes of ASCII that are seen, and the blank
abbrev pub printable : List ℕ → Bool
printable = all_from 32 126
