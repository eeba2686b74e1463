-- Digits: the one that a byte is, what it counts by and the phase after it.
use Rattle.std.specs.Prelude.{ℕ, ◌-◌, ltb, eqb, Option, None, Some}
use Rattle.model.specs.Question.{pick}
use Rattle.grammar.specs.declared.Phase.{Phase}
use Rattle.grammar.specs.declared.Phase.TheVariants.{Empty, Name, Gap, Zero, Digits, Hex}

-- the digit that a byte is, 0 to 15: 0 to 9, A to F, a to f; 16 where it is none
unfoldable pub numeral : ℕ → ℕ
numeral b =
    pick (ltb b 48) 16
    (pick (ltb b 58) (b - 48)
    (pick (ltb b 65) 16
    (pick (ltb b 71) (b - 55)
    (pick (ltb b 97) 16
    (pick (ltb b 103) (b - 87)
    16)))))

-- the digit that a byte is in a radix
unfoldable pub digit : ℕ → ℕ → Option ℕ
digit radix b = pick (ltb (numeral b) radix) (Some (numeral b)) None

-- the 0 and the x of 0x
abbrev pub nought : ℕ
nought = 48

abbrev pub ex : ℕ
ex = 120

-- what a digit counts by in a phase
unfoldable pub base : Phase → ℕ
base Empty = 10
base Name = 10
base Gap = 10
base Zero = 10
base Digits = 10
base _ = 16

-- the phase after a digit
unfoldable pub digit_to : Phase → ℕ → Phase
digit_to Gap d = pick (eqb d 0) Zero Digits
digit_to Empty d = Digits
digit_to Name d = Digits
digit_to Zero d = Digits
digit_to Digits d = Digits
digit_to _ d = Hex
