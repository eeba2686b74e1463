-- Where in a line a byte is read, and the bytes that part its words.
use Rattle.std.specs.Prelude.{Bool, true, false, ℕ, eqb}
use Rattle.model.specs.Question.{pick}
use Rattle.grammar.specs.declared.Phase.{Phase}
use Rattle.grammar.specs.declared.Phase.TheVariants.{Gap, Zero, Digits, Prefix, Hex, Comment, Malformed}

-- ---- phases

-- in a number
abbrev pub in_number : Phase → Bool
in_number Zero = true
in_number Digits = true
in_number Prefix = true
in_number Hex = true
in_number _ = false

-- in the parts of a request: between numbers, or in one
abbrev pub in_parts : Phase → Bool
in_parts Gap = true
in_parts p = in_number p

-- the rest of the line is passed over
abbrev pub is_over : Phase → Bool
is_over Comment = true
is_over Malformed = true
is_over _ = false

-- ---- bytes

-- a space, a tab, a carriage return
unfoldable pub blank : ℕ → Bool
blank b = pick (eqb b 32) true (pick (eqb b 9) true (eqb b 13))

-- the # of a comment, and the space
abbrev pub hash : ℕ
hash = 35

abbrev pub space : ℕ
space = 32
