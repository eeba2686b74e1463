-- The rows of operand uses as the code has them, each two words, and Q7 by them.
use Rattle.std.specs.Prelude.{List, [], ◌∷◌, map, Bool, ℕ, ◌+◌, ◌-◌, ◌*◌, ◌^◌, ltb, leb, eqb, length, get_or}
use Rattle.std.specs.Int.Bits.{bit_and}
use Rattle.model.specs.Question.{◌and◌}
use Rattle.model.specs.Word.{opcode_of, c_of}
use Rattle.model.specs.Uses.{Use, unused, register, number, divisor, Row, use_rows}

-- of a part of k bits, those that must not be set: all of an unused part, all but the low three of a register's number
abbrev pub barred : ℕ → Use → ℕ
barred k unused = 2 ^ k - 1
barred k register = 2 ^ k - 8
barred k number = 0
barred k divisor = 0

-- the least that a part may be
abbrev pub least : Use → ℕ
least unused = 0
least register = 0
least number = 0
least divisor = 1

-- parts a, b and c as they lie in a word
abbrev pub bits : ℕ → ℕ → ℕ → ℕ
bits x y z = (x * 16 + y) * 2 ^ 16 + z

-- the bits of a word that must not be set, and the least c; that a or b is a divisor cannot be said, and no row of use_rows has it
abbrev pub row_words : Row → List ℕ
row_words r = bits (barred 4 r.a) (barred 4 r.b) (barred 16 r.c) ∷ least r.c ∷ []

abbrev pub opcode_rows : List (List ℕ)
opcode_rows = map row_words use_rows

-- Q7 by any rows of this form: the opcode has a row, no bit is set that the row bars, and c is not below the row's least
unfoldable pub formed_by_words : List (List ℕ) → ℕ → Bool
formed_by_words rows w =
    let row = get_or rows (opcode_of w) [] in
    ltb (opcode_of w) (length use_rows) and eqb (bit_and w (get_or row 0 0)) 0 and leb (get_or row 1 0) (c_of w)
