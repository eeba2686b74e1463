-- 02, card 4: 'a constant table with a row for each opcode, saying which of a, b and c it reads and how. Q7 follows from the word and its row
-- alone, shown to be 01's rule for every 32-bit word.' That rule is Machine.well_formed, which knows nothing of the rows; RowsAre01 is proved in
-- proofs/Uses.antt. A row has what Q7 asks of each part, and no more: not which register is written, nor that c of opcode 7 has a sign.
use Rattle.std.specs.Prelude.{◌≡◌, Bool, true, false, List, [], ◌∷◌, map, ℕ, ◌^◌, ◌≤◌, ◌<◌, ltb, leb, eqb, length, get_or}
use Rattle.model.specs.Question.{◌and◌}
use Rattle.model.specs.Word.{opcode_of, a_of, b_of, c_of}
use Rattle.model.specs.Table.{register_count}
use Rattle.model.specs.Machine.{well_formed}

-- ---- how an opcode uses a part of its word

pub data Use : Type 0 where
  unused : Use
  register : Use
  number : Use
  divisor : Use

-- 01: 'unused parts are zero; a register number is 0 to 7'; a divisor is 'at least 1'; a number may be any
unfoldable pub allows : Use → ℕ → Bool
allows unused x = eqb x 0
allows register x = ltb x register_count
allows number x = true
allows divisor x = leb 1 x

-- ---- the rows

pub record Row : Type 0 where
  pub a : Use
  pub b : Use
  pub c : Use

abbrev row : Use → Use → Use → Row
row a b c = record { a = a; b = b; c = c }

unfoldable pub use_rows : List Row
use_rows =
    row unused unused unused  -- halt
    ∷ row register unused number  -- constant
    ∷ row register register unused  -- copy
    ∷ row register register register  -- add
    ∷ row register register register  -- subtract
    ∷ row register register register  -- multiply
    ∷ row register register divisor  -- divide
    ∷ row register register number  -- move
    ∷ row register register number  -- load
    ∷ row register register number  -- store
    ∷ row unused unused number  -- jump
    ∷ row register unused number  -- if equal
    ∷ row register register number  -- if less
    ∷ []

-- ---- Q7 by the rows

abbrev pub agrees : Row → ℕ → ℕ → ℕ → Bool
agrees r a b c = allows r.a a and allows r.b b and allows r.c c

unfoldable pub formed_by : ℕ → Row → Bool
formed_by w r = agrees r (a_of w) (b_of w) (c_of w)

-- the answer of the row that a word's opcode has; no where it has none
unfoldable pub by_rows : List Row → ℕ → Bool
by_rows rows w = get_or (map (formed_by w) rows) (opcode_of w) false

-- ---- what is stated

pub record RowsAre01 : Type 0 where
  -- 'Q7 follows from the word and its row alone, shown to be 01's rule for every 32-bit word': for every number, in both directions
  pub same : (w : ℕ) → by_rows use_rows w ≡ well_formed w
  -- an opcode past the rows is refused
  pub past : (w : ℕ) → length use_rows ≤ opcode_of w → by_rows use_rows w ≡ false
  -- no other rows are 01's rule, so that each part of each row must be as it is; an opcode is below 256, so more rows are never read
  pub only : (rows : List Row) → length rows ≤ 256 → ((w : ℕ) → w < 2 ^ 32 → by_rows rows w ≡ well_formed w) → rows ≡ use_rows
