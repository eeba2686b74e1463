-- Lines and what they say, gathered under one statement; it is proved in proofs/Examples.antt.
use Rattle.std.specs.Prelude.{◌≡◌, ℕ, List, [], ◌∷◌, ◌++◌}
use Prim.Native.String.{String}
use Rattle.grammar.specs.Codes.{codes}
use Rattle.grammar.specs.declared.Form.TheVariants.{Check, Memory, Entry, Run}
use Rattle.grammar.specs.Grammar.{row_of, word_parts, long_parts}
use Rattle.reader.specs.Reader.{Reader, reads}
use Rattle.protocol.specs.Said.{Said, nothing, malformed_at, request, line_says}

abbrev pub Says : String → Said → Type 0
Says line s = line_says (codes line) ≡ s

pub record Examples : Type 0 where
  -- lines that are passed over
  pub empty : Says "" nothing
  pub blanks : Says " \t  " nothing
  pub comment : Says "# check 0x" nothing
  pub indented : Says "  # 1" nothing
  -- a line of each request, decimal and hexadecimal
  pub check : Says "check 2 7 0x1F 0 0 1 007 1 0x8" (request Check ((7 ∷ 31 ∷ []) ∷ [] ∷ [] ∷ (7 ∷ []) ∷ (8 ∷ []) ∷ []) [])
  pub memory : Says "memory 0 0x0 1 4294967295 1 0xffffFFFF" (request Memory ([] ∷ [] ∷ (4294967295 ∷ []) ∷ (4294967295 ∷ []) ∷ []) [])
  pub entry :
      Says "entry 0 0 0 1 6 1 5 0 3 10 11 12 0xd 14 15 16 17"
      (request Entry ([] ∷ [] ∷ [] ∷ (6 ∷ []) ∷ (5 ∷ []) ∷ [] ∷ (3 ∷ 10 ∷ 11 ∷ 12 ∷ 13 ∷ 14 ∷ 15 ∷ 16 ∷ 17 ∷ []) ∷ []) [])
  pub run :
      Says "run 1 5 0 1 8 0 1 2 3 4 5 6 7 8 18446744073709551615"
      (request Run ((5 ∷ []) ∷ [] ∷ (8 ∷ []) ∷ (0 ∷ 1 ∷ 2 ∷ 3 ∷ 4 ∷ 5 ∷ 6 ∷ 7 ∷ 8 ∷ []) ∷ []) (18446744073709551615 ∷ []))
  pub spaced : Says " check\t0  0 0\t0 0 \r" (request Check ([] ∷ [] ∷ [] ∷ [] ∷ [] ∷ []) [])
  -- names
  pub nul : line_says (0 ∷ codes "check 0 0 0 0 0") ≡ malformed_at 0
  pub unknown : Says "Check 0 0 0 0 0" (malformed_at 0)
  pub name_short : Says "chec 0 0 0 0 0" (malformed_at 4)
  pub name_cut : Says "chec" (malformed_at 4)
  pub name_long : Says "checks 0 0 0 0 0" (malformed_at 5)
  -- numbers
  pub word_large : Says "check 1 4294967296 0 0 0 0" (malformed_at 17)
  pub hex_large : Says "check 1 0x100000000 0 0 0 0" (malformed_at 18)
  pub long_large : Says "run 0 0 0 0 0 0 0 0 0 0 0 0 18446744073709551616" (malformed_at 47)
  pub table_large : Says "check 135169" (malformed_at 11)
  pub prefix_alone : Says "check 0x 0 0 0 0" (malformed_at 8)
  pub prefix_last : Says "check 0 0 0 0 0x" (malformed_at 16)
  pub prefix_letter : Says "check 0xg" (malformed_at 8)
  pub prefix_late : Says "check 00x1" (malformed_at 8)
  pub prefix_capital : Says "check 0X1" (malformed_at 7)
  pub letter : Says "check a" (malformed_at 6)
  -- too few and too many
  pub too_few : Says "check 0 0 0 0" (malformed_at 13)
  pub table_short : Says "check 0 0 0 0 2 1" (malformed_at 17)
  pub left_over : Says "check 0 0 0 0 0 0" (malformed_at 16)
  -- the parts of the rows
  pub check_parts : word_parts (row_of Check) ≡ 5
  pub memory_parts : word_parts (row_of Memory) ≡ 4
  pub entry_parts : word_parts (row_of Entry) ≡ 7
  pub run_parts : word_parts (row_of Run) ≡ 4
  pub run_longs : long_parts (row_of Run) ≡ 1
  -- however the bytes are cut
  pub cut : (r : Reader) (xs ys : List ℕ) → reads (reads r xs) ys ≡ reads r (xs ++ ys)
