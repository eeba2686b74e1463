-- What a line says.
use Rattle.std.specs.Prelude.{◌≡◌, ℕ, ◌-◌, ◌≤◌, List, [], ◌∷◌, length, take, drop, replicate}
use Rattle.grammar.specs.declared.Form.{Form}
use Rattle.grammar.specs.Grammar.{pool, parts_most, longs_most, row_of, word_parts, long_parts}
use Rattle.grammar.specs.declared.Phase.{Phase}
use Rattle.grammar.specs.declared.Phase.TheVariants.{Gap, Malformed}
use Rattle.reader.specs.Reader.{Reader, reader_over, fresh_line, reads, at_end}

-- nothing, for an empty line or a comment; malformed at a byte; a request: its row, its parts of words, its long numbers
pub data Said : Type 0 where
  nothing : Said
  malformed_at : ℕ → Said
  request : Form → List (List ℕ) → List ℕ → Said

-- what lies from a place to another
abbrev pub slice : ℕ → ℕ → List ℕ → List ℕ
slice from to xs = take (to - from) (drop from xs)

-- the parts of words, each from the end of the one before it to its own
abbrev pub cuts : ℕ → List ℕ → List ℕ → List (List ℕ)
cuts from [] xs = []
cuts from (to ∷ ends) xs = slice from to xs ∷ cuts to ends xs

-- those of a pool of words, of which so many ends are marked
abbrev pub parts_in : (words ends : List ℕ) → (marked : ℕ) → List (List ℕ)
parts_in words ends marked = cuts 0 (take marked ends) words

abbrev pub parts_of : Reader → List (List ℕ)
parts_of r = parts_in r.words r.ends r.line.marked

-- of a line at its end
abbrev pub said_in : Phase → Reader → Said
said_in Malformed r = malformed_at r.line.stop
said_in Gap r = request r.line.form (parts_of r) (take r.line.stored r.longs)
said_in _ r = nothing

unfoldable pub said : Reader → Said
said r = said_in r.line.phase r

-- before a line
unfoldable pub start : Reader
start = reader_over fresh_line (replicate pool 0) (replicate parts_most 0) (replicate longs_most 0)

-- what the bytes of a line say
unfoldable pub line_says : List ℕ → Said
line_says bytes = said (at_end (reads start bytes))

-- ---- what is proved of it

-- ends from one place to another, none before the one before it
unfoldable pub InOrder : ℕ → List ℕ → ℕ → Type 0
InOrder from [] to = from ≤ to
InOrder from (e ∷ es) to = (from ≤ e) × InOrder e es to

-- a request has all the parts of its row, one after the other in the pool
pub record Whole (r : Reader) : Type 0 where
  pub parts : r.line.marked ≡ word_parts (row_of r.line.form)
  pub longs : r.line.stored ≡ long_parts (row_of r.line.form)
  pub ordered : InOrder 0 (take r.line.marked r.ends) r.line.used
  pub held : r.line.used ≤ pool

abbrev pub RequestsWhole : Type 0
RequestsWhole =
    (bytes w e n : List ℕ) → length e ≡ parts_most
    → (at_end (reads (reader_over fresh_line w e n) bytes)).line.phase ≡ Gap
    → Whole (at_end (reads (reader_over fresh_line w e n) bytes))

-- a line says the same whatever an earlier one has left in the pools
abbrev pub PoolsForgotten : Type 0
PoolsForgotten =
    (bytes w e n : List ℕ) → length w ≡ pool → length e ≡ parts_most → length n ≡ longs_most
    → said (at_end (reads (reader_over fresh_line w e n) bytes)) ≡ line_says bytes
