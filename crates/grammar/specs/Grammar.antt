-- The line protocol as data: a row for each request. A row is a name and the parts that follow it.
use Rattle.std.specs.Prelude.{Bool, true, false, List, [], ◌∷◌, ℕ, zero, suc, ◌+◌, ◌*◌, ◌/◌, ◌-◌, ltb, eqb, get_or, Option, None, Some, ◌==◌, find}
use Rattle.std.specs.List.{list_any}
use Prim.Native.String.{String}
use Rattle.model.specs.Question.{pick}
use Rattle.grammar.specs.declared.Form.{Form}
use Rattle.grammar.specs.declared.Form.TheVariants.{Check, Memory, Entry, Run}
use Rattle.grammar.specs.declared.Part.{Part}
use Rattle.grammar.specs.declared.Part.TheVariants.{Done, Table, Long, Words}
use Rattle.grammar.specs.Codes.{codes}

-- ---- how much a line may hold

-- the words of all its tables together
abbrev pub pool : ℕ
pool = 135168

-- the parts of a row, the parts of them that are words, and the long numbers
abbrev pub row_length : ℕ
row_length = 8

abbrev pub parts_most : ℕ
parts_most = 7

abbrev pub longs_most : ℕ
longs_most = 1

-- a word, and a long number, are below these
abbrev pub word_end : ℕ
word_end = 4294967296

abbrev pub long_end : ℕ
long_end = 18446744073709551616

-- ---- parts

-- whether a part is a count, and so many words; whether it is one number below 2^64
abbrev pub is_table : Part → Bool
is_table Table = true
is_table Done = false
is_table Long = false
is_table (Words k) = false

abbrev pub is_long : Part → Bool
is_long Long = true
is_long Done = false
is_long Table = false
is_long (Words k) = false

-- the words that a part has before any count is read
abbrev pub given : Part → ℕ
given (Words k) = k
given Done = 0
given Table = 0
given Long = 0

-- ---- what may stand in a part, of which so many words are left, where so many of the pool are used

-- a number here must be below this; nothing is below 0, where the line wants no number
unfoldable pub bound : Part → ℕ → ℕ → ℕ
bound kind left used =
    pick (ltb 0 left) word_end
    (pick (is_table kind) (pool + 1 - used)
    (pick (is_long kind) long_end
    0))

-- the largest number below that
abbrev pub below : ℕ → Option ℕ
below zero = None
below (suc n) = Some n

-- whether a number is wanted
unfoldable pub wanted : Part → ℕ → Bool
wanted kind left = pick (ltb 0 left) true (pick (is_table kind) true (is_long kind))

-- ---- requests

-- letters as one number, the last counting least, so that no name is longer than seven
abbrev pub spelt : ℕ → List ℕ → ℕ
spelt n [] = n
spelt n (b ∷ bs) = spelt (n * 256 + b) bs

-- a name as its letters
abbrev pub name : String → ℕ
name s = spelt 0 (codes s)

-- the requests, and the name of each
abbrev pub requests : List Form
requests = Check ∷ Memory ∷ Entry ∷ Run ∷ []

abbrev pub name_of : Form → ℕ
name_of Check = name "check"
name_of Memory = name "memory"
name_of Entry = name "entry"
name_of Run = name "run"

-- a row is held in so many places
abbrev pub filled : ℕ → List Part → List Part
filled zero ps = []
filled (suc n) [] = Done ∷ filled n []
filled (suc n) (p ∷ ps) = p ∷ filled n ps

-- TYPES TAGS BLOCKS CODE OFFERED; TYPES TAGS ALLOCATIONS MEMORY; TYPES TAGS ALLOCATIONS MEMORY BLOCKS CODE BLOCK R0 .. R7;
-- BLOCKS CODE MEMORY BLOCK R0 .. R7 BUDGET
unfoldable pub row_of : Form → List Part
row_of Check = filled row_length (Table ∷ Table ∷ Table ∷ Table ∷ Table ∷ [])
row_of Memory = filled row_length (Table ∷ Table ∷ Table ∷ Table ∷ [])
row_of Entry = filled row_length (Table ∷ Table ∷ Table ∷ Table ∷ Table ∷ Table ∷ Words 9 ∷ [])
row_of Run = filled row_length (Table ∷ Table ∷ Table ∷ Words 9 ∷ Long ∷ [])

-- the part at a place of a request's row
unfoldable pub part_at : Form → ℕ → Part
part_at form part = get_or (row_of form) part Done

-- whether a part is words
unfoldable pub is_words : Part → Bool
is_words part = pick (is_table part) true (ltb 0 (given part))

-- how many parts of a row are words, and how many are long numbers
unfoldable pub word_parts : List Part → ℕ
word_parts [] = 0
word_parts (p ∷ ps) = pick (is_words p) (suc (word_parts ps)) (word_parts ps)

unfoldable pub long_parts : List Part → ℕ
long_parts [] = 0
long_parts (p ∷ ps) = pick (is_long p) (suc (long_parts ps)) (long_parts ps)

-- letters that begin a name: the name, cut after some letter, is that number; no letters are no beginning
unfoldable pub begins : ℕ → ℕ → ℕ → Bool
begins zero n c = false
begins (suc k) n c = pick (eqb n c) (ltb 0 c) (begins k (n / 256) c)

-- letters that begin one of the names
unfoldable pub begun : ℕ → Bool
begun c = list_any (λ f. begins 8 (name_of f) c) requests

-- the request with a name
unfoldable pub named : ℕ → Option Form
named c = find (λ f. name_of f == c) requests
