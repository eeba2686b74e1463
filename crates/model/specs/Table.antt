-- The tables: rows, well-made words, where blocks start, and the questions of tables alone: Q1 to Q6, Q16 and Q17.
use Rattle.std.specs.Prelude.{Bool, not, List, [], ◌∷◌, ℕ, zero, suc, ◌+◌, ◌*◌, ◌/◌, ◌%◌, ltb, leb, eqb, length, get_or, take, drop}
use Rattle.model.specs.Question.{◌and◌, ◌or◌, pick, every, q1, q2, q3, q4, q5, q6, q16, q17, refusal}
use Rattle.model.specs.Question.{Outcome, ask, asked, in_order, first_no}
use Rattle.model.specs.Word.{kind_of, locked_of, record_of, first_of, second_of}
use Rattle.model.specs.Types.{Ty, type_of}

-- ---- the bounds of document 01

-- 01: 'Record types: 1 to 64 rows of 9 words'
abbrev pub types_most : ℕ
types_most = 64

-- 01: 'Tags: 0 to 64 words'
abbrev pub tags_most : ℕ
tags_most = 64

-- 01: 'Blocks: 1 to 256 rows of 9 words'
abbrev pub blocks_most : ℕ
blocks_most = 256

-- 01: 'Code: 1 to 8,192 instructions'
abbrev pub code_most : ℕ
code_most = 8192

-- 01: 'Allocations: 0 to 4,096 rows of 2 words'
abbrev pub allocations_most : ℕ
allocations_most = 4096

-- 01: 'Memory: 1 to 16,384 words'
abbrev pub memory_most : ℕ
memory_most = 16384

-- 01: 'field count n (1 to 8)'
abbrev pub fields_most : ℕ
fields_most = 8

-- 01: 'then 8 type words'
abbrev pub type_words : ℕ
type_words = 8

-- 01: 'length 1 to 32'
abbrev pub length_most : ℕ
length_most = 32

-- 01: 'Eight registers r0 to r7'
abbrev pub register_count : ℕ
register_count = 8

-- ---- rows

-- 01: 'a table row is handed back as a part of that table': nine words, a number and eight type words
unfoldable pub row_of : List ℕ → ℕ → List ℕ
row_of table k = take 9 (drop (k * 9) table)

abbrev pub rows : List ℕ → ℕ
rows table = length table / 9

-- the number of a row: a field count, or a block's length
abbrev pub head_of : List ℕ → ℕ → ℕ
head_of table k = get_or (row_of table k) 0 0

-- the type words of a row
abbrev pub words_of : List ℕ → ℕ → List ℕ
words_of table k = drop 1 (row_of table k)

-- ---- what is read of the type and tag tables

-- 01: 'field count n (1 to 8), then 8 type words'; 'the word at place k is the record type that tag k stands for'
pub record Tables : Type 0 where
  pub count : ℕ
  pub size : ℕ → ℕ
  pub words : ℕ → List ℕ
  pub tags : List ℕ

unfoldable pub tables_of : List ℕ → List ℕ → Tables
tables_of types tags = record { count = rows types; size = λ t. head_of types t; words = λ t. words_of types t; tags = tags }

-- the type of field f of a record of type t
abbrev pub field_of : Tables → ℕ → ℕ → Ty
field_of 𝒯 t f = type_of (get_or (𝒯.words t) f 0)

-- 02, card 1: 'Bit 31 of a record's type word now marks a field locked', of field f of a record of type t
unfoldable pub locked : Tables → ℕ → ℕ → Bool
locked 𝒯 t f = locked_of (get_or (𝒯.words t) f 0)

-- ---- what is read of the block and code tables

-- the tables of a routine
pub record Code : Type 0 where
  pub blocks : List ℕ
  pub code : List ℕ

abbrev pub code_of : List ℕ → List ℕ → Code
code_of blocks code = record { blocks = blocks; code = code }

-- 01: 'length 1 to 32, then the annotation, type words of r0 to r7. Blocks cover the code in order, without gaps'
pub record Routine : Type 0 where
  pub count : ℕ
  pub long : ℕ → ℕ
  pub start : ℕ → ℕ
  pub annotation : ℕ → List ℕ
  pub part : ℕ → List ℕ
  pub total : ℕ

-- the code index of a block's first instruction
unfoldable pub start_of : List ℕ → ℕ → ℕ
start_of blocks zero = 0
start_of blocks (suc b) = start_of blocks b + head_of blocks b

unfoldable pub routine_of : Code → Routine
routine_of C =
    record {
      count = rows C.blocks;
      long = λ b. head_of C.blocks b;
      start = λ b. start_of C.blocks b;
      annotation = λ b. words_of C.blocks b;
      part = λ b. take (head_of C.blocks b) (drop (start_of C.blocks b) C.code);
      total = length C.code;
    }

-- the instruction at offset j is the last of block b
abbrev pub last_at : Routine → ℕ → ℕ → Bool
last_at P b j = eqb (suc j) (P.long b)

-- ---- Q1, a matter of lengths alone. Its place has the table: 0 types, 1 tags, 2 blocks, 3 code.

-- whole rows of nine words, from one row to so many
abbrev pub whole_rows : ℕ → ℕ → Bool
whole_rows most n = eqb (n % 9) 0 and leb 9 n and leb n (9 * most)

-- 01: 'Are lengths whole rows within bounds?', of types and tags
unfoldable pub type_lengths_ask : ℕ → ℕ → Outcome (Unit {0})
type_lengths_ask types tags =
    ask (whole_rows types_most types) (refusal q1 0 0) λ _.
    asked (leb tags tags_most) (refusal q1 1 0)

-- the same of blocks and code
unfoldable pub code_lengths_ask : ℕ → ℕ → Outcome (Unit {0})
code_lengths_ask blocks code =
    ask (whole_rows blocks_most blocks) (refusal q1 2 0) λ _.
    asked (leb 1 code and leb code code_most) (refusal q1 3 0)

-- ---- Q2

unfoldable pub count_ask : Tables → ℕ → Outcome (Unit {0})
count_ask 𝒯 t = asked (leb 1 (𝒯.size t) and leb (𝒯.size t) fields_most) (refusal q2 t 0)

-- ---- Q3. 01: 'Parts a kind does not use are zero'

abbrev pub uses_record : ℕ → Bool
uses_record kind = eqb kind 1 or eqb kind 2 or leb 6 kind

abbrev pub uses_first : ℕ → Bool
uses_first kind = leb 3 kind

abbrev pub uses_second : ℕ → Bool
uses_second kind = leb 6 kind

-- a dependency byte is a name below n, or a constant
abbrev pub dependency : ℕ → ℕ → Bool
dependency n x = ltb x n or leb 8 x

-- Kinds 0 to 8, record types below count, names below n. 02, card 1: 'Q3 allows the mark', which is no part of the kind
unfoldable pub well_made : ℕ → ℕ → ℕ → Bool
well_made count n w =
    leb (kind_of w) 8
    and pick (uses_record (kind_of w)) (ltb (record_of w) count) (eqb (record_of w) 0)
    and pick (uses_first (kind_of w)) (dependency n (first_of w)) (eqb (first_of w) 0)
    and pick (uses_second (kind_of w)) (dependency n (second_of w)) (eqb (second_of w) 0)

-- the word of field f, or a word past the fields
unfoldable pub field_well : Tables → ℕ → ℕ → Bool
field_well 𝒯 t f = pick (ltb f (𝒯.size t)) (well_made 𝒯.count (𝒯.size t) (get_or (𝒯.words t) f 0)) (eqb (get_or (𝒯.words t) f 0) 0)

unfoldable pub fields_ask : Tables → ℕ → Outcome (Unit {0})
fields_ask 𝒯 t = asked (every type_words 0 (field_well 𝒯 t)) (refusal q3 t 0)

-- ---- Q4

unfoldable pub tag_ask : Tables → ℕ → Outcome (Unit {0})
tag_ask 𝒯 k = asked (ltb (get_or 𝒯.tags k 0) 𝒯.count) (refusal q4 k 0)

-- Q2 to Q4, each over all rows before the next
abbrev pub types_questions : List ℕ → List ℕ → List (Outcome (Unit {0}))
types_questions types tags =
    first_no (rows types) 0 (count_ask (tables_of types tags))
    ∷ first_no (rows types) 0 (fields_ask (tables_of types tags))
    ∷ first_no (length tags) 0 (tag_ask (tables_of types tags))
    ∷ []

unfoldable pub types_ask : List ℕ → List ℕ → Outcome (Unit {0})
types_ask types tags = in_order (types_questions types tags)

-- ---- Q5. 01: 'at the first bad length or first row past the code; if short, at the block count'

-- n rows from row b on, which starts at code index i
unfoldable pub blocks_ask : List ℕ → ℕ → ℕ → ℕ → ℕ → Outcome (Unit {0})
blocks_ask blocks total zero b i = asked (eqb i total) (refusal q5 b 0)
blocks_ask blocks total (suc n) b i =
    ask (leb 1 (head_of blocks b) and leb (head_of blocks b) length_most and leb (i + head_of blocks b) total) (refusal q5 b 0) λ _.
    blocks_ask blocks total n (suc b) (i + head_of blocks b)

unfoldable pub lengths_ask : List ℕ → ℕ → Outcome (Unit {0})
lengths_ask blocks total = blocks_ask blocks total (rows blocks) 0 0

-- ---- Q6

-- 02, card 1: 'Q3 allows the mark, Q6 does not'
unfoldable pub annotation_well : ℕ → ℕ → Bool
annotation_well count w = not (locked_of w) and well_made count register_count w

unfoldable pub annotation_ask : ℕ → List ℕ → ℕ → Outcome (Unit {0})
annotation_ask count blocks b = asked (every register_count 0 (λ r. annotation_well count (get_or (words_of blocks b) r 0))) (refusal q6 b 0)

unfoldable pub annotations_ask : ℕ → List ℕ → Outcome (Unit {0})
annotations_ask count blocks = first_no (rows blocks) 0 (annotation_ask count blocks)

-- ---- Q1 to Q6 of a routine

-- 01: 'Each of Q1 to Q6 runs over all rows before the next'
abbrev pub table_questions : List ℕ → List ℕ → Code → List (Outcome (Unit {0}))
table_questions types tags C =
    type_lengths_ask (length types) (length tags)
    ∷ code_lengths_ask (length C.blocks) (length C.code)
    ∷ types_ask types tags
    ∷ lengths_ask C.blocks (length C.code)
    ∷ annotations_ask (rows types) C.blocks
    ∷ []

unfoldable pub tables_ask : List ℕ → List ℕ → Code → Outcome (Unit {0})
tables_ask types tags C = in_order (table_questions types tags C)

-- ---- Q16 and Q17. 01: '0, 0 for 16 and 17 in every call'

unfoldable pub start_ask : List ℕ → ℕ → Outcome (Unit {0})
start_ask blocks b = asked (ltb b (rows blocks)) (refusal q16 0 0)

-- 01: 'Memory: 1 to 16,384 words'
unfoldable pub memory_length_ask : ℕ → Outcome (Unit {0})
memory_length_ask n = asked (leb 1 n and leb n memory_most) (refusal q17 0 0)
