-- 01: 'Plots on trial': the cases marked *, and what document 02 adds to them, gathered under one statement; it is proved in
-- proofs/Answers.antt.
use Rattle.std.specs.Prelude.{◌≡◌, List, [], ◌∷◌, ◌++◌, ℕ, ◌+◌, ◌*◌, ◌^◌}
use Rattle.model.specs.declared.Verdict.{Verdict}
use Rattle.model.specs.Table.{tables_of, code_of}
use Rattle.model.specs.Machine.{effect, put, move, multiply, divide}
use Rattle.model.specs.Reading.{moved_word}
use Rattle.model.specs.Check.{check}

-- ---- words

abbrev pub type_word : ℕ → ℕ → ℕ → ℕ → ℕ
type_word kind t d e = kind * 2 ^ 24 + t * 2 ^ 16 + d * 2 ^ 8 + e

abbrev pub constant_byte : ℕ → ℕ
constant_byte c = c + 8

abbrev pub any_word : ℕ
any_word = 0

abbrev pub ref_word : ℕ → ℕ
ref_word t = type_word 1 t 0 0

abbrev pub maybe_word : ℕ → ℕ
maybe_word t = type_word 2 t 0 0

abbrev pub tagged_word : ℕ → ℕ
tagged_word d = type_word 3 0 d 0

abbrev pub present_word : ℕ → ℕ
present_word d = type_word 4 0 d 0

abbrev pub same_word : ℕ → ℕ
same_word d = type_word 5 0 d 0

abbrev pub run_word : ℕ → ℕ → ℕ → ℕ
run_word t d e = type_word 6 t d e

abbrev pub from_word : ℕ → ℕ → ℕ → ℕ
from_word t d e = type_word 7 t d e

abbrev pub in_word : ℕ → ℕ → ℕ → ℕ
in_word t d e = type_word 8 t d e

abbrev pub instruction : ℕ → ℕ → ℕ → ℕ → ℕ
instruction opcode a b c = opcode * 2 ^ 24 + a * 2 ^ 20 + b * 2 ^ 16 + c

abbrev pub halt_word : ℕ
halt_word = instruction 0 0 0 0

abbrev pub constant_word : ℕ → ℕ → ℕ
constant_word a c = instruction 1 a 0 c

abbrev pub subtract_word : ℕ → ℕ → ℕ → ℕ
subtract_word a b c = instruction 4 a b c

abbrev pub multiply_word : ℕ → ℕ → ℕ → ℕ
multiply_word a b c = instruction 5 a b c

abbrev pub divide_word : ℕ → ℕ → ℕ → ℕ
divide_word a b c = instruction 6 a b c

abbrev pub move_word : ℕ → ℕ → ℕ → ℕ
move_word a b c = instruction 7 a b c

abbrev pub load_word : ℕ → ℕ → ℕ → ℕ
load_word a b c = instruction 8 a b c

abbrev pub store_word : ℕ → ℕ → ℕ → ℕ
store_word a b c = instruction 9 a b c

abbrev pub jump_word : ℕ → ℕ
jump_word t = instruction 10 0 0 t

abbrev pub if_equal_word : ℕ → ℕ → ℕ → ℕ
if_equal_word a k t = instruction 11 a 0 (k * 256 + t)

abbrev pub if_less_word : ℕ → ℕ → ℕ → ℕ
if_less_word a b t = instruction 12 a b t

-- a row of a field count or a length, and eight type words
abbrev pub row : ℕ → ℕ → ℕ → ℕ → ℕ → ℕ → ℕ → ℕ → ℕ → List ℕ
row n w0 w1 w2 w3 w4 w5 w6 w7 = n ∷ w0 ∷ w1 ∷ w2 ∷ w3 ∷ w4 ∷ w5 ∷ w6 ∷ w7 ∷ []

abbrev pub verdict : ℕ → ℕ → ℕ → Verdict
verdict number first second = record { number = number; first = first; second = second }

-- ---- tables

-- 01: 'Type 0 raw (Any weight, Any moisture); type 1 corrected (Any); type 2 plot (Any stage, Tagged field 0). Tags: 0, 1'
abbrev pub plot_types : List ℕ
plot_types = row 2 0 0 0 0 0 0 0 0 ++ row 1 0 0 0 0 0 0 0 0 ++ row 2 any_word (tagged_word 0) 0 0 0 0 0 0

abbrev pub plot_tags : List ℕ
plot_tags = 0 ∷ 1 ∷ []

-- the check of a routine over these types and tags
abbrev pub plot_check : List ℕ → List ℕ → Verdict
plot_check blocks code = check plot_types plot_tags (code_of blocks code)

-- 01: 'Block 0, r1 Ref 2 .. Block 2, r3 Tagged constant 1 .. Block 3, r3 Ref', of a type left open
abbrev pub stage_blocks : ℕ → List ℕ
stage_blocks t =
    row 3 0 (ref_word 2) 0 0 0 0 0 0
    ++ row 1 0 0 0 0 0 0 0 0
    ++ row 1 0 0 0 (tagged_word (constant_byte 1)) 0 0 0 0
    ++ row 2 0 0 0 (ref_word t) 0 0 0 0

abbrev pub stage_code : List ℕ
stage_code = load_word 2 1 0 ∷ load_word 3 1 1 ∷ if_equal_word 2 1 2 ∷ halt_word ∷ if_equal_word 3 0 1 ∷ load_word 4 3 0 ∷ halt_word ∷ []

-- 01: 'r1 Ref 2, r4 Ref 1, r5 Same constant 1', with a type for r6
abbrev pub store_block : ℕ → ℕ → List ℕ
store_block n r6 = row n 0 (ref_word 2) 0 0 (ref_word 1) (same_word (constant_byte 1)) r6 0

-- r1 Run of type 0 from r2 to r3; block 2 wants In
abbrev pub below_blocks : List ℕ
below_blocks = row 1 0 (run_word 0 2 3) 0 0 0 0 0 0 ++ row 1 0 0 0 0 0 0 0 0 ++ row 1 0 (in_word 0 2 3) 0 0 0 0 0 0

-- r1 Run of type 0 from r2 to r3, and so wants block 1
abbrev pub move_blocks : List ℕ
move_blocks = row 2 0 (run_word 0 2 3) 0 0 0 0 0 0 ++ row 1 0 (run_word 0 2 3) 0 0 0 0 0 0

abbrev pub three_types : List ℕ
three_types = row 3 0 0 0 0 0 0 0 0

-- the type word after opcode 7 by c, of records of three words
abbrev pub three_moved : ℕ → ℕ → ℕ
three_moved w c = moved_word (tables_of three_types []) w c

-- r1 of type word w is moved by three, and block 1 wants v of it
abbrev pub three_on_check : ℕ → ℕ → Verdict
three_on_check w v =
    check three_types [] (code_of (row 2 0 w 0 0 0 0 0 0 ++ row 1 0 v 0 0 0 0 0 0) (move_word 1 1 3 ∷ jump_word 1 ∷ halt_word ∷ []))

-- 02: 'Our new plot record has three fields', here weight, moisture and corrected weight. r1 is In the run of them from r2 to r3; each gets
-- its corrected weight, weight * (100 - moisture) / 86.
abbrev pub three_walk : List ℕ
three_walk =
    load_word 4 1 0 ∷ load_word 5 1 1 ∷ constant_word 6 100 ∷ subtract_word 5 6 5 ∷ multiply_word 4 4 5 ∷ divide_word 4 4 86 ∷ store_word 4 1 2
    ∷ move_word 1 1 3 ∷ if_less_word 1 3 0 ∷ halt_word ∷ []

abbrev pub three_walk_blocks : List ℕ
three_walk_blocks = row 9 0 (in_word 0 2 3) 0 0 0 0 0 0 ++ row 1 0 0 0 0 0 0 0 0

-- ---- the cases

pub record Cases : Type 0 where
  pub untested_pointer : plot_check (row 3 0 (ref_word 2) 0 0 0 0 0 0) (load_word 2 1 1 ∷ load_word 3 2 0 ∷ halt_word ∷ []) ≡ verdict 10 0 1
  pub tested_pointer : plot_check (stage_blocks 1) stage_code ≡ verdict 0 0 0
  pub other_type : plot_check (stage_blocks 0) stage_code ≡ verdict 15 2 4
  pub both_stores : plot_check (store_block 3 any_word) (store_word 5 1 0 ∷ store_word 4 1 1 ∷ halt_word ∷ []) ≡ verdict 0 0 0
  pub one_store : plot_check (store_block 2 any_word) (store_word 5 1 0 ∷ halt_word ∷ []) ≡ verdict 13 0 1
  pub other_base : plot_check (store_block 4 (ref_word 2)) (store_word 5 1 0 ∷ load_word 7 6 0 ∷ store_word 4 1 1 ∷ halt_word ∷ []) ≡ verdict 12 0 1
  pub below_alone : plot_check below_blocks (if_less_word 1 3 2 ∷ halt_word ∷ halt_word ∷ []) ≡ verdict 14 0 0
  pub two_back : moved_word (tables_of plot_types plot_tags) (run_word 0 2 3) 65534 ≡ run_word 0 2 3
  pub two_back_meets : plot_check move_blocks (move_word 1 1 65534 ∷ jump_word 1 ∷ halt_word ∷ []) ≡ verdict 0 0 0
  pub three_on : moved_word (tables_of plot_types plot_tags) (run_word 0 2 3) 3 ≡ any_word
  pub three_on_misses : plot_check move_blocks (move_word 1 1 3 ∷ jump_word 1 ∷ halt_word ∷ []) ≡ verdict 14 0 1
  pub size_three : three_moved (run_word 0 2 3) 3 ≡ any_word
  pub size_three_misses : three_on_check (run_word 0 2 3) (run_word 0 2 3) ≡ verdict 14 0 1
  -- 02, card 2: '01's case "Size 3: + 3 is Any" stays for Run and From, and gains its In partner'
  pub from_size_three : three_moved (from_word 0 2 3) 3 ≡ any_word
  pub from_size_three_misses : three_on_check (from_word 0 2 3) (run_word 0 2 3) ≡ verdict 14 0 1
  pub in_size_three : three_moved (in_word 0 2 3) 3 ≡ from_word 0 2 3
  pub in_size_three_meets : three_on_check (in_word 0 2 3) (from_word 0 2 3) ≡ verdict 0 0 0
  -- it is From and not In
  pub in_size_three_misses : three_on_check (in_word 0 2 3) (in_word 0 2 3) ≡ verdict 14 0 1
  -- by one size alone, and not back
  pub in_size_three_twice : three_moved (in_word 0 2 3) 6 ≡ any_word
  pub in_size_three_back : three_moved (in_word 0 2 3) 65533 ≡ any_word
  -- 'before the older rule', which is asked of every other c
  pub in_size_two : moved_word (tables_of plot_types plot_tags) (in_word 0 2 3) 2 ≡ from_word 0 2 3
  pub in_size_two_twice : moved_word (tables_of plot_types plot_tags) (in_word 0 2 3) 4 ≡ run_word 0 2 3
  -- 'no routine can walk a run of them': this one does, and stores into each
  pub three_walked : check three_types [] (code_of three_walk_blocks three_walk) ≡ verdict 0 0 0
  pub zero_less_one : effect (move 0 1 65535) (0 ∷ 0 ∷ []) ≡ put 0 4294967295
  pub wrapped_product : effect (multiply 0 1 1) (0 ∷ 65536 ∷ []) ≡ put 0 0
  pub half_of_seven : effect (divide 0 1 2) (0 ∷ 7 ∷ []) ≡ put 0 3
  pub corrected : effect (multiply 0 1 2) (0 ∷ 8600 ∷ 78 ∷ []) ≡ put 0 670800
  pub corrected_weight : effect (divide 0 1 86) (0 ∷ 670800 ∷ []) ≡ put 0 7800
