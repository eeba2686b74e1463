-- What wrong readings of 01 and 02 would get wrong: routines, memories and runs with their right answers, under one statement; it is
-- proved in proofs/Answers.antt.
use Rattle.std.specs.Prelude.{◌≡◌, List, [], ◌∷◌, ◌++◌, ℕ, ◌^◌}
use Rattle.model.specs.Table.{code_of}
use Rattle.model.specs.Machine.{if_less, next, enter, Run, run, ready}
use Rattle.model.specs.Check.{check}
use Rattle.model.specs.MemoryCheck.{memory_check}
use Rattle.model.specs.Cases.{constant_byte, ref_word, maybe_word, tagged_word, same_word, run_word, from_word, in_word, instruction, halt_word}
use Rattle.model.specs.Cases.{constant_word, move_word, load_word, store_word, jump_word, if_equal_word, if_less_word, row, verdict, plot_types}
use Rattle.model.specs.Cases.{plot_tags, plot_check}

-- Blocks 1 to 3 of most cases: r3 is taken for a reference to a raw record where it is Tagged of tag 0 and not 0, and its second
-- field is loaded, which a corrected record does not have.
abbrev pub tail_blocks : List ℕ
tail_blocks = row 1 0 0 0 0 0 0 0 0 ++ row 1 0 0 0 (tagged_word (constant_byte 0)) 0 0 0 0 ++ row 2 0 0 0 (ref_word 0) 0 0 0 0

abbrev pub tail_code : List ℕ
tail_code = halt_word ∷ if_equal_word 3 0 1 ∷ load_word 7 3 1 ∷ halt_word ∷ []

-- block 0: r1 and r6 hold plots, r4 a corrected weight, r5 a constant
abbrev pub plot_blocks : ℕ → ℕ → List ℕ
plot_blocks n c = row n 0 (ref_word 2) 0 0 (ref_word 1) (same_word (constant_byte c)) (ref_word 2) 0 ++ tail_blocks

abbrev pub copy_word : ℕ → ℕ → ℕ
copy_word a b = instruction 2 a b 0

-- one record type of two words
abbrev pub pair_types : List ℕ
pair_types = row 2 0 0 0 0 0 0 0 0

-- type 0 of one word; type 1 with two bounds and a pointer of the run of type 0 between them
abbrev pub span_types : ℕ → List ℕ
span_types pointer = row 1 0 0 0 0 0 0 0 0 ++ row 3 0 0 pointer 0 0 0 0 0

-- r7 is r4 moved by one size; the record behind r1 gets the bounds r5 and r6, then r7, then r4
abbrev pub two_pointers : List ℕ
two_pointers = move_word 7 4 1 ∷ store_word 5 1 0 ∷ store_word 6 1 1 ∷ store_word 7 1 2 ∷ store_word 4 1 2 ∷ halt_word ∷ []

-- a block of r0 to r7 free, of any length
abbrev pub free_block : ℕ → List ℕ
free_block n = row n 0 0 0 0 0 0 0 0

-- eight registers, 0 but for r1
abbrev pub r1 : ℕ → List ℕ
r1 x = 0 ∷ x ∷ 0 ∷ 0 ∷ 0 ∷ 0 ∷ 0 ∷ 0 ∷ []

abbrev pub ended : ℕ → ℕ → ℕ → ℕ → List ℕ → List ℕ → ℕ → Run
ended number block index finished registers memory carried =
    record { number = number; block = block; index = index; finished = finished; registers = registers; memory = memory; carried = carried }

pub record Misreadings : Type 0 where
  -- a loaded value's name is kept after a store through another pointer closed
  pub names_after_close : plot_check (plot_blocks 5 1)
      (load_word 2 1 0 ∷ store_word 5 6 0 ∷ store_word 4 6 1 ∷ load_word 3 1 1 ∷ if_equal_word 2 0 2 ∷ tail_code) ≡ verdict 14 0 4
  -- while a record is open, a load of a stored field gives its old value
  pub stored_field : plot_check (plot_blocks 8 1)
      (load_word 2 1 0 ∷ load_word 3 1 1 ∷ constant_word 4 9999 ∷ store_word 4 1 1 ∷ load_word 6 1 1 ∷ store_word 3 1 1 ∷ copy_word 3 6
      ∷ if_equal_word 2 0 2 ∷ tail_code) ≡ verdict 14 0 7
  -- while a record is open, an old field is typed with the stored siblings
  pub old_field : plot_check (plot_blocks 5 0)
      (load_word 2 1 0 ∷ store_word 5 1 0 ∷ load_word 3 1 1 ∷ store_word 2 1 0 ∷ jump_word 2 ∷ tail_code) ≡ verdict 14 0 4
  -- two pointers are different records because their values differ; loads need not ask
  pub other_pointer : plot_check (plot_blocks 6 0)
      (load_word 2 1 0 ∷ store_word 5 1 0 ∷ load_word 3 6 1 ∷ load_word 7 6 0 ∷ store_word 2 1 0 ∷ if_equal_word 7 0 2 ∷ tail_code) ≡ verdict 12 0 2
  -- a dependency is a register's number and not the value that it had
  pub overwritten_bound : plot_check (row 3 0 (from_word 0 2 3) 0 0 0 0 0 0 ++ free_block 1 ++ row 2 0 (in_word 0 2 4) 0 0 0 0 0 0)
      (copy_word 4 3 ∷ constant_word 3 60000 ∷ if_less_word 1 3 2 ∷ halt_word ∷ load_word 4 1 0 ∷ halt_word ∷ []) ≡ verdict 14 0 2
  -- a move keeps From
  pub moved_from : plot_check (row 2 0 (from_word 0 2 3) 0 0 0 0 0 0 ++ row 1 0 (from_word 0 2 3) 0 0 0 0 0 0)
      (move_word 1 1 2 ∷ jump_word 1 ∷ halt_word ∷ []) ≡ verdict 14 0 1
  -- opcode 7 on In by one size goes by the older rule where that one applies: the record would stay open at the store of r7, and close at that
  -- of r4. But r7 is From: its store closes the record, and the store of r4 opens it again.
  pub closes_earlier : check (span_types (from_word 0 0 1)) [] (code_of (row 6 0 (ref_word 1) 0 0 (in_word 0 5 6) 0 0 0) two_pointers) ≡ verdict 13 0 5
  -- Maybe becomes Ref after a test against a constant that is not 0; the untaken edge is not asked
  pub other_constant : plot_check (row 1 0 (maybe_word 1) 0 0 0 0 0 0 ++ row 2 0 (ref_word 1) 0 0 0 0 0 0 ++ free_block 1)
      (if_equal_word 1 5 2 ∷ load_word 2 1 0 ∷ halt_word ∷ halt_word ∷ []) ≡ verdict 15 0 0
  -- Tagged of a known tag is a reference though it may be 0
  pub tagged_base : plot_check (row 2 0 (tagged_word (constant_byte 1)) 0 0 0 0 0 0) (load_word 2 1 0 ∷ halt_word ∷ []) ≡ verdict 10 0 0
  -- an offset equal to the size; an offset read as -1
  pub offset_at_size : plot_check (row 2 0 (ref_word 2) 0 0 0 0 0 0) (load_word 2 1 2 ∷ halt_word ∷ []) ≡ verdict 11 0 0
  pub offset_signed : run (code_of (free_block 2) (load_word 2 1 65535 ∷ halt_word ∷ [])) (7 ∷ 8 ∷ []) (ready 0 (r1 1)) 1
      ≡ ended 18 0 0 0 (r1 1) (7 ∷ 8 ∷ []) 0
  -- only the start of a record lies inside memory; its end wraps; it starts at 0; records overlap
  pub start_inside : memory_check pair_types [] (1 ∷ 0 ∷ []) (0 ∷ 0 ∷ []) ≡ verdict 19 0 0
  pub end_wraps : memory_check pair_types [] (4294967295 ∷ 0 ∷ []) (0 ∷ 0 ∷ []) ≡ verdict 19 0 0
  pub start_zero : memory_check pair_types [] (0 ∷ 0 ∷ []) (0 ∷ 0 ∷ []) ≡ verdict 19 0 0
  pub overlap : memory_check pair_types [] (1 ∷ 0 ∷ 2 ∷ 0 ∷ []) (0 ∷ 0 ∷ 0 ∷ 0 ∷ []) ≡ verdict 19 1 0
  -- a tag beyond the table allows every pointer
  pub beyond_table : memory_check plot_types plot_tags (1 ∷ 2 ∷ []) (0 ∷ 5 ∷ 9 ∷ []) ≡ verdict 20 0 1
  -- a run with a gap
  pub gap : memory_check (span_types (run_word 0 0 1)) [] (1 ∷ 0 ∷ 3 ∷ 0 ∷ 4 ∷ 1 ∷ []) (0 ∷ 0 ∷ 0 ∷ 0 ∷ 1 ∷ 4 ∷ 1 ∷ []) ≡ verdict 20 2 2
  -- a run pauses inside a block
  pub pause_inside : run (code_of (free_block 3 ++ free_block 1) (store_word 1 2 0 ∷ store_word 1 2 1 ∷ jump_word 1 ∷ halt_word ∷ []))
      (7 ∷ 8 ∷ []) (ready 0 (r1 5)) 1 ≡ ended 40 1 3 1 (r1 5) (5 ∷ 5 ∷ []) 3
  -- a fault comes after the write
  pub fault_after : run (code_of (free_block 2) (store_word 1 2 9 ∷ halt_word ∷ [])) (7 ∷ 8 ∷ []) (ready 0 (r1 5)) 1
      ≡ ended 18 0 0 0 (r1 5) (7 ∷ 8 ∷ []) 0
  -- opcode 12 compares signed numbers
  pub signed_less : next (if_less 1 2 5) 0 (0 ∷ 2 ^ 31 ∷ 1 ∷ []) ≡ enter 1
