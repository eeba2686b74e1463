-- 02, card 1: 'Weights that must stay as weighed'. What the mark leaves as it is, and answers of single cases, each under one statement.
-- MarkApart is proved in proofs/Mark.antt, LockCases in proofs/Answers.antt.
use Rattle.std.specs.Prelude.{◌≡◌, true, false, List, [], ◌∷◌, ◌++◌, ℕ, ◌+◌, ◌/◌, ◌^◌, ◌<◌}
use Rattle.model.specs.declared.Verdict.{Verdict}
use Rattle.model.specs.Word.{kind_of, locked_of}
use Rattle.model.specs.Types.{type_of}
use Rattle.model.specs.Table.{well_made, Code, code_of}
use Rattle.model.specs.Machine.{ready}
use Rattle.model.specs.Check.{check}
use Rattle.model.specs.MemoryCheck.{memory_check, entry_check}
use Rattle.model.specs.Cases.{type_word, any_word, ref_word, tagged_word, same_word, halt_word, load_word, store_word, row, verdict, plot_tags}

-- 'Bit 31 of a record's type word now marks a field locked'
abbrev pub locked_word : ℕ → ℕ
locked_word w = 2 ^ 31 + w

-- ---- the mark stands apart from the rest of a type word

pub record MarkApart (w : ℕ) : Type 0 where
  -- a word has the mark or has it not
  pub marked : locked_of (locked_word w) ≡ true
  pub unmarked : locked_of w ≡ false
  -- 'the remaining seven bits of that byte are the kind': without the mark, the whole byte, as 01 has it
  pub whole_byte : kind_of w ≡ w / 2 ^ 24
  -- the mark changes nothing of the type that the word says, so nothing of what is known, fits and meets
  pub same_type : type_of (locked_word w) ≡ type_of w
  -- 'Q3 allows the mark'
  pub allowed : (count n : ℕ) → well_made count n (locked_word w) ≡ well_made count n w

abbrev pub MarksApart : Type 0
MarksApart = (w : ℕ) → w < 2 ^ 31 → MarkApart w

-- ---- tables

-- document 01's plots, with the raw weight and its moisture locked
abbrev pub locked_plot_types : List ℕ
locked_plot_types = row 2 (locked_word any_word) (locked_word any_word) 0 0 0 0 0 0 ++ row 1 any_word 0 0 0 0 0 0 0 ++ row 2 any_word (tagged_word 0) 0 0 0 0 0 0

-- two instructions over them, with r3 the raw record and r4 the corrected one
abbrev pub locked_plot_check : ℕ → Verdict
locked_plot_check word = check locked_plot_types plot_tags (code_of (row 2 0 0 0 (ref_word 0) (ref_word 1) 0 0 0) (word ∷ halt_word ∷ []))

-- Type 0 has a locked weight and a note that is free. Type 1 has a locked reference to a type 0, and the same reference once more, free.
abbrev pub weighed : List ℕ
weighed = row 2 (locked_word any_word) any_word 0 0 0 0 0 0 ++ row 2 (locked_word (ref_word 0)) (same_word 0) 0 0 0 0 0 0

-- one block of n instructions, with r1 and r2 Ref 0, r3 Ref 1
abbrev pub on_weighed : ℕ → List ℕ → Code
on_weighed n code = code_of (row n 0 (ref_word 0) (ref_word 0) (ref_word 1) 0 0 0 0) code

abbrev pub weighed_check : ℕ → List ℕ → Verdict
weighed_check n code = check weighed [] (on_weighed n code)

-- the check of a halt, over some types and an annotation of r0
abbrev pub halt_check : List ℕ → ℕ → Verdict
halt_check types r0 = check types [] (code_of (row 1 r0 0 0 0 0 0 0 0) (halt_word ∷ []))

-- a type 0 from 1 on, a type 1 from 3 on
abbrev pub weighed_rows : List ℕ
weighed_rows = 1 ∷ 0 ∷ 3 ∷ 1 ∷ []

-- the entry check of a halt, with 1 in r1 and r2, and a word in r3
abbrev pub weighed_entry : ℕ → Verdict
weighed_entry r3 =
    entry_check weighed [] weighed_rows (0 ∷ 7 ∷ 0 ∷ 1 ∷ 1 ∷ []) (on_weighed 1 (halt_word ∷ [])) (ready 0 (0 ∷ 1 ∷ 1 ∷ r3 ∷ 0 ∷ 0 ∷ 0 ∷ 0 ∷ []))

-- ---- cases

pub record LockCases : Type 0 where
  -- a corrected weight over the raw one, and in its own record; the raw one is loaded
  pub over_the_raw : locked_plot_check (store_word 5 3 0) ≡ verdict 23 0 0
  pub in_the_corrected : locked_plot_check (store_word 5 4 0) ≡ verdict 0 0 0
  pub of_the_raw : locked_plot_check (load_word 5 3 0) ≡ verdict 0 0 0
  -- '23, a store to a locked field', also of the word that was loaded from it; the field beside it may be stored
  pub written : weighed_check 2 (store_word 4 1 0 ∷ halt_word ∷ []) ≡ verdict 23 0 0
  pub written_back : weighed_check 3 (load_word 4 1 0 ∷ store_word 4 1 0 ∷ halt_word ∷ []) ≡ verdict 23 0 1
  pub beside : weighed_check 3 (load_word 4 1 0 ∷ store_word 4 1 1 ∷ halt_word ∷ []) ≡ verdict 0 0 0
  -- 'asked after Q11': past the fields nothing is locked, since type words are 0 there
  pub past : weighed_check 2 (store_word 4 1 2 ∷ halt_word ∷ []) ≡ verdict 11 0 0
  -- 'and before Q12': the record behind r3 is open
  pub while_open : weighed_check 3 (store_word 4 3 1 ∷ store_word 4 1 0 ∷ halt_word ∷ []) ≡ verdict 23 0 1
  pub beside_while_open : weighed_check 3 (store_word 4 3 1 ∷ store_word 4 1 1 ∷ halt_word ∷ []) ≡ verdict 12 0 1
  pub load_while_open : weighed_check 3 (store_word 4 3 1 ∷ load_word 4 1 0 ∷ halt_word ∷ []) ≡ verdict 12 0 1
  -- 'readable': a locked field is loaded and followed like any
  pub followed : weighed_check 3 (load_word 4 3 0 ∷ load_word 5 4 0 ∷ halt_word ∷ []) ≡ verdict 0 0 0
  -- a record with a locked field closes over all its fields, and what is behind a locked reference may be written
  pub closed : weighed_check 3 (load_word 4 3 0 ∷ store_word 4 3 1 ∷ halt_word ∷ []) ≡ verdict 0 0 0
  pub behind : weighed_check 3 (load_word 4 3 0 ∷ store_word 5 4 1 ∷ halt_word ∷ []) ≡ verdict 0 0 0
  -- 'Q3 allows the mark': of a field, with a kind that is one, and not past the fields
  pub of_a_field : halt_check (row 1 (locked_word any_word) 0 0 0 0 0 0 0) any_word ≡ verdict 0 0 0
  pub other_kind : halt_check (row 1 (locked_word (type_word 9 0 0 0)) 0 0 0 0 0 0 0) any_word ≡ verdict 3 0 0
  pub past_the_fields : halt_check (row 1 any_word (locked_word any_word) 0 0 0 0 0 0) any_word ≡ verdict 3 0 0
  -- 'Q6 does not'
  pub annotation : halt_check weighed (locked_word any_word) ≡ verdict 6 0 0
  pub annotated_ref : halt_check weighed (locked_word (ref_word 0)) ≡ verdict 6 0 0
  -- the memory check and the entry check read the kind beside the mark
  pub met : memory_check weighed [] weighed_rows (0 ∷ 7 ∷ 0 ∷ 1 ∷ 1 ∷ []) ≡ verdict 0 0 0
  pub unmet : memory_check weighed [] weighed_rows (0 ∷ 7 ∷ 0 ∷ 2 ∷ 2 ∷ []) ≡ verdict 20 1 0
  pub entered : weighed_entry 3 ≡ verdict 0 0 0
  pub not_entered : weighed_entry 1 ≡ verdict 21 3 0
