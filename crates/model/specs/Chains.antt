-- 02, card 13: 'Generated code has r1 Same r2 and r2 Same r3, which the check cannot join'. The check as it was before the card, the
-- statement about it, proved in proofs/Chains.antt, and cases that tell the two checks apart.
use Rattle.std.specs.Prelude.{◌≡◌, List, [], ◌∷◌, ◌++◌, ℕ, ◌<◌, length, get_or}
use Rattle.model.specs.declared.Verdict.{Verdict}
use Rattle.model.specs.Question.{Outcome, then, first_no, verdict_of}
use Rattle.model.specs.Word.{opcode_of}
use Rattle.model.specs.Table.{Tables, tables_of, Code, code_of, Routine, routine_of, tables_ask}
use Rattle.model.specs.Values.{Values, apart}
use Rattle.model.specs.Reading.{Reading, entry}
use Rattle.model.specs.Check.{read_on, check}
use Rattle.model.specs.Cases.{constant_byte, ref_word, maybe_word, tagged_word, present_word, same_word, from_word, in_word, halt_word}
use Rattle.model.specs.Cases.{constant_word, load_word, store_word, jump_word, if_equal_word, if_less_word, row, verdict}

-- ---- the check before the card: a block starts with what document 01 alone knows, and is read on by the same definitions

abbrev pub values_apart : Values → Values
values_apart vs =
    record {
      words = vs.words;
      frames = vs.frames;
      constants = vs.constants;
      tested = vs.tested;
      equal = vs.equal;
      knowledge = apart;
    }

abbrev pub reading_apart : Reading → Reading
reading_apart st =
    record {
      values = values_apart st.values;
      registers = st.registers;
      views = st.views;
      since = st.since;
      base = st.base;
      fields = st.fields;
    }

module _ (𝒯 : Tables) (P : Routine) where
  unfoldable pub block_apart : ℕ → Outcome (Unit {0})
  block_apart b = read_on 𝒯 P b (P.long b) 0 (reading_apart (entry (P.annotation b)))

  unfoldable pub judge_apart : Outcome (Unit {0})
  judge_apart = first_no P.count 0 block_apart

unfoldable pub check_apart : List ℕ → List ℕ → Code → Verdict
check_apart types tags C = verdict_of (then (tables_ask types tags C) λ _. judge_apart (tables_of types tags) (routine_of C))

-- ---- the statement

-- no word of the code has the opcode of a store
abbrev pub WithoutStores : Code → Type 0
WithoutStores C = (i : ℕ) → i < length C.code → opcode_of (get_or C.code i 0) ≡ 9 → ⊥

-- 02, card 13: 'A routine without stores that was accepted before still is'
unfoldable pub Keep : Type 0
Keep = (types tags : List ℕ) (C : Code) → WithoutStores C → (check_apart types tags C).number ≡ 0 → (check types tags C).number ≡ 0

-- ---- cases: answers before the card, and now

abbrev pub Verdicts : List ℕ → List ℕ → Code → Verdict → Verdict → Type 0
Verdicts types tags C before now = (check_apart types tags C ≡ before) × (check types tags C ≡ now)

-- the same of a block 0 that knows something and jumps to block 1, which wants something; one record type, of one word
abbrev pub Jump : List ℕ → List ℕ → Verdict → Verdict → Type 0
Jump known wanted before now =
    Verdicts (row 1 0 0 0 0 0 0 0 0) [] (code_of (1 ∷ known ++ 1 ∷ wanted) (jump_word 1 ∷ halt_word ∷ [])) before now

abbrev pub eight : ℕ → ℕ → ℕ → ℕ → ℕ → ℕ → ℕ → ℕ → List ℕ
eight r0 r1 r2 r3 r4 r5 r6 r7 = r0 ∷ r1 ∷ r2 ∷ r3 ∷ r4 ∷ r5 ∷ r6 ∷ r7 ∷ []

abbrev pub same_constant_word : ℕ → ℕ
same_constant_word c = same_word (constant_byte c)

abbrev pub accepted : Verdict
accepted = verdict 0 0 0

-- records of three words, of which the second is the same as the first, and the third as the second
abbrev pub three_alike : List ℕ
three_alike = row 3 0 (same_word 0) (same_word 1) 0 0 0 0 0

-- two records of that type are loaded from; block 1 wants r5 the same as some register
abbrev pub loads_alike : ℕ → Code
loads_alike r =
    code_of (row 4 0 (ref_word 0) (ref_word 0) 0 0 0 0 0 ++ row 1 0 0 0 0 0 (same_word r) 0 0)
    (load_word 3 1 0 ∷ load_word 4 2 0 ∷ load_word 5 1 2 ∷ jump_word 1 ∷ halt_word ∷ [])

-- r0 and r1 get the constant 5; where r0 is 7, block 2 wants r1 the same as a constant
abbrev pub two_constants : ℕ → Code
two_constants c =
    code_of (row 3 0 0 0 0 0 0 0 0 ++ row 1 0 0 0 0 0 0 0 0 ++ row 1 0 (same_constant_word c) 0 0 0 0 0 0)
    (constant_word 0 5 ∷ constant_word 1 5 ∷ if_equal_word 0 7 2 ∷ halt_word ∷ halt_word ∷ [])

-- r1 is the same as r0, which has the constant 5; r3 is a record's start by the tag r1; where r0 is 1, block 2 wants r3 to be a start of type 0
abbrev pub tag_of_two : Code
tag_of_two =
    code_of (row 1 (same_constant_word 5) (same_word 0) 0 (present_word 1) 0 0 0 0 ++ row 1 0 0 0 0 0 0 0 0 ++ row 1 0 0 0 (ref_word 0) 0 0 0 0)
    (if_equal_word 0 1 2 ∷ halt_word ∷ halt_word ∷ [])

-- r1 walks from r2 on; r4 is the end r3 through r5; below r4 it is In
abbrev pub end_through_chain : Code
end_through_chain =
    code_of (row 1 0 (from_word 0 2 3) 0 0 (same_word 5) (same_word 3) 0 0 ++ row 1 0 0 0 0 0 0 0 0 ++ row 1 0 (in_word 0 2 3) 0 0 0 0 0 0)
    (if_less_word 1 4 2 ∷ halt_word ∷ halt_word ∷ [])

-- r1 is the same as r2, which holds a record's start
abbrev pub load_through_same : Code
load_through_same = code_of (row 2 0 (same_word 2) (ref_word 0) 0 0 0 0 0) (load_word 3 1 0 ∷ halt_word ∷ [])

-- r1 is the same as r2, which is a record's start or 0; where r1 is not 0, block 1 wants r2 to be a start
abbrev pub test_through_same : Code
test_through_same =
    code_of (row 1 0 (same_word 2) (maybe_word 0) 0 0 0 0 0 ++ row 1 0 0 (ref_word 0) 0 0 0 0 0 ++ row 1 0 0 0 0 0 0 0 0)
    (if_equal_word 1 0 2 ∷ halt_word ∷ halt_word ∷ [])

-- records of two words that are the same: r2 and r4, joined through r3, are stored, which closes the record now; the third store opens it
abbrev pub stores_alike : Code
stores_alike =
    code_of (row 5 0 (ref_word 0) (same_word 3) (same_word 4) 0 0 0 0 ++ row 1 0 0 0 0 0 (same_word 2) 0 0)
    (store_word 2 1 0 ∷ store_word 4 1 1 ∷ load_word 5 1 0 ∷ store_word 2 1 1 ∷ jump_word 1 ∷ halt_word ∷ [])

pub record ChainCases : Type 0 where
  -- 'r1 Same r2 and r2 Same r3'
  pub chained : Jump (eight 0 (same_word 2) (same_word 3) 0 0 0 0 0) (eight 0 (same_word 3) 0 0 0 0 0 0) (verdict 14 0 0) accepted
  -- all eight registers in one chain
  pub longest : Jump (eight (same_word 1) (same_word 2) (same_word 3) (same_word 4) (same_word 5) (same_word 6) (same_word 7) 0)
      (eight (same_word 7) 0 0 0 0 0 0 0) (verdict 14 0 0) accepted
  -- two are the same as a third
  pub meeting : Jump (eight 0 (same_word 3) (same_word 3) 0 0 0 0 0) (eight 0 (same_word 2) 0 0 0 0 0 0) (verdict 14 0 0) accepted
  -- a circle, and one that is the same as a value on it
  pub circle : Jump (eight (same_word 1) (same_word 2) (same_word 0) (same_word 1) 0 0 0 0) (eight 0 0 0 (same_word 2) 0 0 0 0) (verdict 14 0 0) accepted
  -- two chains that nothing joins
  pub unjoined : Jump (eight 0 (same_word 2) 0 (same_word 4) 0 0 0 0) (eight 0 (same_word 3) 0 0 0 0 0 0) (verdict 14 0 0) (verdict 14 0 0)
  -- 'a value known equal to one with a known constant has that constant'
  pub constant_on : Jump (eight 0 (same_word 2) (same_constant_word 5) 0 0 0 0 0) (eight 0 (same_constant_word 5) 0 0 0 0 0 0) (verdict 14 0 0) accepted
  pub other_constant : Jump (eight 0 (same_word 2) (same_constant_word 5) 0 0 0 0 0) (eight 0 (same_constant_word 6) 0 0 0 0 0 0)
      (verdict 14 0 0) (verdict 14 0 0)
  -- a tag known through a chain
  pub tag_on : Jump (eight 0 (same_word 2) (same_constant_word 1) 0 (tagged_word 1) 0 0 0) (eight 0 0 0 0 (tagged_word (constant_byte 1)) 0 0 0)
      (verdict 14 0 0) accepted
  -- 'where it then has two, either serves'
  pub first_of_two : Verdicts (row 1 0 0 0 0 0 0 0 0) [] (two_constants 5) accepted accepted
  pub second_of_two : Verdicts (row 1 0 0 0 0 0 0 0 0) [] (two_constants 7) (verdict 14 0 2) accepted
  pub neither_of_two : Verdicts (row 1 0 0 0 0 0 0 0 0) [] (two_constants 6) (verdict 14 0 2) (verdict 14 0 2)
  pub tag_by_either : Verdicts (row 1 0 0 0 0 0 0 0 0) (0 ∷ 0 ∷ []) tag_of_two (verdict 14 0 0) accepted
  -- the fields of one record are chained, and not those of two
  pub fields_on : Verdicts three_alike [] (loads_alike 3) (verdict 14 0 3) accepted
  pub other_record : Verdicts three_alike [] (loads_alike 4) (verdict 14 0 3) (verdict 14 0 3)
  -- 'From with rb known equal to e'
  pub walk_on : Verdicts (row 1 0 0 0 0 0 0 0 0) [] end_through_chain (verdict 14 0 0) accepted
  -- types and what an edge makes of them stay with the very value
  pub no_reference : Verdicts (row 1 0 0 0 0 0 0 0 0) [] load_through_same (verdict 10 0 0) (verdict 10 0 0)
  pub no_refinement : Verdicts (row 1 0 0 0 0 0 0 0 0) [] test_through_same (verdict 15 0 0) (verdict 15 0 0)
  -- 'A routine without stores': one with stores was accepted, and is not
  pub with_stores : Verdicts (row 2 0 (same_word 0) 0 0 0 0 0 0) [] stores_alike accepted (verdict 13 0 4)
