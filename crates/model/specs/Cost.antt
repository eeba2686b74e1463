-- 02, card 9: 'What a check costs'. The fit questions that a check puts, the answer of the call with their count, and its bound.
-- PutByRules is proved in proofs/CostRules.antt, Costs in proofs/Cost.antt, CostCases in proofs/Answers.antt.
use Rattle.std.specs.Prelude.{◌≡◌, ◌↔◌, Bool, not, List, [], ◌∷◌, ◌++◌, ℕ, zero, suc, ◌+◌, ◌*◌, ◌≤◌, ◌<◌, length}
use Rattle.model.specs.declared.Verdict.{Verdict}
use Rattle.model.specs.declared.CheckAnswer.{CheckAnswer}
use Rattle.model.specs.Question.{q14, q15, Refusal, Outcome, ok, refused, provided}
use Rattle.model.specs.Table.{Tables, tables_of, Code, code_of, Routine, routine_of, last_at, tables_ask}
use Rattle.model.specs.Machine.{Plain, constant, copy, add, subtract, multiply, divide, move, load, store, End, halt, jump, if_equal, if_less}
use Rattle.model.specs.Machine.{Instruction, plain, end, instruction_at, form_ask, to_store}
use Rattle.model.specs.ReadingRules.{ObeysAt, TypeGiven, DisobeysAt}
use Rattle.model.specs.Reading.{Reading, entry, is_open, taken}
use Rattle.model.specs.Check.{on_record, edge_meets, read_at, block_ask, reading_at, check}
use Rattle.model.specs.Cases.{type_word, any_word, ref_word, tagged_word, halt_word, load_word, store_word, move_word, jump_word, if_equal_word, if_less_word, row}
use Rattle.model.specs.Cases.{verdict, plot_types, plot_tags, stage_blocks, stage_code, store_block, below_blocks, move_blocks}
use Rattle.model.specs.Locks.{locked_plot_types}

-- a count of what comes after some questions: 0 after a no
unfoldable pub past : {A : Type 0} → Outcome A → (A → ℕ) → ℕ
past (ok a) k = k a
past (refused r) k = 0

-- ---- 'Count the fit questions that the rules put'

module _ (𝒯 : Tables) where
  -- 'n for each store that passes Q12 (n the record's size)'
  unfoldable pub plain_asked : Plain → Reading → ℕ
  plain_asked (constant a c) st = 0
  plain_asked (copy a b) st = 0
  plain_asked (add a b c) st = 0
  plain_asked (subtract a b c) st = 0
  plain_asked (multiply a b c) st = 0
  plain_asked (divide a b c) st = 0
  plain_asked (move a b c) st = 0
  plain_asked (load a b c) st = 0
  plain_asked (store a b c) st = on_record 𝒯 (λ _. 0) to_store st b c λ t. 𝒯.size t

module _ (𝒯 : Tables) (P : Routine) where
  -- '8 for each edge put to Q14 or Q15, counted whole even where one fails': Q15 is put after a yes to Q14
  unfoldable pub edges_asked : End → Reading → ℕ
  edges_asked halt st = 0
  edges_asked (jump t) st = 8
  edges_asked (if_equal x k t) st = 8 + provided (edge_meets 𝒯 P st (taken (if_equal x k t) st) t) 0 λ _. 8
  edges_asked (if_less x y t) st = 8 + provided (edge_meets 𝒯 P st (taken (if_less x y t) st) t) 0 λ _. 8

  -- what an instruction of block b puts, its last or not: nothing where Q7, Q8, Q9 or Q13 has a no
  unfoldable pub instruction_asked : ℕ → Bool → Instruction → Reading → ℕ
  instruction_asked b last x st =
      form_ask (λ _. 0) P.count b last
      (λ y. plain_asked 𝒯 y st) (λ e. provided (not (is_open st)) 0 λ _. edges_asked e st) x

  abbrev pub asked_at : ℕ → ℕ → Reading → ℕ
  asked_at b j st = instruction_asked b (last_at P b j) (instruction_at P b j) st

-- ---- what instructions count, added up over those that are examined: put to Q7

module _ (𝒯 : Tables) (P : Routine) (each : ℕ → ℕ → Reading → ℕ) where
  -- n instructions of block b from offset j on, as long as none has a no
  unfoldable pub sum_on : ℕ → ℕ → ℕ → Reading → ℕ
  sum_on b zero j st = 0
  sum_on b (suc n) j st = each b j st + past (read_at 𝒯 P b j st) (λ st'. sum_on b n (suc j) st')

  unfoldable pub sum_in : ℕ → ℕ
  sum_in b = sum_on b (P.long b) 0 (entry (P.annotation b))

  -- n blocks from block b on, as long as none has a no
  unfoldable pub sum_from : ℕ → ℕ → ℕ
  sum_from zero b = 0
  sum_from (suc n) b = sum_in b + past (block_ask 𝒯 P b) (λ _. sum_from n (suc b))

-- all blocks, past Q1 to Q6
unfoldable pub sum_of : (Tables → Routine → ℕ → ℕ → Reading → ℕ) → List ℕ → List ℕ → Code → ℕ
sum_of each types tags C =
    let 𝒯 = tables_of types tags in
    let P = routine_of C in
    past (tables_ask types tags C) (λ _. sum_from 𝒯 P (each 𝒯 P) P.count 0)

-- the fit questions put, and the instructions examined
abbrev pub asked_of : List ℕ → List ℕ → Code → ℕ
asked_of = sum_of asked_at

abbrev pub examined_of : List ℕ → List ℕ → Code → ℕ
examined_of = sum_of (λ 𝒯 P b j st. 1)

-- ---- 'that the rules put': the same of one instruction by the rules alone; the sum is over the instructions that the check comes to

module _ (𝒯 : Tables) (P : Routine) where
  -- The instruction at offset j of block b puts so many fit questions. ObeysAt and DisobeysAt are of an instruction that the rules come to,
  -- those before it in the block having obeyed them.
  pub data Puts (b j : ℕ) : ℕ → Type 0 where
    -- a store that passes Q12, the last that it is asked, obeys the rules
    by_a_store : {a r c t : ℕ} → instruction_at P b j ≡ plain (store a r c) → ObeysAt 𝒯 P b j → TypeGiven 𝒯 P b j r t → Puts b j (𝒯.size t)
    by_a_jump : {t : ℕ} → instruction_at P b j ≡ end (jump t) → ObeysAt 𝒯 P b j → Puts b j 8
    by_if_equal : {x k t : ℕ} → instruction_at P b j ≡ end (if_equal x k t) → ObeysAt 𝒯 P b j → Puts b j 16
    by_if_less : {x y t : ℕ} → instruction_at P b j ≡ end (if_less x y t) → ObeysAt 𝒯 P b j → Puts b j 16
    -- an edge that fails: the taken one alone is put, or both
    taken_fails : DisobeysAt 𝒯 P b j q14 → Puts b j 8
    untaken_fails : DisobeysAt 𝒯 P b j q15 → Puts b j 16

-- where the reading comes to an instruction, it puts fit questions exactly as the rules say
abbrev pub PutByRules : Type 0
PutByRules =
    (types tags : List ℕ) (C : Code) → tables_ask types tags C ≡ ok tt → (b j n : ℕ) (st : Reading) → b < (routine_of C).count → j < (routine_of C).long b
    → reading_at (tables_of types tags) (routine_of C) b j ≡ ok st → 0 < n
    → (asked_at (tables_of types tags) (routine_of C) b j st ≡ n) ↔ Puts (tables_of types tags) (routine_of C) b j n

-- ---- 'The verdict gains this count'

abbrev pub counting : Verdict → ℕ → CheckAnswer
counting v n = record { number = v.number; first = v.first; second = v.second; asked = n }

-- number and place, without the count
abbrev pub verdict_in : CheckAnswer → Verdict
verdict_in a = record { number = a.number; first = a.first; second = a.second }

unfoldable pub check_answer : List ℕ → List ℕ → Code → CheckAnswer
check_answer types tags C = counting (check types tags C) (asked_of types tags C)

-- ---- 'it is at most 16 times the instructions examined'

pub record Cost (types tags : List ℕ) (C : Code) : Type 0 where
  pub bound : (check_answer types tags C).asked ≤ 16 * examined_of types tags C
  -- the instructions examined are the whole code, those up to the place of the no, or none
  pub accepted : (check types tags C).number ≡ 0 → examined_of types tags C ≡ length C.code
  pub in_code : tables_ask types tags C ≡ ok tt → ((check types tags C).number ≡ 0 → ⊥) → examined_of types tags C ≡ suc (check types tags C).second
  pub by_a_table : (r : Refusal) → tables_ask types tags C ≡ refused r → examined_of types tags C ≡ 0

abbrev pub Costs : Type 0
Costs = (types tags : List ℕ) (C : Code) → Cost types tags C

-- ---- cases

-- a routine's answer, its count, and the instructions examined
abbrev pub CostsOf : List ℕ → Code → Verdict → ℕ → ℕ → Type 0
CostsOf types C v asked examined = (check_answer types plot_tags C ≡ counting v asked) × (examined_of types plot_tags C ≡ examined)

-- two stores, then a jump, in document 01's store block
abbrev pub stores_and_jump : ℕ → ℕ → Code
stores_and_jump first second = code_of (store_block 3 (ref_word 2) ++ row 1 0 0 0 0 0 0 0 0) (first ∷ second ∷ jump_word 1 ∷ halt_word ∷ [])

pub record CostCases : Type 0 where
  -- two branches, both edges of each; the last edge fails, and is counted whole
  pub both_edges : CostsOf plot_types (code_of (stage_blocks 1) stage_code) (verdict 0 0 0) 32 7
  pub untaken_fails : CostsOf plot_types (code_of (stage_blocks 0) stage_code) (verdict 15 2 4) 32 5
  -- the first instruction of a routine can put 16: so the bound is reached
  pub bound_reached : CostsOf plot_types
      (code_of (row 1 0 (type_word 2 1 0 0) 0 0 0 0 0 0 ++ row 1 0 (ref_word 1) 0 0 0 0 0 0 ++ row 1 0 0 0 0 0 0 0 0)
      (if_equal_word 1 5 2 ∷ halt_word ∷ halt_word ∷ []))
      (verdict 15 0 0) 16 1
  -- after a no to Q14, Q15 is not put
  pub taken_fails : CostsOf plot_types (code_of below_blocks (if_less_word 1 3 2 ∷ halt_word ∷ halt_word ∷ [])) (verdict 14 0 0) 8 1
  -- a jump has one edge, met or missed
  pub jump_met : CostsOf plot_types (code_of move_blocks (move_word 1 1 2 ∷ jump_word 1 ∷ halt_word ∷ [])) (verdict 0 0 0) 8 3
  pub jump_missed : CostsOf plot_types (code_of move_blocks (move_word 1 1 3 ∷ jump_word 1 ∷ halt_word ∷ [])) (verdict 14 0 1) 8 2
  -- a store that leaves its record open is counted whole, like the one that closes it
  pub both_stores : CostsOf plot_types (stores_and_jump (store_word 5 1 0) (store_word 4 1 1)) (verdict 0 0 0) 12 4
  -- also where its first field fails
  pub first_field_fails : CostsOf (row 1 any_word 0 0 0 0 0 0 0 ++ row 2 (tagged_word 1) any_word 0 0 0 0 0 0)
      (code_of (row 2 0 (ref_word 1) 0 0 0 0 0 0) (store_word 5 1 1 ∷ halt_word ∷ []))
      (verdict 13 0 1) 2 2
  -- an open record keeps the edge from being put
  pub left_open : CostsOf plot_types (stores_and_jump (store_word 5 1 0) (store_word 5 1 0)) (verdict 13 0 2) 4 3
  -- a store counts by its record's size
  pub size_one : CostsOf plot_types (stores_and_jump (store_word 5 4 0) (store_word 5 4 0)) (verdict 0 0 0) 10 4
  -- a store that Q10, Q11, Q23 or Q12 refuses counts nothing
  pub no_reference : CostsOf plot_types (stores_and_jump (store_word 5 1 0) (store_word 5 2 0)) (verdict 10 0 1) 2 2
  pub past_the_size : CostsOf plot_types (stores_and_jump (store_word 5 1 0) (store_word 5 1 2)) (verdict 11 0 1) 2 2
  pub locked_field : CostsOf locked_plot_types
      (code_of (row 2 0 0 0 (ref_word 0) 0 0 0 0) (store_word 5 3 0 ∷ halt_word ∷ []))
      (verdict 23 0 0) 0 1
  pub other_record : CostsOf plot_types (stores_and_jump (store_word 5 1 0) (store_word 5 6 0)) (verdict 12 0 1) 2 2
  -- a load, a form and a table count nothing; nor is it counted that Q10 asks what a base fits
  pub load_alone : CostsOf plot_types (code_of (store_block 2 any_word) (load_word 2 1 0 ∷ halt_word ∷ [])) (verdict 0 0 0) 0 2
  pub no_target : CostsOf plot_types (code_of (store_block 1 any_word) (jump_word 1 ∷ [])) (verdict 9 0 0) 0 1
  pub by_a_table : CostsOf plot_types (code_of (store_block 1 (ref_word 3)) (jump_word 0 ∷ [])) (verdict 6 0 0) 0 0
