-- Demand 2. Nothing here but the statement; Demand2 is proved in proofs/Exact.antt.
use Rattle.std.specs.Prelude.{◌≡◌, ◌↔◌, ◌⊎◌, true, false, List, [], ◌∷◌, ◌++◌, ℕ, ◌+◌, ◌*◌, ◌%◌, ◌≤◌, ◌<◌, length, get_or}
use Rattle.model.specs.declared.RunAnswer.{RunAnswer}
use Rattle.model.specs.Question.{q20, q21, Refusal, refusal, refusing, Outcome, AllPassed, FirstRefused}
use Rattle.model.specs.Word.{locked_of}
use Rattle.model.specs.Types.{type_of}
use Rattle.model.specs.Table.{types_most, tags_most, blocks_most, code_most, memory_most, fields_most, type_words, length_most, register_count, rows}
use Rattle.model.specs.Table.{head_of, words_of, Tables, tables_of, field_of, Code, routine_of, start_of, well_made, type_lengths_ask}
use Rattle.model.specs.Table.{code_lengths_ask, types_questions, lengths_ask, annotations_ask, memory_length_ask}
use Rattle.model.specs.Meaning.{Meets, RecordMeets, RegistersMeet}
use Rattle.model.specs.Allocation.{Allocated, start_at, type_at, pairs, AllLaid, FirstUnlaid}
use Rattle.model.specs.Machine.{State, Run, answer_at, Ready, begin, run, returned}
use Rattle.model.specs.ReadingRules.{ObeysAt, FirstDisobeys}
use Rattle.model.specs.Check.{check}
use Rattle.model.specs.MemoryCheck.{routine_questions, memory_check, entry_check}
use Rattle.model.specs.Faults.{is_opening, routine, Through, Begins, Halts, Pauses, RunEnds}

-- ---- the questions of tables, as rules

-- 01: 'Are lengths whole rows within bounds?'
abbrev pub WholeRows : ℕ → ℕ → Type 0
WholeRows most n = (n % 9 ≡ 0) × (9 ≤ n) × (n ≤ 9 * most)

-- Q1 to Q4 of types and tags have no no
pub record TypesPass (types tags : List ℕ) : Type 0 where
  pub type_rows : WholeRows types_most (length types)
  pub tag_words : length tags ≤ tags_most
  pub counts : (t : ℕ) → t < rows types → (1 ≤ head_of types t) × (head_of types t ≤ fields_most)
  pub fields : (t f : ℕ) → t < rows types → f < head_of types t → well_made (rows types) (head_of types t) (get_or (words_of types t) f 0) ≡ true
  pub past : (t f : ℕ) → t < rows types → head_of types t ≤ f → f < type_words → get_or (words_of types t) f 0 ≡ 0
  pub tagged : (k : ℕ) → k < length tags → get_or tags k 0 < rows types

-- Q1 and Q5 of blocks and code have no no. 01: 'Are block lengths 1 to 32 and their sum the code length?'
pub record BlocksPass (C : Code) : Type 0 where
  pub block_rows : WholeRows blocks_most (length C.blocks)
  pub code_words : (1 ≤ length C.code) × (length C.code ≤ code_most)
  pub lengths : (b : ℕ) → b < rows C.blocks → (1 ≤ head_of C.blocks b) × (head_of C.blocks b ≤ length_most)
  pub sum : start_of C.blocks (rows C.blocks) ≡ length C.code

-- Q6 has no no. 02, card 1: 'Q3 allows the mark, Q6 does not'
pub record AnnotationsPass (count : ℕ) (C : Code) : Type 0 where
  pub words : (b r : ℕ) → b < rows C.blocks → r < register_count → well_made count register_count (get_or (words_of C.blocks b) r 0) ≡ true
  pub unmarked : (b r : ℕ) → b < rows C.blocks → r < register_count → locked_of (get_or (words_of C.blocks b) r 0) ≡ false

-- ---- the check

module _ (types tags : List ℕ) (C : Code) where
  -- 'A routine is accepted exactly when every instruction obeys the rules'
  pub record Accepts : Type 0 where
    pub types_pass : TypesPass types tags
    pub blocks_pass : BlocksPass C
    pub annotations_pass : AnnotationsPass (rows types) C
    pub instructions : (b j : ℕ) → b < (routine_of C).count → j < (routine_of C).long b → ObeysAt (tables_of types tags) (routine_of C) b j

  -- 01: 'Each of Q1 to Q6 runs over all rows before the next'
  abbrev pub table_rows : List (Outcome (Unit {0}))
  table_rows =
      type_lengths_ask (length types) (length tags)
      ∷ code_lengths_ask (length C.blocks) (length C.code)
      ∷ types_questions types tags
      ++ lengths_ask C.blocks (length C.code)
      ∷ annotations_ask (rows types) C.blocks
      ∷ []

  -- 'otherwise the first failing question is named'
  pub data CheckNo (r : Refusal) : Type 0 where
    table_no : FirstRefused r table_rows → CheckNo r
    instruction_no : AllPassed table_rows → FirstDisobeys (tables_of types tags) (routine_of C) r → CheckNo r

  pub record CheckExact : Type 0 where
    pub accepts : ((check types tags C).number ≡ 0) ↔ Accepts
    pub names : (r : Refusal) → (check types tags C ≡ refusing r) ↔ CheckNo r

-- ---- the memory check and the entry check: they 'pass exactly when none of their questions has a no'

module _ (types tags allocations : List ℕ) (top : ℕ) where
  -- the questions up to Q19, over so many words of memory, have no no
  pub record LayoutPasses : Type 0 where
    pub types_pass : TypesPass types tags
    pub memory_length : (1 ≤ top) × (top ≤ memory_most)
    pub all_laid : AllLaid (tables_of types tags) top allocations

  -- 01: 'Q1 to Q4 for types and tags, Q17'
  abbrev pub layout_rows : List (Outcome (Unit {0}))
  layout_rows = type_lengths_ask (length types) (length tags) ∷ types_questions types tags ++ memory_length_ask top ∷ []

  pub data LayoutNo (r : Refusal) : Type 0 where
    table_no : FirstRefused r layout_rows → LayoutNo r
    allocation_no : AllPassed layout_rows → FirstUnlaid (tables_of types tags) top allocations r → LayoutNo r

module _ (types tags allocations memory : List ℕ) where
  abbrev pub 𝒯 : Tables
  𝒯 = tables_of types tags

  pub record MemoryPasses : Type 0 where
    pub layout : LayoutPasses types tags allocations (length memory)
    pub records : (p t : ℕ) → Allocated allocations p t → RecordMeets 𝒯 (Allocated allocations) memory p t

  -- field f of the record of row k meets its meaning
  abbrev pub FieldMeets : ℕ → ℕ → Type 0
  FieldMeets k f =
      Meets 𝒯 (Allocated allocations) (λ g. get_or memory (start_at allocations k + g) 0) (get_or memory (start_at allocations k + f) 0)
      (field_of 𝒯 (type_at allocations k) f)

  -- Q20's first no. 01: '20 at row, field'
  pub record FirstUnmetField (r : Refusal) : Type 0 where
    pub row : ℕ
    pub field : ℕ
    pub exists : row < pairs allocations
    pub within : field < 𝒯.size (type_at allocations row)
    pub unmet : FieldMeets row field → ⊥
    pub before : (f : ℕ) → f < field → FieldMeets row f
    pub earlier : (k : ℕ) → k < row → RecordMeets 𝒯 (Allocated allocations) memory (start_at allocations k) (type_at allocations k)
    pub place : r ≡ refusal q20 row field

  pub data MemoryNo (r : Refusal) : Type 0 where
    layout_no : LayoutNo types tags allocations (length memory) r → MemoryNo r
    field_no : LayoutPasses types tags allocations (length memory) → FirstUnmetField r → MemoryNo r

  pub record MemoryExact : Type 0 where
    pub passes : ((memory_check types tags allocations memory).number ≡ 0) ↔ MemoryPasses
    pub names : (r : Refusal) → (memory_check types tags allocations memory ≡ refusing r) ↔ MemoryNo r

  module _ (C : Code) (g : Ready) where
    abbrev pub annotation : List ℕ
    annotation = (routine_of C).annotation g.block

    pub record EntryPasses : Type 0 where
      pub layout : LayoutPasses types tags allocations (length memory)
      pub blocks_pass : BlocksPass C
      pub annotations_pass : AnnotationsPass (rows types) C
      pub exists : g.block < (routine_of C).count
      pub registers_meet : RegistersMeet 𝒯 (Allocated allocations) annotation g.registers

    abbrev pub RegisterMeets : ℕ → Type 0
    RegisterMeets r =
        Meets 𝒯 (Allocated allocations) (λ q. get_or g.registers q 0) (get_or g.registers r 0) (type_of (get_or annotation r 0))

    -- Q21's first no. 01: '21 at register, 0'
    pub record FirstUnmetRegister (r : Refusal) : Type 0 where
      pub register : ℕ
      pub exists : register < register_count
      pub unmet : RegisterMeets register → ⊥
      pub before : (q : ℕ) → q < register → RegisterMeets q
      pub place : r ≡ refusal q21 register 0

    -- 01: 'the questions of the memory check up to Q19, then Q1 for blocks and code, Q5, Q6, Q16, Q21'
    pub data EntryNo (r : Refusal) : Type 0 where
      layout_no : LayoutNo types tags allocations (length memory) r → EntryNo r
      routine_no : LayoutPasses types tags allocations (length memory) → FirstRefused r (routine_questions (rows types) C g.block) → EntryNo r
      register_no : LayoutPasses types tags allocations (length memory) → AllPassed (routine_questions (rows types) C g.block)
          → FirstUnmetRegister r → EntryNo r

    pub record EntryExact : Type 0 where
      pub passes : ((entry_check types tags allocations memory C g).number ≡ 0) ↔ EntryPasses
      pub names : (r : Refusal) → (entry_check types tags allocations memory C g ≡ refusing r) ↔ EntryNo r

-- ---- the runner: 'The runner does, instruction by instruction, what the machine's rules say'

module _ (C : Code) (memory : List ℕ) (g : Ready) (budget : ℕ) where
  -- the machine's rules come to the end of the budget's blocks, so no halt came before
  pub record Finishes : Type 0 where
    pub begins : Begins C memory g budget
    pub state : State
    pub through : Through C memory g budget state
    pub finished : state.finished ≡ budget

  -- the answer shows that no instruction was carried out: by the number of an opening question, or by its place
  abbrev pub ShowsNothing : RunAnswer → Type 0
  ShowsNothing a = (is_opening a.number ≡ true) ⊎ ((a.finished ≡ 0) × (a.index ≡ (routine C memory g budget).start g.block))

  pub record RunExact : Type 0 where
    -- the answer is that of the state at which the rules come to an end, and no other answer is
    pub ends : (a : Run) → (a ≡ run C memory g budget) ↔ RunEnds C memory g budget a
    -- 01: '0 is halted, at the halt'
    pub halted : ((run C memory g budget).number ≡ 0) ↔ Halts C memory g budget (run C memory g budget)
    -- 01: '40 is paused, at the next block's first instruction: exactly when budget blocks are finished and none halted'
    pub paused : ((run C memory g budget).number ≡ 40) ↔ Finishes
    pub paused_at : (run C memory g budget).number ≡ 40 → Pauses C memory g budget (run C memory g budget)
    -- 01: 'Budget 0 pauses with memory and registers unchanged'
    pub unchanged : Begins C memory g budget → budget ≡ 0 → run C memory g budget ≡ answer_at (routine C memory g budget) 40 (begin g memory)
    -- 01: 'a run of any code refused with no instruction carried out'
    pub nothing : ((run C memory g budget).carried ≡ 0) ↔ ShowsNothing (returned (run C memory g budget))

-- 'A routine is accepted exactly when every instruction obeys the rules ..; otherwise the first failing question is named. The memory check
-- and the entry check pass exactly when none of their questions has a no. The runner does .. what the machine's rules say.'
pub record Demand2 : Type 0 where
  pub checks : (types tags : List ℕ) (C : Code) → CheckExact types tags C
  pub memory_checks : (types tags allocations memory : List ℕ) → MemoryExact types tags allocations memory
  pub entry_checks : (types tags allocations memory : List ℕ) (C : Code) (g : Ready) → EntryExact types tags allocations memory C g
  pub runs : (C : Code) (memory : List ℕ) (g : Ready) (budget : ℕ) → RunExact C memory g budget
