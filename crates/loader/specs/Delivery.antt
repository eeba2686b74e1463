-- The three demands of the public calls: what an answer says, and, of every list of calls that were made, all of demand 3. Nothing here
-- but the statements; Answered is proved in proofs/Answered.antt, Delivered in proofs/Delivered.antt.
use Rattle.std.specs.Prelude.{◌≡◌, ◌↔◌, true, List, ℕ, ◌<◌, eqb, length}
use Rattle.model.specs.declared.Verdict.{Verdict}
use Rattle.model.specs.declared.CheckAnswer.{CheckAnswer}
use Rattle.model.specs.declared.OfferedAnswer.{OfferedAnswer}
use Rattle.model.specs.declared.RunAnswer.{RunAnswer}
use Rattle.model.specs.Question.{◌or◌, number_of, refusing, FirstRefused}
use Rattle.model.specs.declared.questions.Question.{Question}
use Rattle.model.specs.declared.questions.Refusal.{Refusal}
use Rattle.model.specs.Table.{Code, code_of, Routine, routine_of}
use Rattle.model.specs.Machine.{State, index_of, step, halts, faults, run_questions, run, returned, Ready, ready}
use Rattle.model.specs.Cost.{asked_of, verdict_in, check_answer, Cost}
use Rattle.model.specs.Blank.{offered_check, filled_after, LeastChoice}
use Rattle.model.specs.MemoryCheck.{memory_check, entry_check}
use Rattle.model.specs.Faults.{is_opening, is_fault, Through}
use Rattle.model.specs.Exactness.{Accepts, CheckNo, MemoryPasses, MemoryNo, EntryPasses, EntryNo, Finishes}
use Rattle.model.specs.Turns.{Task, waiting, World, running, settled, standing_by, at_start, Allowed}
use Rattle.model.specs.Safety.{AllFit, Visits, TurnSafe}

-- What a call gave back for what it was handed, and what it left of the memory that it was lent: the contracts of src/lib.rt, as
-- proofs/Contracts.antt shows.
abbrev pub CheckGave : (types tags : List ℕ) → Code → CheckAnswer → Type 0
CheckGave types tags C v = v ≡ check_answer types tags C

abbrev pub OfferedCheckGave : (types tags : List ℕ) → Code → (offered : List ℕ) → OfferedAnswer → Type 0
OfferedCheckGave types tags C offered a = a ≡ offered_check types tags C offered

-- what it left of the block table
abbrev pub FillGave : (types tags : List ℕ) → Code → (offered : List ℕ) → OfferedAnswer → (left : List ℕ) → Type 0
FillGave types tags C offered a left = OfferedCheckGave types tags C offered a × (left ≡ filled_after a C.blocks offered)

abbrev pub MemoryCheckGave : (types tags allocations memory : List ℕ) → Verdict → (left : List ℕ) → Type 0
MemoryCheckGave types tags allocations memory v left = (v ≡ memory_check types tags allocations memory) × (left ≡ memory)

abbrev pub EntryCheckGave : (types tags allocations memory : List ℕ) → Code → Ready → Verdict → (left : List ℕ) → Type 0
EntryCheckGave types tags allocations memory C g v left = (v ≡ entry_check types tags allocations memory C g) × (left ≡ memory)

abbrev pub RunGave : Code → (memory : List ℕ) → Ready → (budget : ℕ) → RunAnswer → (left : List ℕ) → Type 0
RunGave C memory g budget a left = (a ≡ returned (run C memory g budget)) × (left ≡ (run C memory g budget).memory)

-- ---- demands 1 and 2: what the answer of a call says, whatever it was handed

-- the answer of a run, with the memory that it left, is that of a state
pub record Shows (P : Routine) (n : ℕ) (s : State) (a : RunAnswer) (left : List ℕ) : Type 0 where
  pub number : a.number ≡ n
  pub block : a.block ≡ s.block
  pub index : a.index ≡ index_of P s
  pub finished : a.finished ≡ s.finished
  pub registers : a.registers ≡ s.registers
  pub memory : left ≡ s.memory

module _ (C : Code) (memory : List ℕ) (g : Ready) (budget : ℕ) (a : RunAnswer) (left : List ℕ) where
  abbrev pub P : Routine
  P = routine_of C

  -- refused before its first instruction: the first no and its place, everything else as it was handed in
  pub record RefusalLeft : Type 0 where
    pub refusal : Refusal
    pub first : FirstRefused refusal (run_questions C memory g.block)
    pub number : a.number ≡ number_of refusal.question
    pub place : (a.block ≡ refusal.first) × (a.index ≡ refusal.second)
    pub finished : a.finished ≡ 0
    pub registers : a.registers ≡ g.registers
    pub unchanged : left ≡ memory

  -- 'a run that faults leaves memory and registers as they were before the faulting instruction'
  pub record FaultLeft : Type 0 where
    pub question : Question
    pub state : State
    pub through : Through C memory g budget state
    pub fault : step P state ≡ faults question state
    pub shows : Shows P (number_of question) state a left

  pub record PauseLeft : Type 0 where
    pub state : State
    pub through : Through C memory g budget state
    pub finished : state.finished ≡ budget
    pub first : state.offset ≡ 0
    pub shows : Shows P 40 state a left

  pub record HaltLeft : Type 0 where
    pub state : State
    pub last : State
    pub through : Through C memory g budget state
    pub halt : step P state ≡ halts last
    pub shows : Shows P 0 last a left

  -- one of the four, by the number
  pub record RunSays : Type 0 where
    pub refused : is_opening a.number ≡ true → RefusalLeft
    pub faulted : is_fault a.number ≡ true → FaultLeft
    pub paused : a.number ≡ 40 → PauseLeft
    pub paused_exactly : (a.number ≡ 40) ↔ Finishes C memory g budget
    pub halted : a.number ≡ 0 → HaltLeft

pub record Answered : Type 0 where
  pub checks : (types tags : List ℕ) (C : Code) (v : CheckAnswer) → CheckGave types tags C v
      → ((v.number ≡ 0) ↔ Accepts types tags C) × ((r : Refusal) → (verdict_in v ≡ refusing r) ↔ CheckNo types tags C r)
      × (v.asked ≡ asked_of types tags C) × Cost types tags C
  pub offers : (types tags : List ℕ) (C : Code) (offered : List ℕ) (a : OfferedAnswer) → OfferedCheckGave types tags C offered a
      → LeastChoice types tags C offered a
  -- An accepted routine is accepted with the table that it is left, at the same cost: with it, it enters demand 3. The table of a refused one
  -- stays, and that of a routine which the check accepts as it is: so a filling changes no table of demand 3.
  pub fills : (types tags : List ℕ) (C : Code) (offered : List ℕ) (a : OfferedAnswer) (left : List ℕ) → FillGave types tags C offered a left
      → LeastChoice types tags C offered a
      × (a.number ≡ 0 → (v : CheckAnswer) → CheckGave types tags (code_of left C.code) v → (v.number ≡ 0) × (v.asked ≡ a.asked))
      × ((a.number ≡ 0 → ⊥) → left ≡ C.blocks)
      × ((v : CheckAnswer) → CheckGave types tags C v → v.number ≡ 0 → left ≡ C.blocks)
  pub memory_checks : (types tags allocations memory : List ℕ) (v : Verdict) (left : List ℕ) → MemoryCheckGave types tags allocations memory v left
      → ((v.number ≡ 0) ↔ MemoryPasses types tags allocations memory)
      × ((r : Refusal) → (v ≡ refusing r) ↔ MemoryNo types tags allocations memory r) × (left ≡ memory)
  pub entry_checks : (types tags allocations memory : List ℕ) (C : Code) (g : Ready) (v : Verdict) (left : List ℕ)
      → EntryCheckGave types tags allocations memory C g v left
      → ((v.number ≡ 0) ↔ EntryPasses types tags allocations memory C g)
      × ((r : Refusal) → (v ≡ refusing r) ↔ EntryNo types tags allocations memory C g r) × (left ≡ memory)
  pub runs : (C : Code) (memory : List ℕ) (g : Ready) (budget : ℕ) (a : RunAnswer) (left : List ℕ) → RunGave C memory g budget a left
      → RunSays C memory g budget a left

-- ---- demand 3

abbrev pub with : World → List ℕ → World
with w left = record { memory = left; standing = w.standing }

module _ (types tags allocations memory : List ℕ) (n : ℕ) (tasks : ℕ → Task) where
  -- The checks gave 0: of memory, of each routine, and of its eight registers over some memory with these allocations.
  pub record Passed : Type 0 where
    pub memory_passed : (v : Verdict) × (left : List ℕ) × MemoryCheckGave types tags allocations memory v left × (v.number ≡ 0)
    pub accepted : (i : ℕ) → i < n → (v : CheckAnswer) × CheckGave types tags (tasks i).code v × (v.number ≡ 0)
    pub eight : (i : ℕ) → i < n → length (tasks i).start.registers ≡ 8
    pub entered : (i : ℕ) → i < n → (m : List ℕ) × (v : Verdict) × (left : List ℕ)
        × EntryCheckGave types tags allocations m (tasks i).code (tasks i).start v left × (v.number ≡ 0)

  -- Lists of calls, and the world that each leads to. Every call is handed memory as the one before left it, and a turn its routine as
  -- it stands; a check goes over any tables, a filling over any routine's. A call over another memory leads nowhere else; the turn of a
  -- halted routine is no call.
  pub data Calls : World → Type 0 where
    none : Calls (at_start tasks n memory)
    checked : {w : World} (types' tags' : List ℕ) (C : Code) (v : CheckAnswer) → Calls w → CheckGave types' tags' C v → Calls w
    offer_checked : {w : World} (types' tags' : List ℕ) (C : Code) (offered : List ℕ) (a : OfferedAnswer) → Calls w
        → OfferedCheckGave types' tags' C offered a → Calls w
    filled : {w : World} (types' tags' : List ℕ) (C : Code) (offered : List ℕ) (a : OfferedAnswer) (left : List ℕ) → Calls w
        → FillGave types' tags' C offered a left → Calls w
    memory_checked : {w : World} (types' tags' allocations' : List ℕ) (v : Verdict) (left : List ℕ) → Calls w
        → MemoryCheckGave types' tags' allocations' w.memory v left → Calls (with w left)
    entry_checked : {w : World} (types' tags' allocations' : List ℕ) (C : Code) (g : Ready) (v : Verdict) (left : List ℕ) → Calls w
        → EntryCheckGave types' tags' allocations' w.memory C g v left → Calls (with w left)
    turned : {w : World} (i budget : ℕ) (g : Ready) (a : RunAnswer) (left : List ℕ) → Calls w → w.standing i ≡ waiting g
        → RunGave (tasks i).code w.memory g budget a left → Calls (settled w i left (standing_by a))
    ran : {w : World} (C : Code) (g : Ready) (budget : ℕ) (a : RunAnswer) (left : List ℕ) → Calls w
        → Allowed (running C g budget) w → RunGave C w.memory g budget a left → Calls (with w left)

  -- Everything fits, and both checks, asked again, give 0.
  pub record Holds (w : World) : Type 0 where
    pub fit : AllFit types tags allocations memory n tasks w
    pub memory_passes : (v : Verdict) (left : List ℕ) → MemoryCheckGave types tags allocations w.memory v left → v.number ≡ 0
    pub entry_passes : (i : ℕ) (g : Ready) (v : Verdict) (left : List ℕ) → i < n → w.standing i ≡ waiting g
        → EntryCheckGave types tags allocations w.memory (tasks i).code g v left → v.number ≡ 0

  -- A turn answers 0 or 40, is safe at every state that it passes through, and at every block end inside it all holds.
  pub record TurnHolds (w : World) (i budget : ℕ) (g : Ready) (a : RunAnswer) : Type 0 where
    pub answers : eqb a.number 0 or eqb a.number 40 ≡ true
    pub safe : TurnSafe types tags allocations memory n tasks w i budget g
    pub block_ends : (s : State) → Visits types tags allocations memory n tasks w i budget g s → s.offset ≡ 0
        → Holds (settled w i s.memory (waiting (ready s.block s.registers)))

  -- One claim about a whole list: all holds at the start and after each call, each turn is as above, and no other call changes anything.
  abbrev pub Delivers : {w : World} → Calls w → Type 0
  Delivers none = Holds (at_start tasks n memory)
  Delivers (checked types' tags' C v p g) = Delivers p
  Delivers (offer_checked types' tags' C offered a p g) = Delivers p
  Delivers (filled types' tags' C offered a left p g) = Delivers p
  Delivers (memory_checked {w = w} types' tags' allocations' v left p g) = Delivers p × (with w left ≡ w) × Holds (with w left)
  Delivers (entry_checked {w = w} types' tags' allocations' C g v left p q) = Delivers p × (with w left ≡ w) × Holds (with w left)
  Delivers (turned {w = w} i budget g a left p e q) = Delivers p × TurnHolds w i budget g a × Holds (settled w i left (standing_by a))
  Delivers (ran {w = w} C g budget a left p o q) = Delivers p × (with w left ≡ w) × Holds (with w left)

unfoldable pub Delivered : Type 0
Delivered =
    (types tags allocations memory : List ℕ) (n : ℕ) (tasks : ℕ → Task) → Passed types tags allocations memory n tasks
    → (w : World) (calls : Calls types tags allocations memory n tasks w) → Delivers types tags allocations memory n tasks calls
