-- Demand 3. Nothing here but the statement; Demand3 is proved in proofs/Safe.antt.
use Rattle.std.specs.Prelude.{◌≡◌, List, [], ◌∷◌, ℕ, ◌+◌, ◌<◌, length, get_or}
use Rattle.model.specs.Word.{sum}
use Rattle.model.specs.Table.{Tables, tables_of, Routine, routine_of}
use Rattle.model.specs.Meaning.{RecordMeets, RegistersMeet, Outside, Locked}
use Rattle.model.specs.Allocation.{Allocated}
use Rattle.model.specs.Machine.{load, store, plain, instruction_at, reg, State, halts, step, Passes, Run, answer_at, Ready, ready, begin}
use Rattle.model.specs.ReadingRules.{TypeGiven}
use Rattle.model.specs.Check.{check}
use Rattle.model.specs.MemoryCheck.{memory_check, entry_check}
use Rattle.model.specs.Turns.{Task, waiting, done, World, Call, turn, checking, checking_memory, checking_entry, running}
use Rattle.model.specs.Turns.{settled, turn_run, after_call, at_start, Allowed}

-- The n routines of tasks, over a type table, a tag table, a list of allocations and a memory.
module _ (types tags allocations memory : List ℕ) (n : ℕ) (tasks : ℕ → Task) where
  abbrev pub 𝒯 : Tables
  𝒯 = tables_of types tags

  abbrev pub P : ℕ → Routine
  P i = routine_of (tasks i).code

  -- Each routine is accepted, whoever wrote its annotations; memory and registers passed their checks, the registers of each
  -- routine over some memory with these allocations.
  pub record Checked : Type 0 where
    pub memory_passed : (memory_check types tags allocations memory).number ≡ 0
    pub accepted : (i : ℕ) → i < n → (check types tags (tasks i).code).number ≡ 0
    pub eight : (i : ℕ) → i < n → length (tasks i).start.registers ≡ 8
    pub entered : (i : ℕ) → i < n → (m : List ℕ) × ((entry_check types tags allocations m (tasks i).code (tasks i).start).number ≡ 0)

  -- 02, card 1: 'every locked word must be what it was at the start'
  abbrev pub LockedKept : List ℕ → Type 0
  LockedKept m = (x : ℕ) → Locked 𝒯 (Allocated allocations) x → get_or m x 0 ≡ get_or memory x 0

  -- All records, and the registers of every routine that has not halted, fit their types; each word outside, and each locked word, is as
  -- at the start.
  pub record AllFit (w : World) : Type 0 where
    pub records : (p t : ℕ) → Allocated allocations p t → RecordMeets 𝒯 (Allocated allocations) w.memory p t
    pub registers : (i : ℕ) (g : Ready) → w.standing i ≡ waiting g
        → (g.block < (P i).count) × RegistersMeet 𝒯 (Allocated allocations) ((P i).annotation g.block) g.registers
    pub long : length w.memory ≡ length memory
    pub outside : (x : ℕ) → Outside 𝒯 (Allocated allocations) x → get_or w.memory x 0 ≡ get_or memory x 0
    pub locked_kept : LockedKept w.memory

  -- A type is given to the access through register b at offset c: rb is the start of an allocated record of that type, c is below its
  -- size, and the address does not wrap.
  abbrev pub InField : ℕ → State → ℕ → ℕ → Type 0
  InField i s b c =
      (t : ℕ) × TypeGiven 𝒯 (P i) s.block s.offset b t × Allocated allocations (reg s.registers b) t
      × (c < 𝒯.size t) × (sum (reg s.registers b) c ≡ reg s.registers b + c)

  -- The run is the machine's: its answer is that of the last state passed through, 40 after its budget of blocks, or 0 at a halt.
  pub data Ends (i budget : ℕ) (s₀ : State) (a : Run) : Type 0 where
    pauses : {s : State} → Passes (P i) budget s₀ s → s.finished ≡ budget → s.offset ≡ 0 → a ≡ answer_at (P i) 40 s → Ends i budget s₀ a
    halting : {s s' : State} → Passes (P i) budget s₀ s → s.finished < budget → step (P i) s ≡ halts s' → a ≡ answer_at (P i) 0 s' → Ends i budget s₀ a

  abbrev pub Visits : World → ℕ → ℕ → Ready → State → Type 0
  Visits w i budget g s = Passes (P i) budget (begin g w.memory) s

  -- What holds of every state that a turn passes through, block ends inside the run and the halt among them.
  pub record TurnSafe (w : World) (i budget : ℕ) (g : Ready) : Type 0 where
    pub ends : Ends i budget (begin g w.memory) (turn_run tasks w i budget g)
    pub loads : (s : State) → Visits w i budget g s → (a c d : ℕ) → instruction_at (P i) s.block s.offset ≡ plain (load a c d) → InField i s c d
    pub stores : (s : State) → Visits w i budget g s → (a c d : ℕ) → instruction_at (P i) s.block s.offset ≡ plain (store a c d) → InField i s c d
    pub locked_kept : (s : State) → Visits w i budget g s → LockedKept s.memory
    pub block_ends : (s : State) → Visits w i budget g s → s.offset ≡ 0 → AllFit (settled w i s.memory (waiting (ready s.block s.registers)))
    pub at_halt : (s s' : State) → Visits w i budget g s → step (P i) s ≡ halts s' → AllFit (settled w i s'.memory done)

  abbrev pub CallSafe : Call → World → Type 0
  CallSafe (turn i budget) w = (g : Ready) → w.standing i ≡ waiting g → TurnSafe w i budget g
  CallSafe (checking types' tags' C) w = Unit {0}
  CallSafe (checking_memory types' tags' allocations' memory') w = Unit {0}
  CallSafe (checking_entry types' tags' allocations' memory' C g) w = Unit {0}
  CallSafe (running C g budget) w = Allowed (running C g budget) w → after_call tasks (running C g budget) w ≡ w

  -- Every call of a list is safe, and everything fits before and after each.
  abbrev pub Safe : List Call → World → Type 0
  Safe [] w = AllFit w
  Safe (c ∷ cs) w = AllFit w × CallSafe c w × (Allowed c w → Safe cs (after_call tasks c w))

-- Take one routine or several, in any turns, with any budgets, checks and refused runs anywhere between.
unfoldable pub Demand3 : Type 0
Demand3 =
    (types tags allocations memory : List ℕ) (n : ℕ) (tasks : ℕ → Task) → Checked types tags allocations memory n tasks
    → (calls : List Call) → Safe types tags allocations memory n tasks calls (at_start tasks n memory)
