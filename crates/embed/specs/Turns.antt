-- Demands 1 and 3 of the calls for C: what the answer of a run says, and, of every list of calls that were made, all of demand 3. Nothing
-- here but the statements; they are proved in proofs/Delivered.antt.
use Rattle.std.specs.Prelude.{◌≡◌, List, ℕ, ◌+◌, ◌*◌, ◌<◌, length, get_or}
use Rattle.model.specs.declared.Verdict.{Verdict}
use Rattle.model.specs.declared.RunAnswer.{RunAnswer}
use Rattle.model.specs.Table.{Code}
use Rattle.model.specs.Machine.{run, returned, Ready}
use Rattle.model.specs.Cost.{check_answer}
use Rattle.model.specs.Blank.{offered_check, filled_after}
use Rattle.model.specs.MemoryCheck.{memory_check, entry_check}
use Rattle.model.specs.Turns.{Task, waiting, World, running, settled, standing_by, at_start, Allowed}
use Rattle.loader.specs.Delivery.{RunSays, with, Holds, TurnHolds}
use Rattle.embed.specs.Lent.{place_of, place_and_count, counted_place, ended_at}

-- What a call gave back for what it was handed: its number, the words that it filled, and what it left of the memory that it was lent. These
-- are the contracts of src/lib.rt, as proofs/Contracts.antt shows.
abbrev pub Said : Verdict → (r : ℕ) → (place : List ℕ) → Type 0
Said v r place = (r ≡ v.number) × (place ≡ place_of v)

abbrev pub CheckSaid : (types tags : List ℕ) → Code → (r : ℕ) → (verdict : List ℕ) → Type 0
CheckSaid types tags C r verdict = (r ≡ (check_answer types tags C).number) × (verdict ≡ place_and_count (check_answer types tags C))

abbrev pub OfferedCheckSaid : (types tags : List ℕ) → Code → (offered : List ℕ) → (r : ℕ) → (verdict choice : List ℕ) → Type 0
OfferedCheckSaid types tags C offered r verdict choice =
    (r ≡ (offered_check types tags C offered).number)
    × (verdict ≡ counted_place (offered_check types tags C offered))
    × (choice ≡ (offered_check types tags C offered).choice)

abbrev pub FillSaid : (types tags : List ℕ) → Code → (offered : List ℕ) → (r : ℕ) → (verdict choice left : List ℕ) → Type 0
FillSaid types tags C offered r verdict choice left =
    OfferedCheckSaid types tags C offered r verdict choice × (left ≡ filled_after (offered_check types tags C offered) C.blocks offered)

abbrev pub MemoryCheckSaid : (types tags allocations memory : List ℕ) → (r : ℕ) → (place left : List ℕ) → Type 0
MemoryCheckSaid types tags allocations memory r place left = Said (memory_check types tags allocations memory) r place × (left ≡ memory)

abbrev pub EntryCheckSaid : (types tags allocations memory : List ℕ) → Code → Ready → (r : ℕ) → (place left : List ℕ) → Type 0
EntryCheckSaid types tags allocations memory C g r place left = Said (entry_check types tags allocations memory C g) r place × (left ≡ memory)

abbrev pub RunSaid : Code → (memory : List ℕ) → Ready → (budget r : ℕ) → (left registers answer : List ℕ) → Type 0
RunSaid C memory g budget r left registers answer =
    (r ≡ (run C memory g budget).number)
    × (left ≡ (run C memory g budget).memory)
    × (registers ≡ (run C memory g budget).registers)
    × (answer ≡ ended_at (returned (run C memory g budget)))

-- the answer of a run that the number, the eight registers and the four words say
abbrev pub answer_in : ℕ → (registers answer : List ℕ) → RunAnswer
answer_in r registers answer =
    record {
      number = r;
      block = get_or answer 0 0;
      index = get_or answer 1 0;
      finished = get_or answer 2 0 + get_or answer 3 0 * 4294967296;
      registers = registers;
    }

-- by its number the run was refused, faulted, paused or halted, and the words are those of the state that it ended in
unfoldable pub AnsweredInC : Type 0
AnsweredInC =
    (C : Code) (memory : List ℕ) (g : Ready) (budget r : ℕ) (left registers answer : List ℕ)
    → RunSaid C memory g budget r left registers answer → RunSays C memory g budget (answer_in r registers answer) left

module _ (types tags allocations memory : List ℕ) (n : ℕ) (tasks : ℕ → Task) where
  -- The checks returned 0: of memory, of each routine, and of its eight registers over some memory with these allocations.
  pub record PassedInC : Type 0 where
    pub memory_passed : (place left : List ℕ) × MemoryCheckSaid types tags allocations memory 0 place left
    pub accepted : (i : ℕ) → i < n → (verdict : List ℕ) × CheckSaid types tags (tasks i).code 0 verdict
    pub eight : (i : ℕ) → i < n → length (tasks i).start.registers ≡ 8
    pub entered : (i : ℕ) → i < n → (m place left : List ℕ) × EntryCheckSaid types tags allocations m (tasks i).code (tasks i).start 0 place left

  -- Lists of calls, and the world that each leads to, as in Delivery of crate loader.
  pub data CCalls : World → Type 0 where
    none : CCalls (at_start tasks n memory)
    checked : {w : World} (types' tags' : List ℕ) (C : Code) (r : ℕ) (verdict : List ℕ) → CCalls w → CheckSaid types' tags' C r verdict → CCalls w
    offer_checked : {w : World} (types' tags' : List ℕ) (C : Code) (offered : List ℕ) (r : ℕ) (verdict choice : List ℕ) → CCalls w
        → OfferedCheckSaid types' tags' C offered r verdict choice → CCalls w
    filled : {w : World} (types' tags' : List ℕ) (C : Code) (offered : List ℕ) (r : ℕ) (verdict choice left : List ℕ) → CCalls w
        → FillSaid types' tags' C offered r verdict choice left → CCalls w
    memory_checked : {w : World} (types' tags' allocations' : List ℕ) (r : ℕ) (place left : List ℕ) → CCalls w
        → MemoryCheckSaid types' tags' allocations' w.memory r place left → CCalls (with w left)
    entry_checked : {w : World} (types' tags' allocations' : List ℕ) (C : Code) (g : Ready) (r : ℕ) (place left : List ℕ) → CCalls w
        → EntryCheckSaid types' tags' allocations' w.memory C g r place left → CCalls (with w left)
    turned : {w : World} (i budget : ℕ) (g : Ready) (r : ℕ) (left registers answer : List ℕ) → CCalls w → w.standing i ≡ waiting g
        → RunSaid (tasks i).code w.memory g budget r left registers answer
        → CCalls (settled w i left (standing_by (answer_in r registers answer)))
    ran : {w : World} (C : Code) (g : Ready) (budget r : ℕ) (left registers answer : List ℕ) → CCalls w → Allowed (running C g budget) w
        → RunSaid C w.memory g budget r left registers answer → CCalls (with w left)

  abbrev pub AllHolds : World → Type 0
  AllHolds w = Holds types tags allocations memory n tasks w

  -- One claim about a whole list: all holds at the start and after each call, each turn is as demand 3 has it, and no other call changes
  -- anything.
  abbrev pub DeliversInC : {w : World} → CCalls w → Type 0
  DeliversInC none = AllHolds (at_start tasks n memory)
  DeliversInC (checked types' tags' C r verdict p q) = DeliversInC p
  DeliversInC (offer_checked types' tags' C offered r verdict choice p q) = DeliversInC p
  DeliversInC (filled types' tags' C offered r verdict choice left p q) = DeliversInC p
  DeliversInC (memory_checked {w = w} types' tags' allocations' r place left p q) = DeliversInC p × (with w left ≡ w) × AllHolds (with w left)
  DeliversInC (entry_checked {w = w} types' tags' allocations' C g r place left p q) = DeliversInC p × (with w left ≡ w) × AllHolds (with w left)
  DeliversInC (turned {w = w} i budget g r left registers answer p e q) =
      DeliversInC p × TurnHolds types tags allocations memory n tasks w i budget g (answer_in r registers answer)
      × AllHolds (settled w i left (standing_by (answer_in r registers answer)))
  DeliversInC (ran {w = w} C g budget r left registers answer p o q) = DeliversInC p × (with w left ≡ w) × AllHolds (with w left)

unfoldable pub DeliveredInC : Type 0
DeliveredInC =
    (types tags allocations memory : List ℕ) (n : ℕ) (tasks : ℕ → Task) → PassedInC types tags allocations memory n tasks
    → (w : World) (calls : CCalls types tags allocations memory n tasks w) → DeliversInC types tags allocations memory n tasks calls
