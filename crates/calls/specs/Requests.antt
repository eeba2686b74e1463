-- What a request asks for: a call, at the tables of the request.
use Rattle.std.specs.Prelude.{◌≡◌, List, [], ◌∷◌, ℕ, length, get_or}
use Rattle.model.specs.declared.Verdict.{Verdict}
use Rattle.model.specs.declared.OfferedAnswer.{OfferedAnswer}
use Rattle.model.specs.declared.RunAnswer.{RunAnswer}
use Rattle.model.specs.Table.{code_of}
use Rattle.model.specs.Machine.{Ready, ready, Run, run, returned}
use Rattle.model.specs.Blank.{blanks_of, offered_check}
use Rattle.model.specs.MemoryCheck.{memory_check, entry_check}

-- R0 .. R7, the words of a row after its first
abbrev pub registers_of : List ℕ → List ℕ
registers_of row =
    get_or row 1 0
    ∷ get_or row 2 0
    ∷ get_or row 3 0
    ∷ get_or row 4 0
    ∷ get_or row 5 0
    ∷ get_or row 6 0
    ∷ get_or row 7 0
    ∷ get_or row 8 0
    ∷ []

-- BLOCK R0 .. R7
abbrev pub ready_of : List ℕ → Ready
ready_of row = ready (get_or row 0 0) (registers_of row)

module _ (parts : List (List ℕ)) where
  abbrev pub part : ℕ → List ℕ
  part i = get_or parts i []

  -- TYPES TAGS BLOCKS CODE OFFERED
  abbrev pub check_of : OfferedAnswer
  check_of = offered_check (part 0) (part 1) (code_of (part 2) (part 3)) (part 4)

  -- how many annotations of BLOCKS are blank
  abbrev pub blanks_in : ℕ
  blanks_in = length (blanks_of (part 2))

  -- TYPES TAGS ALLOCATIONS MEMORY
  abbrev pub memory_verdict : Verdict
  memory_verdict = memory_check (part 0) (part 1) (part 2) (part 3)

  -- TYPES TAGS ALLOCATIONS MEMORY BLOCKS CODE BLOCK R0 .. R7
  abbrev pub entry_verdict : Verdict
  entry_verdict = entry_check (part 0) (part 1) (part 2) (part 3) (code_of (part 4) (part 5)) (ready_of (part 6))

  -- BLOCKS CODE MEMORY BLOCK R0 .. R7 BUDGET
  abbrev pub run_of : (budget : ℕ) → Run
  run_of budget = run (code_of (part 0) (part 1)) (part 2) (ready_of (part 3)) budget

  -- a run's answer, and the memory that it left
  abbrev pub Ran : (budget : ℕ) → RunAnswer → (left : List ℕ) → Type 0
  Ran budget a left = let r = run_of budget in (a ≡ returned r) × (left ≡ r.memory)
