-- What the calls for C leave in the words that the caller lends.
use Rattle.std.specs.Prelude.{◌≡◌, List, ◌∷◌, [], ℕ, ◌/◌, ◌%◌}
use Rattle.std.specs.Borrow.{Bor, MutBor}
use denote.Triple.Both.{Both}
use Rattle.model.specs.declared.Verdict.{Verdict}
use Rattle.model.specs.declared.CheckAnswer.{CheckAnswer}
use Rattle.model.specs.declared.OfferedAnswer.{OfferedAnswer}
use Rattle.model.specs.declared.RunAnswer.{RunAnswer}
use Rattle.model.specs.Machine.{Run, returned}
use Rattle.model.specs.Blank.{filled_after}

-- words that a call is lent, as they are at entry and at exit: to read, and to write
abbrev pub Lent : Type 0
Lent = Both (Bor (List ℕ)) (Bor (List ℕ))

abbrev pub LentMut : Type 0
LentMut = Both (MutBor (List ℕ)) (MutBor (List ℕ))

-- the words at entry
abbrev pub given : Lent → List ℕ
given x = x.entry.now

-- the place of a verdict
abbrev pub place_of : Verdict → List ℕ
place_of v = v.first ∷ v.second ∷ []

-- a check returns its number, and leaves its place
abbrev pub Answers : ℕ → LentMut → Verdict → Type 0
Answers r place v = (r ≡ v.number) × (place.exit.now ≡ place_of v)

-- the place and the count of a routine's verdict
abbrev pub place_and_count : CheckAnswer → List ℕ
place_and_count a = a.first ∷ a.second ∷ a.asked ∷ []

-- the check of a routine leaves them both
abbrev pub AnswersCounting : ℕ → LentMut → CheckAnswer → Type 0
AnswersCounting r verdict a = (r ≡ a.number) × (verdict.exit.now ≡ place_and_count a)

-- the same of a check with offered rows
abbrev pub counted_place : OfferedAnswer → List ℕ
counted_place a = a.first ∷ a.second ∷ a.asked ∷ []

-- it leaves the places chosen beside them
abbrev pub AnswersChoosing : ℕ → LentMut → LentMut → OfferedAnswer → Type 0
AnswersChoosing r verdict choice a = (r ≡ a.number) × (verdict.exit.now ≡ counted_place a) × (choice.exit.now ≡ a.choice)

-- and a filling the block table as it then is
abbrev pub Fills : ℕ → LentMut → Lent → LentMut → LentMut → OfferedAnswer → Type 0
Fills r blocks offered verdict choice a = AnswersChoosing r verdict choice a × (blocks.exit.now ≡ filled_after a blocks.entry.now (given offered))

-- block, code index, and blocks finished by low and high word
abbrev pub ended_at : RunAnswer → List ℕ
ended_at r = r.block ∷ r.index ∷ r.finished % 4294967296 ∷ r.finished / 4294967296 ∷ []

-- a run returns its number, and leaves memory, registers, and where it ended
abbrev pub Runs : ℕ → LentMut → LentMut → LentMut → Run → Type 0
Runs r memory registers answer a =
    (r ≡ a.number)
    × (memory.exit.now ≡ a.memory)
    × (registers.exit.now ≡ a.registers)
    × (answer.exit.now ≡ ended_at (returned a))
