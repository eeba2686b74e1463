-- How far the code has read a block, and what it was lent of the routine.
use Rattle.std.specs.Prelude.{◌≡◌, List, [], ◌∷◌, ℕ, ◌+◌, ◌-◌, ◌<◌, length, take, drop}
use Rattle.model.specs.declared.CheckAnswer.{CheckAnswer}
use Rattle.model.specs.Question.{Outcome, then, in_order, verdict_of}
use Rattle.model.specs.Table.{Tables, tables_of, Code, Routine, rows, head_of, start_of, type_lengths_ask, code_lengths_ask, types_ask, lengths_ask}
use Rattle.model.specs.Reading.{Reading}
use Rattle.model.specs.Check.{read_on, judge}
use Rattle.model.specs.Cost.{past, asked_at, sum_on, sum_in, sum_from, counting}
use Rattle.model.specs.Blank.{in_force}
use Rattle.blank.specs.declared.Filling.{Filling}
use Rattle.verify.specs.declared.lent.Routine.{Routine as Lent}

-- the type and tag tables of a routine, as they are lent
abbrev pub tables_lent : Lent → Tables
tables_lent t = tables_of t.types.now t.tags.now

-- ---- the tables

-- Q1 to Q5
abbrev pub first_questions : List ℕ → List ℕ → Code → List (Outcome (Unit {0}))
first_questions types tags C =
    type_lengths_ask (length types) (length tags)
    ∷ code_lengths_ask (length C.blocks) (length C.code)
    ∷ types_ask types tags
    ∷ lengths_ask C.blocks (length C.code)
    ∷ []

unfoldable pub first_ask : List ℕ → List ℕ → Code → Outcome (Unit {0})
first_ask types tags C = in_order (first_questions types tags C)

-- ---- a routine as its tables and a filling give it

-- P has the blocks of a table, and for their annotations the rows in force
pub record Annotated (P : Routine) (blocks offered : List ℕ) (f : Filling) : Type 0 where
  pub count : P.count ≡ rows blocks
  pub annotation : (b : ℕ) → b < rows blocks → P.annotation b ≡ in_force blocks offered f.blanks f.places b

-- and its code is divided as the block table says
pub record Divided (P : Routine) (C : Code) : Type 0 where
  pub long : (b : ℕ) → P.long b ≡ head_of C.blocks b
  pub start : (b : ℕ) → P.start b ≡ start_of C.blocks b
  pub part : (b : ℕ) → P.part b ≡ take (head_of C.blocks b) (drop (start_of C.blocks b) C.code)

-- the code of block b is a part of the code that starts at first
pub record BlockAt (P : Routine) (b first : ℕ) (part : List ℕ) : Type 0 where
  pub start : P.start b ≡ first
  pub code : P.part b ≡ part
  pub long : P.long b ≡ length part

-- A block of n instructions, read from st on, comes to what its last comes to, past the outcome o of those before it: there the reading is
-- st', and k fit questions have been put.
pub record ReadSoFar (𝒯 : Tables) (P : Routine) (b n : ℕ) (st : Reading) (o : Outcome (Unit {0})) (k : ℕ) (st' : Reading) : Type 0 where
  pub rest : read_on 𝒯 P b (P.long b) 0 st ≡ then o λ _. read_on 𝒯 P b 1 (n - 1) st'
  pub count : sum_on 𝒯 P (asked_at 𝒯 P) b (P.long b) 0 st ≡ k + past o λ _. sum_on 𝒯 P (asked_at 𝒯 P) b 1 (n - 1) st'

-- the fit questions that block b puts
abbrev pub asked_in : Tables → Routine → ℕ → ℕ
asked_in 𝒯 P b = sum_in 𝒯 P (asked_at 𝒯 P) b

-- all blocks, and the fit questions that they put
abbrev pub judged : Tables → Routine → CheckAnswer
judged 𝒯 P = counting (verdict_of (judge 𝒯 P)) (sum_from 𝒯 P (asked_at 𝒯 P) P.count 0)
