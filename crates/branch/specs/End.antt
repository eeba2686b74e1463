-- The end of a block as the code asks it: the first no of Q7 to Q9 and Q13, what an edge tells, the rows that edges meet.
use Rattle.std.specs.Prelude.{◌≡◌, List, Result, Option, Some, None, ℕ, suc, ◌+◌, true, not, ltb, eqb, get_or, set}
use Rattle.model.specs.Question.{◌and◌, pick, provided, Outcome, ok, refused, ask, asked}
use Rattle.model.specs.declared.questions.Question.{Question}
use Rattle.model.specs.declared.questions.Question.TheVariants.{OpenRecord as q13, TakenEdge as q14, UntakenEdge as q15}
use Rattle.model.specs.declared.questions.Refusal.{Refusal}
use Rattle.model.specs.Word.{kind_of, with_kind}
use Rattle.model.specs.Table.{Tables, Routine}
use Rattle.model.specs.Machine.{End, Instruction, form_ask}
use Rattle.model.specs.Values.{Values, birthplace, typed, known_equal}
use Rattle.model.specs.Reading.{row_fits, Reading, not_zero, no_base, taken, untaken}
use Rattle.instruction.specs.Form.{target_of, forks}
use Rattle.known.specs.declared.Values.{Values as Held}
use Rattle.known.specs.Numbers.{values_of, dep_at, sibling_of}
use Rattle.access.specs.declared.Reading.{Reading as State}
use Rattle.branch.specs.declared.EdgeFacts.{EdgeFacts}

-- the first no of Q7 to Q9 and Q13 at the last instruction of block b of count blocks, if there is one
unfoldable pub end_no : Instruction → ℕ → ℕ → ℕ → Result (Unit {0}) Question
end_no x b count base = form_ask refused count b true (λ _. ok tt) (λ _. provided (not (ltb base no_base)) (refused q13) λ _. ok tt) x

-- ---- what an edge tells

-- the values with the type word r for v
abbrev pub with_word : Held → ℕ → ℕ → Held
with_word held v r = record { words = set held.words v r; frames = held.frames; constants = held.constants }

-- the state of a reading with these type words
abbrev pub but_words : State → List ℕ → State
but_words state words =
    record {
      registers = state.registers;
      values = record { words = words; frames = state.values.frames; constants = state.values.constants };
      views = state.views;
      since = state.since;
      base = state.base;
      fields = state.fields;
      asked = state.asked;
    }

abbrev pub retyped : Held → ℕ → ℕ → Values
retyped held v r = values_of (with_word held v r) 0 0

-- past an untaken opcode 11 with the constant k
abbrev pub past_zero : Values → ℕ → ℕ → Values
past_zero vs v k = pick (eqb k 0) (not_zero vs v (typed vs v)) vs

-- the type word of v: of this kind and with u known equal to the dependency x, the next kind
unfoldable pub next_kind : Values → ℕ → ℕ → ℕ → ℕ → ℕ
next_kind vs v u kind x =
    let w = get_or vs.words v 0 in
    pick (eqb (kind_of w) kind and known_equal vs (dep_at u) (sibling_of (get_or vs.frames (birthplace v) 0) x)) (with_kind (kind + 1) w) w

-- the constant that v is tested against, as the values of a reading hold it: as the constant + 1, and 0 where there is none
abbrev pub equal_by : Option ℕ → ℕ
equal_by None = 0
equal_by (Some k) = k + 1

abbrev pub tested_by : Option ℕ → ℕ → ℕ
tested_by None v = 0
tested_by (Some k) v = v

-- the values on either edge of a branch, made of those held and of what the edges tell of the value tested
abbrev pub taken_in : EdgeFacts → Held → Values
taken_in t held = values_of (with_word held t.v t.taken) (tested_by t.constant t.v) (equal_by t.constant)

abbrev pub untaken_in : EdgeFacts → Held → Values
untaken_in t held = retyped held t.v t.untaken

pub record Tells (t : EdgeFacts) (held : Held) (e : End) (st : Reading) : Type 0 where
  pub on_taken : taken_in t held ≡ taken e st
  pub on_untaken : untaken_in t held ≡ untaken e st

-- ---- edges

-- Q14 of the one edge, and Q15 of the other, by the values known on each and the row of its block
unfoldable pub fork_ask : Tables → (Question → Refusal) → List ℕ → Values → List ℕ → Values → List ℕ → Outcome (Unit {0})
fork_ask 𝒯 place registers on_taken taken_row on_untaken untaken_row =
    ask (row_fits 𝒯 on_taken 8 taken_row registers) (place q14) λ _.
    asked (row_fits 𝒯 on_untaken 8 untaken_row registers) (place q15)

-- the fit questions that they put
unfoldable pub fork_asked : Tables → List ℕ → Values → List ℕ → ℕ
fork_asked 𝒯 registers on_taken taken_row = 8 + provided (row_fits 𝒯 on_taken 8 taken_row registers) 0 λ _. 8

-- the annotations of the blocks that the end of block b leads to
pub record EdgeRows (P : Routine) (b : ℕ) (e : End) (taken_row untaken_row : List ℕ) : Type 0 where
  pub target : P.annotation (target_of e) ≡ taken_row
  pub next : forks e ≡ true → P.annotation (suc b) ≡ untaken_row
