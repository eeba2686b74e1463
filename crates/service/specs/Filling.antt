-- What the functions that answer the lines of some bytes promise.
use Rattle.std.specs.Prelude.{◌≡◌, ℕ, ◌+◌, ◌<◌, ◌≤◌, Bool, true, false, List, [], ◌++◌, length, drop}
use Rattle.output.specs.Digits.{printable}
use Rattle.reader.specs.declared.Line.{Line}
use Rattle.reader.specs.declared.Pools.{Pools}
use Rattle.reader.specs.Reader.{reader, Fine}
use Rattle.answers.specs.declared.Style.{Style}
use Rattle.answers.specs.declared.Room.{Room}
use Rattle.service.specs.declared.Place.{Place}
use Rattle.service.specs.declared.Filled.{Filled}
use Rattle.answers.specs.Answers.{line_text, remark_text}
use Rattle.service.specs.Served.{Standing, standing, spoken, next_line, served, stood, last_answer, last_refused}

abbrev pub placed : Line → ℕ → Bool → Place
placed l count flag = record { line = l; count = count; refused = flag }

-- more can be read from here, and its answers fit into the buffer after the text that it holds
pub record Ready (p : Place) (held : List ℕ) : Type 0 where
  pub fine : Fine p.line
  pub room : length held ≤ 65536

-- how far an input was read, from a place and the pools
abbrev pub standing_at : Place → Pools → Standing
standing_at p pools = standing (reader p.line pools) p.count p.refused

-- a line at its end was answered, and the next begins
pub record Answered (s : Style) (t : Standing) (before : List ℕ) (u : Standing) (after : List ℕ) : Type 0 where
  pub remark : List ℕ
  pub seen : printable remark ≡ true
  pub plain : s.worded ≡ false → remark ≡ []
  pub told : s.worded ≡ true → (row : List ℕ) × (remark ≡ remark_text (spoken t) row)
  pub text : after ≡ before ++ line_text s.lined t.count (spoken t) remark
  pub next : u ≡ next_line t
  pub room : length after ≤ length before + 1600000

-- ---- what is left comes to the same

-- What is left from here comes to the same: the text that is held and the answers to the rest of the bytes, and how far it is read after them.
pub record Same (s : Style) (t : Standing) (before rest : List ℕ) (u : Standing) (after left : List ℕ) : Type 0 where
  pub stands : stood t rest ≡ stood u left
  pub text : s.worded ≡ false → before ++ served s.lined t rest ≡ after ++ served s.lined u left

-- an input at its end: the answer to a last line that lacks its end
pub record Finished (s : Style) (t : Standing) (before : List ℕ) (p : Place) (after : List ℕ) : Type 0 where
  pub text : s.worded ≡ false → after ≡ before ++ last_answer s.lined t
  pub refusal : p.refused ≡ last_refused t
  pub fine : Fine p.line
  pub room : length after ≤ 2000000

-- some lines of bytes were answered, up to a place among them
pub record Onward (bytes : List ℕ) (from : ℕ) (f : Filled) (after : List ℕ) : Type 0 where
  pub further : from < f.at
  pub inside : f.at ≤ length bytes
  pub fine : Fine f.place.line
  pub room : length after ≤ 2000000

-- the room as it is when a function is called, and when it returns
abbrev pub Fills : Style → (bytes : List ℕ) → (from : ℕ) → Place → (before after : Room) → Filled → Type 0
Fills s bytes from p before after f =
    Same s (standing_at p before.pools) before.out (drop from bytes) (standing_at f.place after.pools) after.out (drop f.at bytes)
