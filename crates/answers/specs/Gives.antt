-- What a function that answers promises.
use Rattle.std.specs.Prelude.{◌≡◌, Bool, true, false, List, [], ◌++◌, ℕ, ◌+◌, ◌≤◌, length, take}
use Rattle.reader.specs.declared.Line.{Line}
use Rattle.reader.specs.declared.Pools.{Pools}
use Rattle.grammar.specs.declared.Phase.{Phase}
use Rattle.grammar.specs.declared.Phase.TheVariants.{Gap, Malformed}
use Rattle.protocol.specs.Said.{Said, parts_in}
use Rattle.output.specs.Digits.{printable}
use Rattle.answers.specs.declared.Given.{Given}
use Rattle.answers.specs.declared.Style.{Style}
use Rattle.answers.specs.Answers.{Answer, unread, request_answer, words_of, line_text, remark_text, refused}

-- no answer is longer: a run's with the memory of a whole pool
abbrev pub longest : ℕ
longest = 1500000

-- an answer's text stands after what the buffer held, and what the table of words is to be asked is the answer's
pub record Gives (before : List ℕ) (a : Answer) (g : Given) (after : List ℕ) : Type 0 where
  pub text : after ≡ before ++ a.text
  pub given : g ≡ a.given
  pub room : length after ≤ length before + longest

-- a line at its end is a request or malformed
abbrev pub speaks : Phase → Bool
speaks Malformed = true
speaks Gap = true
speaks _ = false

-- the answer to a line at its end that has one
abbrev pub answer_in : Phase → Line → Pools → Answer
answer_in Malformed l p = unread l.stop
answer_in _ l p = request_answer l.form (parts_in p.words p.ends l.marked) (take l.stored p.longs)

abbrev pub answer_at : Line → Pools → Answer
answer_at l p = answer_in l.phase l p

-- words after an answer, where they are asked for: a text without line ends, made of some row of the table of words
pub record Remarked (worded : Bool) (g : Given) (before after : List ℕ) : Type 0 where
  pub remark : List ℕ
  pub seen : printable remark ≡ true
  pub plain : worded ≡ false → remark ≡ []
  pub told : worded ≡ true → (row : List ℕ) × (remark ≡ words_of g row)
  pub text : after ≡ before ++ remark
  pub room : length after ≤ length before + 16084

-- what a line says is answered, with words after it where they are asked for
pub record Replied (s : Style) (count : ℕ) (what : Said) (before : List ℕ) (flag : Bool) (after : List ℕ) : Type 0 where
  pub remark : List ℕ
  pub seen : printable remark ≡ true
  pub plain : s.worded ≡ false → remark ≡ []
  pub told : s.worded ≡ true → (row : List ℕ) × (remark ≡ remark_text what row)
  pub text : after ≡ before ++ line_text s.lined count what remark
  pub refusal : flag ≡ refused what
  pub room : length after ≤ length before + 1600000
