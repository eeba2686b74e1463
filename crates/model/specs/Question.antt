-- Questions, the first no with its place, and the verdict made of it: what every call answers with.
use Rattle.std.specs.Prelude.{◌≡◌, Bool, true, false, Result, List, [], ◌∷◌, ℕ, zero, suc, ◌+◌, ◌≤◌, ◌<◌, eqb}
use Rattle.model.specs.declared.Verdict.{Verdict}
pub use Rattle.std.specs.Prelude.{Ok as ok, Err as refused}
pub use Rattle.model.specs.declared.questions.Question.{Question}
pub use Rattle.model.specs.declared.questions.Question.TheVariants.{TableLength as q1, FieldCount as q2, FieldType as q3, Tag as q4, BlockLength as q5, Annotation as q6}
pub use Rattle.model.specs.declared.questions.Question.TheVariants.{Instruction as q7, BlockEnd as q8, Target as q9, Reference as q10, Offset as q11, OtherRecord as q12}
pub use Rattle.model.specs.declared.questions.Question.TheVariants.{OpenRecord as q13, TakenEdge as q14, UntakenEdge as q15, StartBlock as q16, MemoryLength as q17, Address as q18}
pub use Rattle.model.specs.declared.questions.Question.TheVariants.{Allocation as q19, Field as q20, Register as q21, LockedField as q23, OfferedRows as q32, NoChoice as q33}
pub use Rattle.model.specs.declared.questions.Refusal.{Refusal}

-- ---- tests

infixr 35 ◌and◌
infixr 30 ◌or◌
unfoldable pub ◌and◌ : Bool → Bool → Bool
true and b = b
false and b = false

unfoldable pub ◌or◌ : Bool → Bool → Bool
true or b = true
false or b = b

abbrev pub pick {ℓ} : {A : Type ℓ} → Bool → A → A → A
pick true a b = a
pick false a b = b

-- each of the n numbers from i on passes
unfoldable pub every : ℕ → ℕ → (ℕ → Bool) → Bool
every zero i f = true
every (suc n) i f = f i and every n (suc i) f

-- ---- 01: 'The questions, in order', and those of document 02. 22 was the number of one that its card 6 took out, and is given to no other.

abbrev pub number_of : Question → ℕ
number_of q1 = 1
number_of q2 = 2
number_of q3 = 3
number_of q4 = 4
number_of q5 = 5
number_of q6 = 6
number_of q7 = 7
number_of q8 = 8
number_of q9 = 9
number_of q10 = 10
number_of q11 = 11
number_of q12 = 12
number_of q13 = 13
number_of q14 = 14
number_of q15 = 15
number_of q16 = 16
number_of q17 = 17
number_of q18 = 18
number_of q19 = 19
number_of q20 = 20
number_of q21 = 21
number_of q23 = 23
number_of q32 = 32
number_of q33 = 33

abbrev pub questions : List Question
questions =
    q1 ∷ q2 ∷ q3 ∷ q4 ∷ q5 ∷ q6 ∷ q7 ∷ q8 ∷ q9 ∷ q10 ∷ q11 ∷ q12 ∷ q13 ∷ q14 ∷ q15 ∷ q16 ∷ q17 ∷ q18 ∷ q19 ∷ q20 ∷ q21 ∷ q23
    ∷ q32 ∷ q33 ∷ []

-- the first of some questions that has a number, q1 where none has
abbrev pub with_number : ℕ → List Question → Question
with_number n [] = q1
with_number n (q ∷ qs) = pick (eqb (number_of q) n) q (with_number n qs)

-- the question of a number
unfoldable pub question_of : ℕ → Question
question_of n = with_number n questions

-- n is the number of a question
abbrev pub is_number : ℕ → Bool
is_number n = eqb (number_of (question_of n)) n

-- or 0, which says that no question had a no
abbrev pub is_answer : ℕ → Bool
is_answer n = pick (eqb n 0) true (is_number n)

-- 01: 'The first no gives the number and a place of two numbers'
abbrev pub refusal : Question → ℕ → ℕ → Refusal
refusal q a b = record { question = q; first = a; second = b }

-- what follows a row of questions: a result where none had a no, else the first no
abbrev pub Outcome : Type 0 → Type 0
Outcome A = Result A Refusal

-- a question: what follows after a yes, or else what a no comes to
unfoldable pub provided : {A : Type 0} → Bool → A → (Unit {0} → A) → A
provided true x k = k tt
provided false x k = x

abbrev pub ask : {A : Type 0} → Bool → Refusal → (Unit {0} → Outcome A) → Outcome A
ask b r k = provided b (refused r) k

-- questions, and those that follow where none of them had a no
unfoldable pub then : {A B : Type 0} → Outcome A → (A → Outcome B) → Outcome B
then (ok a) k = k a
then (refused r) k = refused r

-- one question alone
abbrev pub asked : Bool → Refusal → Outcome (Unit {0})
asked b r = ask b r (λ _. ok tt)

-- rows of questions in order, each put where none before it had a no
unfoldable pub in_order : List (Outcome (Unit {0})) → Outcome (Unit {0})
in_order [] = ok tt
in_order (q ∷ rest) = then q λ _. in_order rest

-- the same question of each of the n rows from i on, in order
unfoldable pub first_no : ℕ → ℕ → (ℕ → Outcome (Unit {0})) → Outcome (Unit {0})
first_no zero i f = ok tt
first_no (suc n) i f = then (f i) (λ _. first_no n (suc i) f)

-- ---- no no, and the first no

-- each row of questions has no no
abbrev pub AllPassed : List (Outcome (Unit {0})) → Type 0
AllPassed [] = Unit {0}
AllPassed (q ∷ rest) = (q ≡ ok tt) × AllPassed rest

-- the first row of questions with a no: those before it have none
pub data FirstRefused (r : Refusal) : List (Outcome (Unit {0})) → Type 0 where
  at_once : {q : Outcome (Unit {0})} {rest : List (Outcome (Unit {0}))} → q ≡ refused r → FirstRefused r (q ∷ rest)
  further : {q : Outcome (Unit {0})} {rest : List (Outcome (Unit {0}))} → q ≡ ok tt → FirstRefused r rest → FirstRefused r (q ∷ rest)

-- the first row with a no of the n rows from i on: those before it have none
pub record FirstNo (n i : ℕ) (f : ℕ → Outcome (Unit {0})) (r : Refusal) : Type 0 where
  pub row : ℕ
  pub low : i ≤ row
  pub high : row < i + n
  pub here : f row ≡ refused r
  pub before : (j : ℕ) → i ≤ j → j < row → f j ≡ ok tt

-- 01: 'A check without a no gives 0 at 0, 0'
abbrev pub passed : Verdict
passed = record { number = 0; first = 0; second = 0 }

abbrev pub refusing : Refusal → Verdict
refusing r = record { number = number_of r.question; first = r.first; second = r.second }

unfoldable pub verdict_of : {A : Type 0} → Outcome A → Verdict
verdict_of (ok a) = passed
verdict_of (refused r) = refusing r
