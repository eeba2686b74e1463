-- What the program writes for an answer: numbers in decimal with a blank between them.
use Rattle.std.specs.Prelude.{ℕ, zero, suc, ◌+◌, ◌/◌, ◌%◌, List, [], ◌∷◌, ◌++◌, length, nat_lt}
use Rattle.model.specs.Question.{pick}
use Rattle.model.specs.declared.Verdict.{Verdict}
use Rattle.model.specs.declared.OfferedAnswer.{OfferedAnswer}
use Rattle.model.specs.declared.RunAnswer.{RunAnswer}
use Rattle.grammar.specs.Codes.{codes}

-- ---- numbers

-- the last digit of a number
abbrev pub last_digit : ℕ → ℕ
last_digit n = 48 + n % 10

-- the fewest digits of a number, and no more than some
unfoldable pub digits_within : ℕ → ℕ → List ℕ
digits_within zero n = []
digits_within (suc k) n = pick (nat_lt n 10) (last_digit n ∷ []) (digits_within k (n / 10) ++ (last_digit n ∷ []))

-- a number in decimal: no number of the protocol has more than twenty digits
abbrev pub decimal : ℕ → List ℕ
decimal n = digits_within 20 n

-- a blank and a number
abbrev pub field : ℕ → List ℕ
field n = 32 ∷ decimal n

-- a blank and a number for each of a list
unfoldable pub fields : List ℕ → List ℕ
fields [] = []
fields (n ∷ ns) = field n ++ fields ns

-- ---- answers

-- NUMBER A B
abbrev pub verdict_text : Verdict → List ℕ
verdict_text v = decimal v.number ++ (field v.first ++ field v.second)

-- NUMBER A B ASKED P0 P1 P2
abbrev pub check_text : OfferedAnswer → List ℕ
check_text a = decimal a.number ++ (field a.first ++ (field a.second ++ (field a.asked ++ fields a.choice)))

-- NUMBER BLOCK INDEX FINISHED R0 .. R7 COUNT WORDS..
abbrev pub run_text : RunAnswer → List ℕ → List ℕ
run_text r memory =
    decimal r.number
    ++ (field r.block
    ++ (field r.index
    ++ (field r.finished
    ++ (fields r.registers
    ++ (field (length memory)
    ++ fields memory)))))

-- malformed PLACE
abbrev pub malformed_text : ℕ → List ℕ
malformed_text place = codes "malformed" ++ field place
