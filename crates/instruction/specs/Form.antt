-- The form of an instruction word as the code asks it: the first no of Q7, Q8 and Q9, and the instruction that a word is.
use Rattle.std.specs.Prelude.{◌≡◌, Bool, true, false, Result, [], ◌∷◌, ℕ, ◌-◌, ◌/◌, ◌%◌, ◌≤◌, ◌<◌, eqb, get_or}
use Rattle.model.specs.Question.{pick, ok, refused}
use Rattle.model.specs.declared.questions.Question.{Question}
use Rattle.model.specs.Word.{opcode_of, a_of, b_of, c_of}
use Rattle.model.specs.Machine.{Plain, constant, copy, add, subtract, multiply, divide, move, load, store, End, halt, jump, if_equal, if_less}
use Rattle.model.specs.Machine.{Instruction, well_formed, targets_exist, form_ask}

-- the first no at an instruction of block b of count blocks, the block's last or not, if there is one
unfoldable pub form_no : Instruction → Bool → ℕ → ℕ → Result (Unit {0}) Question
form_no x last b count = form_ask refused count b last (λ _. ok tt) (λ _. ok tt) x

-- a well-formed word with opcode 1 to 9
unfoldable pub plain_of : ℕ → Plain
plain_of w =
    let a = a_of w in
    let b = b_of w in
    let c = c_of w in
    get_or
    (constant a c ∷ copy a b ∷ add a b c ∷ subtract a b c ∷ multiply a b c ∷ divide a b c ∷ move a b c ∷ load a b c ∷ store a b c ∷ [])
    (opcode_of w - 1) (constant a c)

-- a well-formed word with opcode 0, 10, 11 or 12
unfoldable pub end_of : ℕ → End
end_of w =
    pick (eqb (opcode_of w) 0) halt
    (get_or (jump (c_of w) ∷ if_equal (a_of w) (c_of w / 256) (c_of w % 256) ∷ if_less (a_of w) (b_of w) (c_of w) ∷ []) (opcode_of w - 10) halt)

-- the block of the taken edge, 0 for a halt, which has none
abbrev pub target_of : End → ℕ
target_of halt = 0
target_of (jump t) = t
target_of (if_equal x k t) = t
target_of (if_less x y t) = t

-- there is an untaken edge, to the next block
abbrev pub forks : End → Bool
forks halt = false
forks (jump t) = false
forks (if_equal x k t) = true
forks (if_less x y t) = true

-- a word past Q7 and Q8 inside a block, with an opcode from least on
pub record Inside (least w : ℕ) : Type 0 where
  pub well : well_formed w ≡ true
  pub from : least ≤ opcode_of w
  pub to : opcode_of w ≤ 9
  pub a_exists : a_of w < 8
  pub b_exists : b_of w < 8

-- a word past Q7, Q8 and Q9 at the end of block b of count blocks
pub record Ending (b count w : ℕ) : Type 0 where
  pub well : well_formed w ≡ true
  pub ends : 0 < opcode_of w → 9 < opcode_of w
  pub known : opcode_of w ≤ 12
  pub a_exists : a_of w < 8
  pub b_exists : b_of w < 8
  pub exist : targets_exist count b (end_of w) ≡ true
