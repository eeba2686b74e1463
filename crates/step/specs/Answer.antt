-- How the answers of the functions read as the model's states and steps.
use Rattle.std.specs.Prelude.{List, ℕ, suc, ltb, eqb, length, set, Result, Ok, Err}
use Rattle.model.specs.Question.{pick}
use Rattle.model.specs.declared.questions.Question.{Question}
use Rattle.model.specs.declared.questions.Question.TheVariants.{Address as q18}
use Rattle.model.specs.Word.{sum, difference, product, signed, moved}
use Rattle.model.specs.Machine.{put, read, write, State, Step, goes, halts, faults, need, after, at_halt, entering}
use Rattle.step.specs.declared.Effect.{Effect}
use Rattle.step.specs.declared.Effect.TheVariants.{Put, Read, Write}
use Rattle.step.specs.declared.Stepped.{Stepped}
use Rattle.step.specs.declared.Exit.{Exit}
use Rattle.step.specs.declared.Exit.TheVariants.{To, Following, Halted}

-- block, offset, registers, memory, blocks finished, instructions carried out
abbrev pub at : ℕ → ℕ → List ℕ → List ℕ → ℕ → ℕ → State
at b j r m f n = record { block = b; offset = j; registers = r; memory = m; finished = f; carried = n }

-- past the instruction of a state, which changed registers and memory before
abbrev pub past : State → State
past s = at s.block (suc s.offset) s.registers s.memory s.finished (suc s.carried)

-- an instruction's answer, in the state that it made: gone on past it, or a no
unfoldable pub step_of : {A : Type 0} → Result A Question → State → Step
step_of (Ok x) s = goes (past s)
step_of (Err q) s = faults q s

-- what opcodes 1 to 5 and 7 put into their register, where the registers b and c have x and y
unfoldable pub value_of : ℕ → ℕ → ℕ → ℕ → ℕ
value_of op x y c =
    pick (ltb op 3) (pick (eqb op 1) c x)
    (pick (eqb op 7) (moved x (signed c)) (pick (eqb op 5) (product x y) (pick (eqb op 3) (sum x y) (difference x y))))

-- the one register that an effect can change
abbrev pub register_of : Effect → ℕ
register_of (Put a v) = a
register_of (Read a x) = a
register_of (Write a x v) = a

-- registers with a word in that one, or as they were after a no
abbrev pub putting : Effect → Result ℕ Question → List ℕ → List ℕ
putting e (Ok v) r = set r (register_of e) v
putting e (Err q) r = r

-- registers handed back, or those handed in where a question had a no
abbrev pub handed : Result Stepped Question → List ℕ → List ℕ
handed (Ok s) r = s.registers
handed (Err q) r = r

-- a state with v in register a
abbrev pub keeping : ℕ → ℕ → State → State
keeping a v s = at s.block s.offset (set s.registers a v) s.memory s.finished s.carried

-- the step that an effect makes, or a no; a write's word is in its register too
unfoldable pub does : Result Effect Question → State → Step
does (Ok (Put a v)) s = goes (after s (put a v))
does (Ok (Read a x)) s = need (ltb x (length s.memory)) q18 s λ _. goes (after s (read a x))
does (Ok (Write a x v)) s = need (ltb x (length s.memory)) q18 s λ _. goes (after (keeping a v s) (write x v))
does (Err q) s = faults q s

-- the end of a block whose run came to the state s, or a no
unfoldable pub exit_of : Result Exit Question → State → Step
exit_of (Ok (To t)) s = goes (entering s t)
exit_of (Ok Following) s = goes (entering s (suc s.block))
exit_of (Ok Halted) s = halts (at_halt s)
exit_of (Err q) s = faults q s
