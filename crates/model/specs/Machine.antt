-- The machine: instructions, one step, the states passed through, and a run with its questions.
use Rattle.std.specs.Prelude.{◌≡◌, Bool, true, false, not, List, [], ◌∷◌, ℕ, zero, suc, ◌+◌, ◌/◌, ◌%◌, ◌<◌, ltb, leb, eqb, length, get_or, set}
use Rattle.model.specs.declared.RunAnswer.{RunAnswer}
use Rattle.model.specs.Question.{◌and◌, pick, Question, number_of, q7, q8, q9, q18, Refusal, provided, Outcome, ok, refused, in_order}
use Rattle.model.specs.Word.{opcode_of, a_of, b_of, c_of, sum, difference, product, signed, moved}
use Rattle.model.specs.Table.{register_count, Code, Routine, routine_of, last_at, code_lengths_ask, lengths_ask, start_ask, memory_length_ask}

-- ---- instructions

pub data Plain : Type 0 where
  constant : ℕ → ℕ → Plain
  copy : ℕ → ℕ → Plain
  add : ℕ → ℕ → ℕ → Plain
  subtract : ℕ → ℕ → ℕ → Plain
  multiply : ℕ → ℕ → ℕ → Plain
  divide : ℕ → ℕ → ℕ → Plain
  move : ℕ → ℕ → ℕ → Plain
  load : ℕ → ℕ → ℕ → Plain
  store : ℕ → ℕ → ℕ → Plain

-- what an access to a field is for
pub data Access : Type 0 where
  to_load : Access
  to_store : Access

-- 01: 'Opcodes 0, 10, 11, 12 end a block'
pub data End : Type 0 where
  halt : End
  jump : ℕ → End
  if_equal : ℕ → ℕ → ℕ → End
  if_less : ℕ → ℕ → ℕ → End

pub data Instruction : Type 0 where
  plain : Plain → Instruction
  end : End → Instruction
  malformed : Instruction

abbrev pub register : ℕ → Bool
register x = ltb x register_count

abbrev pub unused : ℕ → Bool
unused x = eqb x 0

abbrev pub nonzero : ℕ → Bool
nonzero x = leb 1 x

-- Q7: the instruction, where its parts are as its opcode wants them
unfoldable pub formed : Bool → Instruction → Instruction
formed true x = x
formed false x = malformed

-- 01: '0 halt; 1 a := c; 2 a := rb; 3, 4, 5 a := rb plus, minus, times rc; ..', a row for each opcode
unfoldable pub by_opcode : ℕ → ℕ → ℕ → List Instruction
by_opcode a b c =
    formed (unused a and unused b and unused c) (end halt)
    ∷ formed (register a and unused b) (plain (constant a c))
    ∷ formed (register a and register b and unused c) (plain (copy a b))
    ∷ formed (register a and register b and register c) (plain (add a b c))
    ∷ formed (register a and register b and register c) (plain (subtract a b c))
    ∷ formed (register a and register b and register c) (plain (multiply a b c))
    ∷ formed (register a and register b and nonzero c) (plain (divide a b c))
    ∷ formed (register a and register b) (plain (move a b c))
    ∷ formed (register a and register b) (plain (load a b c))
    ∷ formed (register a and register b) (plain (store a b c))
    ∷ formed (unused a and unused b) (end (jump c))
    ∷ formed (register a and unused b) (end (if_equal a (c / 256) (c % 256)))
    ∷ formed (register a and register b) (end (if_less a b c))
    ∷ []

unfoldable pub decode : ℕ → Instruction
decode w = get_or (by_opcode (a_of w) (b_of w) (c_of w)) (opcode_of w) malformed

-- Q7 as a test
abbrev pub has_form : Instruction → Bool
has_form (plain x) = true
has_form (end e) = true
has_form malformed = false

unfoldable pub well_formed : ℕ → Bool
well_formed w = has_form (decode w)

-- Q9
unfoldable pub targets_exist : ℕ → ℕ → End → Bool
targets_exist count b halt = true
targets_exist count b (jump t) = ltb t count
targets_exist count b (if_equal x k t) = ltb t count and ltb (suc b) count
targets_exist count b (if_less x y t) = ltb t count and ltb (suc b) count

-- 01: 'Q7 Known opcode, parts in range, divisor not 0? 7. Q8 Block-ending opcode at the block's end and only there? 8. Q9 Do the
-- target of 10 to 12 and the block after 11 or 12 exist? 9': check and run alike ask them of an instruction of block b, the block's
-- last or not, and go on by what it is.
unfoldable pub form_ask : {A : Type 0} → (Question → A) → ℕ → ℕ → Bool → (Plain → A) → (End → A) → Instruction → A
form_ask refuse count b last inside at_end malformed = refuse q7
form_ask refuse count b last inside at_end (plain x) = provided (not last) (refuse q8) λ _. inside x
form_ask refuse count b last inside at_end (end e) = provided last (refuse q8) λ _. provided (targets_exist count b e) (refuse q9) λ _. at_end e

-- ---- one instruction

-- what an instruction does, known before memory is looked at: put x in register a; put the word at address x in register a;
-- put y at address x
pub data Effect : Type 0 where
  put : ℕ → ℕ → Effect
  read : ℕ → ℕ → Effect
  write : ℕ → ℕ → Effect

abbrev pub reg : List ℕ → ℕ → ℕ
reg r i = get_or r i 0

unfoldable pub effect : Plain → List ℕ → Effect
effect (constant a c) r = put a c
effect (copy a b) r = put a (reg r b)
effect (add a b c) r = put a (sum (reg r b) (reg r c))
effect (subtract a b c) r = put a (difference (reg r b) (reg r c))
effect (multiply a b c) r = put a (product (reg r b) (reg r c))
effect (divide a b c) r = put a (reg r b / c)
effect (move a b c) r = put a (moved (reg r b) (signed c))
effect (load a b c) r = read a (sum (reg r b) c)
effect (store a b c) r = write (sum (reg r b) c) (reg r a)

-- Q18
unfoldable pub addressed : Effect → List ℕ → Bool
addressed (put a x) memory = true
addressed (read a x) memory = ltb x (length memory)
addressed (write x y) memory = ltb x (length memory)

unfoldable pub registers_after : Effect → List ℕ → List ℕ → List ℕ
registers_after (put a x) r memory = set r a x
registers_after (read a x) r memory = set r a (get_or memory x 0)
registers_after (write x y) r memory = r

unfoldable pub memory_after : Effect → List ℕ → List ℕ
memory_after (put a x) memory = memory
memory_after (read a x) memory = memory
memory_after (write x y) memory = set memory x y

-- where a block's end leads
pub data Next : Type 0 where
  stop : Next
  enter : ℕ → Next

-- 01: '10 jump to block c; 11 if ra equals the high byte of c, jump to the block in its low byte; 12 if ra < rb, jump to
-- block c'; 'An untaken 11 or 12 goes to the next block'
unfoldable pub next : End → ℕ → List ℕ → Next
next halt b r = stop
next (jump t) b r = enter t
next (if_equal x k t) b r = pick (eqb (reg r x) k) (enter t) (enter (suc b))
next (if_less x y t) b r = pick (ltb (reg r x) (reg r y)) (enter t) (enter (suc b))

-- ---- states and steps

-- before the instruction at an offset of a block, with the blocks finished and the instructions carried out so far
pub record State : Type 0 where
  pub block : ℕ
  pub offset : ℕ
  pub registers : List ℕ
  pub memory : List ℕ
  pub finished : ℕ
  pub carried : ℕ

-- an instruction carried out, after which the run goes on or has halted; or a no before the instruction
pub data Step : Type 0 where
  goes : State → Step
  halts : State → Step
  faults : Question → State → Step

abbrev pub need : Bool → Question → State → (Unit {0} → Step) → Step
need b q s k = provided b (faults q s) k

abbrev pub after : State → Effect → State
after s f =
    record {
      block = s.block;
      offset = suc s.offset;
      registers = registers_after f s.registers s.memory;
      memory = memory_after f s.memory;
      finished = s.finished;
      carried = suc s.carried;
    }

abbrev pub at_halt : State → State
at_halt s =
    record {
      block = s.block;
      offset = s.offset;
      registers = s.registers;
      memory = s.memory;
      finished = suc s.finished;
      carried = suc s.carried;
    }

abbrev pub entering : State → ℕ → State
entering s t =
    record {
      block = t;
      offset = 0;
      registers = s.registers;
      memory = s.memory;
      finished = suc s.finished;
      carried = suc s.carried;
    }

unfoldable pub leave : State → Next → Step
leave s stop = halts (at_halt s)
leave s (enter t) = goes (entering s t)

module _ (P : Routine) where
  -- 01: 'code index counted over the whole code'
  abbrev pub index_of : State → ℕ
  index_of s = P.start s.block + s.offset

  abbrev pub instruction_at : ℕ → ℕ → Instruction
  instruction_at b j = decode (get_or (P.part b) j 0)

  -- Q18, then an instruction inside a block
  unfoldable pub carry_out : Plain → State → Step
  carry_out x s =
      need (addressed (effect x s.registers) s.memory) q18 s λ _.
      goes (after s (effect x s.registers))

  -- Q7, Q8, Q9, then the instruction
  unfoldable pub perform : Instruction → State → Step
  perform x s =
      form_ask (λ q. faults q s) P.count s.block (last_at P s.block s.offset)
      (λ y. carry_out y s) (λ e. leave s (next e s.block s.registers)) x

  -- 01: 'then each instruction: .. Q7, Q8, Q9; Q18 address below the memory length? 18'. 02, card 6: 'take Q22 out of the run'
  unfoldable pub step : State → Step
  step s = perform (instruction_at s.block s.offset) s

  -- The states that a run passes through from a state on, one instruction after another, while fewer than so many blocks are
  -- finished.
  pub data Passes (last : ℕ) (s : State) : State → Type 0 where
    here : Passes last s s
    on : {s₁ s₂ : State} → Passes last s s₁ → s₁.finished < last → step s₁ ≡ goes s₂ → Passes last s s₂

-- ---- runs

-- how a run ends
pub data Ran : Type 0 where
  halted : State → Ran
  paused : State → Ran
  faulted : Question → State → Ran

unfoldable pub onward : Step → (State → Step) → Step
onward (goes s) k = k s
onward (halts s) k = halts s
onward (faults q s) k = faults q s

unfoldable pub finish : Step → (State → Ran) → Ran
finish (goes s) k = k s
finish (halts s) k = halted s
finish (faults q s) k = faulted q s

module _ (P : Routine) where
  -- n instructions, one after another
  unfoldable pub steps : ℕ → State → Step
  steps zero s = goes s
  steps (suc n) s = onward (step P s) (λ s'. steps n s')

  -- a budget of blocks: each is as many instructions as it is long
  unfoldable pub run_blocks : ℕ → State → Ran
  run_blocks zero s = paused s
  run_blocks (suc k) s = finish (steps (P.long s.block) s) (λ s'. run_blocks k s')

-- What a run returns, with the memory that it leaves and the number of instructions carried out.
pub record Run : Type 0 where
  pub number : ℕ
  pub block : ℕ
  pub index : ℕ
  pub finished : ℕ
  pub registers : List ℕ
  pub memory : List ℕ
  pub carried : ℕ

abbrev pub answer_at : Routine → ℕ → State → Run
answer_at P n s =
    record {
      number = n;
      block = s.block;
      index = P.start s.block + s.offset;
      finished = s.finished;
      registers = s.registers;
      memory = s.memory;
      carried = s.carried;
    }

-- 01: '0 is halted, at the halt. 40 is paused, at the next block's first instruction'; 'A refused run returns its place .. with the
-- blocks finished and registers so far'
unfoldable pub answer_of : Routine → Ran → Run
answer_of P (halted s) = answer_at P 0 s
answer_of P (paused s) = answer_at P 40 s
answer_of P (faulted q s) = answer_at P (number_of q) s

-- a run refused before its first instruction
abbrev pub refused_run : Refusal → List ℕ → List ℕ → Run
refused_run r registers memory =
    record {
      number = number_of r.question;
      block = r.first;
      index = r.second;
      finished = 0;
      registers = registers;
      memory = memory;
      carried = 0;
    }

-- 01: 'Run: Q1 and Q5 for blocks and code; Q16 start block exists? 16; Q17 memory length in bounds? 17'
abbrev pub run_questions : Code → List ℕ → ℕ → List (Outcome (Unit {0}))
run_questions C memory b =
    code_lengths_ask (length C.blocks) (length C.code)
    ∷ lengths_ask C.blocks (length C.code)
    ∷ start_ask C.blocks b
    ∷ memory_length_ask (length memory)
    ∷ []

unfoldable pub run_ask : Code → List ℕ → ℕ → Outcome (Unit {0})
run_ask C memory b = in_order (run_questions C memory b)

-- What a routine goes on with. 01: 'A run takes a start block, registers'; 'A paused routine resumes with exactly what it returned'
pub record Ready : Type 0 where
  pub block : ℕ
  pub registers : List ℕ

abbrev pub ready : ℕ → List ℕ → Ready
ready b r = record { block = b; registers = r }

-- before the first instruction
abbrev pub begin : Ready → List ℕ → State
begin g memory = record { block = g.block; offset = 0; registers = g.registers; memory = memory; finished = 0; carried = 0 }

unfoldable pub opened : Outcome (Unit {0}) → Routine → List ℕ → Ready → ℕ → Run
opened (ok u) P memory g budget = answer_of P (run_blocks P budget (begin g memory))
opened (refused r) P memory g budget = refused_run r g.registers memory

-- the public call
unfoldable pub run : Code → List ℕ → Ready → ℕ → Run
run C memory g budget = opened (run_ask C memory g.block) (routine_of C) memory g budget

-- 01: 'It returns number, block, code index, blocks finished and registers'
abbrev pub returned : Run → RunAnswer
returned r = record { number = r.number; block = r.block; index = r.index; finished = r.finished; registers = r.registers }
