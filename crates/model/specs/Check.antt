-- The check of a routine: Q1 to Q6, then Q7 to Q15 and Q23 instruction by instruction.
use Rattle.std.specs.Prelude.{Bool, true, not, List, ℕ, zero, suc, ◌+◌, ltb, eqb, get_or}
use Rattle.model.specs.declared.Verdict.{Verdict}
use Rattle.std.specs.Prelude.{Option}
use Rattle.std.specs.Prelude.{Some, None}
use Rattle.model.specs.Question.{◌or◌, Question, q10, q11, q12, q13, q14, q15, q23, Refusal, refusal}
use Rattle.model.specs.Question.{Outcome, ok, refused, provided, ask, asked, then, first_no, verdict_of}
use Rattle.model.specs.Table.{Tables, tables_of, locked, Code, Routine, routine_of, last_at}
unfoldable pub use Rattle.model.specs.Table.{table_questions, tables_ask}
use Rattle.model.specs.Machine.{Plain, constant, copy, add, subtract, multiply, divide, move, load, store, End, halt, jump, if_equal, if_less}
use Rattle.model.specs.Machine.{Instruction, instruction_at, form_ask, Access, to_load, to_store}
use Rattle.model.specs.Values.{Values, typed, birthplace}
use Rattle.model.specs.Reading.{row_fits, reference_of, Reading, entry, put_register, fresh, moved_word, is_open, look, loaded, stored, taken}
use Rattle.model.specs.Reading.{untaken}

-- the value in a register
abbrev pub value_in : Reading → ℕ → ℕ
value_in st r = get_or st.registers r 0

-- what follows for the record type of a reference, or else what having none comes to
unfoldable pub with_reference : {A : Type 0} → Option ℕ → A → (ℕ → A) → A
with_reference (Some t) x k = k t
with_reference None x k = x

module _ (𝒯 : Tables) where
  -- the record type that the value in a register is a reference to
  abbrev pub reference_in : Reading → ℕ → Option ℕ
  reference_in st b = reference_of 𝒯 st.values (typed st.values (value_in st b))

  -- 01: 'No record open, or base the very value that opened it?'
  abbrev pub may_touch : Reading → ℕ → Bool
  may_touch st v = not (is_open st) or eqb st.base v

  -- 02, card 1: 'some fields readable and never written'
  abbrev pub permits : Access → ℕ → ℕ → Bool
  permits to_load t c = true
  permits to_store t c = not (locked 𝒯 t c)

  -- Q10, Q11, Q23, Q12 of an access through register b at offset c: what follows for the record's type, or else what a no comes to
  unfoldable pub on_record : {A : Type 0} → (Question → A) → Access → Reading → ℕ → ℕ → (ℕ → A) → A
  on_record refuse x st b c k =
      with_reference (reference_in st b) (refuse q10) λ t.
      provided (ltb c (𝒯.size t)) (refuse q11) λ _.
      provided (permits x t c) (refuse q23) λ _.
      provided (may_touch st (value_in st b)) (refuse q12) λ _.
      k t

  -- an instruction that does not end a block, whose values are born at g
  unfoldable pub read_plain : (Question → Refusal) → ℕ → Plain → Reading → Outcome Reading
  read_plain place g (constant a c) st = ok (fresh st g a 0 0 (suc c))
  read_plain place g (copy a b) st = ok (put_register st a (value_in st b))
  read_plain place g (add a b c) st = ok (fresh st g a 0 0 0)
  read_plain place g (subtract a b c) st = ok (fresh st g a 0 0 0)
  read_plain place g (multiply a b c) st = ok (fresh st g a 0 0 0)
  read_plain place g (divide a b c) st = ok (fresh st g a 0 0 0)
  read_plain place g (move a b c) st =
      let v = value_in st b in
      ok (fresh st g a (moved_word 𝒯 (get_or st.values.words v 0) c) (get_or st.values.frames (birthplace v) 0) 0)
  read_plain place g (load a b c) st = on_record (λ q. refused (place q)) to_load st b c λ t. ok (loaded (look 𝒯 st g (value_in st b) t) a c)
  read_plain place g (store a b c) st =
      on_record (λ q. refused (place q)) to_store st b c λ t.
      ok (stored 𝒯 (look 𝒯 st g (value_in st b) t) g (value_in st b) t c (value_in st a))

module _ (𝒯 : Tables) (P : Routine) where
  -- the edge to block b meets its annotation
  abbrev pub edge_meets : Reading → Values → ℕ → Bool
  edge_meets st vs b = row_fits 𝒯 vs 8 (P.annotation b) st.registers

  -- Q14, and Q15 where there is an untaken edge; b is the block after
  unfoldable pub read_edges : (Question → Refusal) → ℕ → End → Reading → Outcome (Unit {0})
  read_edges place b halt st = ok tt
  read_edges place b (jump t) st = asked (edge_meets st (taken (jump t) st) t) (place q14)
  read_edges place b (if_equal x k t) st =
      ask (edge_meets st (taken (if_equal x k t) st) t) (place q14) λ _.
      asked (edge_meets st (untaken (if_equal x k t) st) b) (place q15)
  read_edges place b (if_less x y t) st =
      ask (edge_meets st (taken (if_less x y t) st) t) (place q14) λ _.
      asked (edge_meets st (untaken (if_less x y t) st) b) (place q15)

  -- 01: 'For code: block, and code index counted over the whole code'
  abbrev pub no_at : ℕ → ℕ → Question → Refusal
  no_at b j q = refusal q b (P.start b + j)

  -- Q13 to Q15 at the end of block b
  unfoldable pub read_end : (Question → Refusal) → ℕ → End → Reading → Outcome Reading
  read_end place b e st =
      ask (not (is_open st)) (place q13) λ _.
      then (read_edges place (suc b) e st) λ _.
      ok st

  -- Q7 to Q15 and Q23 of an instruction of block b, its last or not, whose values are born at g, and the reading after it
  unfoldable pub read_instruction : (Question → Refusal) → ℕ → ℕ → Bool → Instruction → Reading → Outcome Reading
  read_instruction place b g last x st =
      form_ask (λ q. refused (place q)) P.count b last
      (λ y. read_plain 𝒯 place g y st) (λ e. read_end place b e st) x

  abbrev pub read_at : ℕ → ℕ → Reading → Outcome Reading
  read_at b j st = read_instruction (no_at b j) b (suc j) (last_at P b j) (instruction_at P b j) st

  -- n instructions of block b from offset j on
  unfoldable pub read_on : ℕ → ℕ → ℕ → Reading → Outcome (Unit {0})
  read_on b zero j st = ok tt
  read_on b (suc n) j st = then (read_at b j st) (λ st'. read_on b n (suc j) st')

  unfoldable pub block_ask : ℕ → Outcome (Unit {0})
  block_ask b = read_on b (P.long b) 0 (entry (P.annotation b))

  -- all blocks, in order
  unfoldable pub judge : Outcome (Unit {0})
  judge = first_no P.count 0 block_ask

  -- the reading before the instruction at offset j of block b
  unfoldable pub reading_at : ℕ → ℕ → Outcome Reading
  reading_at b zero = ok (entry (P.annotation b))
  reading_at b (suc j) = then (reading_at b j) (λ st. read_at b j st)

-- ---- the public call

unfoldable pub check_ask : List ℕ → List ℕ → Code → Outcome (Unit {0})
check_ask types tags C = then (tables_ask types tags C) λ _. judge (tables_of types tags) (routine_of C)

unfoldable pub check : List ℕ → List ℕ → Code → Verdict
check types tags C = verdict_of (check_ask types tags C)
