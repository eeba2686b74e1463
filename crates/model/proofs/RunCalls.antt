-- The public run: past its opening questions it is the machine's; what it leaves where nothing is carried out; and runs gone on with.
use mathlib.Core.Path.{◌≡◌, refl, sym, ap, ◌∙◌}
use mathlib.Core.List.{List}
use Prim.Native.Nat.{ℕ, suc, ◌+◌, ◌<◌}
use native.Mathlib.Omega.{arith}
use native.Mathlib.Nat.{zero-add, add-zero}
use lib.ListN.{length}
use Rattle.model.specs.Question.{Question, number_of, question_of, Outcome, ok, refused}
use Rattle.model.specs.Table.{Routine, routine_of, code_lengths_ask, lengths_ask, memory_length_ask, Code}
use Rattle.model.specs.Machine.{State, here, Ran, halted, paused, faulted, run_blocks, Run, answer_at, answer_of, run_ask, begin}
use Rattle.model.specs.Machine.{opened, run, Ready, ready, run_questions}
use Rattle.model.proofs.Logic.{no_number, all-passed, passed-all}
use Rattle.model.proofs.TableLaws.{Sized, sized}
use Rattle.model.proofs.TableRules.{start-exactly}
use Rattle.model.proofs.MachineLaws.{visited, Last, pausing, halting}
use Rattle.model.proofs.MachineLaws.{faulting, blocks_last, halt-stays, resume, blocks-plus, later, later_ran, blocks-later}

-- ---- the opening questions

pub record Opens (C : Code) (memory : List ℕ) (b : ℕ) : Type 0 where
  pub code_lengths : code_lengths_ask (length C.blocks) (length C.code) ≡ ok tt
  pub lengths : lengths_ask C.blocks (length C.code) ≡ ok tt
  pub exists : b < (routine_of C).count
  pub bound : memory_length_ask (length memory) ≡ ok tt

pub opens : (C : Code) (memory : List ℕ) (b : ℕ) → run_ask C memory b ≡ ok tt → Opens C memory b
unfolding run_ask
opens C memory b q =
    let (c, (l, (s, (m, u)))) = all-passed (run_questions C memory b) q in
    record { code_lengths = c; lengths = l; exists = (start-exactly C b).0 s; bound = m }

pub asked-ok : (C : Code) (memory : List ℕ) (b : ℕ) → Opens C memory b → run_ask C memory b ≡ ok tt
unfolding run_ask
asked-ok C memory b O =
    passed-all (run_questions C memory b) (O.code_lengths, (O.lengths, ((start-exactly C b).1 O.exists, (O.bound, tt))))

-- past the opening questions a run is the machine's
pub run_is : (C : Code) (memory : List ℕ) (g : Ready) (k : ℕ) → Opens C memory g.block
    → run C memory g k ≡ answer_of (routine_of C) (run_blocks (routine_of C) k (begin g memory))
unfolding run opened
run_is C memory g k O = rw (asked-ok C memory g.block O)

-- and ends where the last state passed through does
pub run-last : (C : Code) (memory : List ℕ) (g : Ready) (k : ℕ) → Opens C memory g.block
    → Last (routine_of C) k (begin g memory) (run_blocks (routine_of C) k (begin g memory))
run-last C memory g k O =
    blocks_last (routine_of C) (sized C O.lengths) k (begin g memory) k (begin g memory) here (zero-add k) O.exists refl

-- ---- a run that carried nothing out

-- what a run that carried nothing out leaves
pub record Untouched (a : Run) (r m : List ℕ) : Type 0 where
  pub registers : a.registers ≡ r
  pub memory : a.memory ≡ m

module _ (C : Code) (memory : List ℕ) (g : Ready) (k : ℕ) where
  abbrev P : Routine
  P = routine_of C

  last-untouched : (x : Ran) → Sized P → g.block < P.count → Last P k (begin g memory) x → (answer_of P x).carried ≡ 0
      → Untouched (answer_of P x) g.registers memory
  unfolding answer_of
  last-untouched x S h (pausing {s = s} p f z) e =
      let same : s ≡ begin g memory = (visited P S k (begin g memory) s h refl p).untouched.0 e in rw same (record { registers = refl; memory = refl })
  last-untouched x S h (halting {s = s} {s' = s'} p f q) e =
      let c : s'.carried ≡ suc s.carried = ap (λ (y : State). y.carried) (halt-stays P s s' q) in absurd (omega arith)
  last-untouched x S h (faulting {s = s} p f q) e =
      let same : s ≡ begin g memory = (visited P S k (begin g memory) s h refl p).untouched.0 e in rw same (record { registers = refl; memory = refl })

  -- a run with no instruction carried out, refused or not, leaves registers and memory as they were
  pub run-untouched : (run C memory g k).carried ≡ 0 → Untouched (run C memory g k) g.registers memory
  unfolding run opened
  run-untouched e = go (run_ask C memory g.block) refl e
    where
      go : (o : Outcome (Unit {0})) → run_ask C memory g.block ≡ o → (opened o P memory g k).carried ≡ 0
          → Untouched (opened o P memory g k) g.registers memory
      go (ok u) q e =
          let O = opens C memory g.block q in
          last-untouched _ (sized C O.lengths) O.exists (run-last C memory g k O) e
      go (refused f) q e = record { registers = refl; memory = refl }

-- ---- a run of j + k blocks is a run of j gone on with for k

-- the answer of a run gone on with: the counts add up
abbrev pub gone : Run → Run → Run
gone a c =
    record {
      number = c.number;
      block = c.block;
      index = c.index;
      finished = a.finished + c.finished;
      registers = c.registers;
      memory = c.memory;
      carried = a.carried + c.carried;
    }

not-forty : (q : Question) → number_of q ≡ 40 → ⊥
unfolding question_of
not-forty q e = no_number 40 refl q e

answer-later : (P : Routine) (s : State) (x : Ran) → answer_of P (later_ran s.finished s.carried x) ≡ gone (answer_at P 40 s) (answer_of P x)
unfolding answer_of later_ran
answer-later P s (halted x) = refl
answer-later P s (paused x) = refl
answer-later P s (faulted q x) = refl

module _ (C : Code) (memory : List ℕ) (g : Ready) (j k : ℕ) where
  abbrev Q : Routine
  Q = routine_of C

  -- what is claimed of a first run and a whole one: where the first pauses, the whole is the first gone on with by a call that is
  -- given exactly what it returned; else both are one
  abbrev pub Joins : Run → Run → Type 0
  Joins a whole =
      (a.number ≡ 40 → whole ≡ gone a (run C a.memory (ready a.block a.registers) k)) × ((a.number ≡ 40 → ⊥) → whole ≡ a)

  -- a state at a block's first instruction is the start of a run, later
  at-start : (s : State) → s.offset ≡ 0 → s ≡ later s.finished s.carried (begin (ready s.block s.registers) s.memory)
  at-start s z = rw (add-zero s.finished, add-zero s.carried, z)

  ran-joins : (x : Ran) → Opens C memory g.block → Last Q j (begin g memory) x → Joins (answer_of Q x) (answer_of Q (resume x (λ s. run_blocks Q k s)))
  unfolding answer_of resume
  ran-joins x O (pausing {s = s} p f z) = (
    λ e. let S = sized C O.lengths in
        let A = visited Q S j (begin g memory) s O.exists refl p in
        let O' : Opens C s.memory s.block =
        record { code_lengths = O.code_lengths; lengths = O.lengths; exists = A.exists; bound = rw A.long_memory O.bound } in
        ap (λ (y : State). answer_of Q (run_blocks Q k y)) (at-start s z)
        ∙ ap (answer_of Q) (blocks-later Q s.finished s.carried k (begin (ready s.block s.registers) s.memory))
        ∙ answer-later Q s (run_blocks Q k (begin (ready s.block s.registers) s.memory))
        ∙ ap (gone (answer_at Q 40 s)) (sym (run_is C s.memory (ready s.block s.registers) k O')),
    λ d. absurd (d refl),
  )
  ran-joins x O (halting p f q) = (λ e. absurd (omega arith), λ d. refl)
  ran-joins x O (faulting {q = q} p f y) = (λ e. absurd (not-forty q e), λ d. refl)

  pub run-joins : Joins (run C memory g j) (run C memory g (j + k))
  unfolding run opened
  run-joins = go (run_ask C memory g.block) refl
    where
      go : (o : Outcome (Unit {0})) → run_ask C memory g.block ≡ o → Joins (opened o Q memory g j) (opened o Q memory g (j + k))
      go (ok u) e =
          let O = opens C memory g.block e in
          rw (blocks-plus Q j k (begin g memory)) (ran-joins (run_blocks Q j (begin g memory)) O (run-last C memory g j O))
      go (refused f) e = (λ z. absurd (not-forty f.question z), λ d. refl)
