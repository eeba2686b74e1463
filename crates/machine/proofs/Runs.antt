-- A run: blocks up to a budget, and the opening questions.
use mathlib.Core.Path.{◌≡◌, refl, sym, ap, ◌∙◌}
use mathlib.Core.Logic.{◌⊎◌, inl, inr}
use mathlib.Core.List.{List}
use Prim.Native.Nat.{ℕ, suc, ◌+◌, ◌-◌, ◌<◌, ◌≤◌}
use native.Mathlib.Nat.{zero-add, add-zero, sub-eq-zero_of_le}
use native.Mathlib.Numerals.{add-one}
use native.Mathlib.Omega.{arith}
use lib.ListN.{length, get_or, take, drop, length-take, length-drop}
use Rattle.std.specs.Prelude.{Result, Ok, Err}
use Rattle.std.proofs.Common.{get_or-take, get_or-drop}
use Rattle.model.specs.Question.{number_of, Outcome, ok, refused}
use Rattle.model.specs.declared.questions.Question.{Question}
use Rattle.model.specs.Table.{Routine, routine_of, start_of, head_of, rows, lengths_ask, Code}
use Rattle.model.specs.Machine.{entering, State, goes, Ran, halted, paused, faulted, finish, steps, run_blocks, Run}
use Rattle.model.specs.Machine.{answer_of, run_ask, opened, run, Ready}
use Rattle.model.proofs.TableLaws.{sized}
use Rattle.model.proofs.MachineLaws.{visited-here, steps-visited}
use Rattle.model.proofs.MachineLaws.{later, later_ran, blocks-later}
use Rattle.model.specs.declared.questions.Refusal.{Refusal}
use Rattle.table.proofs.Questions.{left}
use Rattle.table.proofs.Laws.{start-more}
use Rattle.step.specs.declared.Exit.{Exit}
use Rattle.step.specs.declared.Exit.TheVariants.{To, Following, Halted}
use Rattle.step.specs.Answer.{at, exit_of}
use Rattle.machine.specs.Run.{Covers, ran_of}

-- ---- where a block's end leads

-- the exit of block b goes to block t
abbrev pub GoesTo : Result Exit Question → ℕ → ℕ → Type 0
GoesTo x b t = (x ≡ Ok (To t)) ⊎ ((x ≡ Ok Following) × (t ≡ b + 1))

enters : (x : Result Exit Question) (s : State) (t : ℕ) → GoesTo x s.block t → exit_of x s ≡ goes (entering s t)
unfolding exit_of
enters x s t (inl e) = rw e
enters x s t (inr (e, n)) = rw (e, n, add-one s.block)

-- ---- the part of a block

-- its last word stands in the code before the place where it ends
pub last_word_of : (code : List ℕ) (first past : ℕ) → first < past → past ≤ length code
    → get_or code (past - 1) 0 ≡ get_or (take (past - first) (drop first code)) (length (take (past - first) (drop first code)) - 1) 0
last_word_of code first past h k =
    let long : length (take (past - first) (drop first code)) ≡ past - first = simp (length-take, length-drop) (omega arith) in
    let there : first + (past - first - 1) ≡ past - 1 = omega arith in
    rw long (sym (get_or-take (past - first) (drop first code) (past - first - 1) 0 (omega arith) ∙ get_or-drop first code (past - first - 1) 0
    ∙ ap (λ i. get_or code i 0) there))

module _ (C : Code) (q : lengths_ask C.blocks (length C.code) ≡ ok tt) where
  pub bounds : (b : ℕ) → b < rows C.blocks
      → (1 ≤ head_of C.blocks b) × (start_of C.blocks b + head_of C.blocks b ≤ length C.code)
  unfolding routine_of
  bounds b h = let S = sized C q in (S.least b h, S.inside b h)

  pub covers : (b first past : ℕ) → b < rows C.blocks → first ≡ start_of C.blocks b → past ≡ start_of C.blocks (b + 1)
      → Covers (routine_of C) b (take (past - first) (drop first C.code))
  unfolding routine_of
  covers b first past h e₁ e₂ =
      let (l, k) = bounds b h in
      let d : past - first ≡ head_of C.blocks b = omega (arith, start-more C.blocks b) in
      rw (d, e₁) (record { same = refl; long = simp (length-take, length-drop) (omega arith) })

  -- a block's end leads to a block of the table
  pub leads-on : (n b j f c c' : ℕ) (r m r' m' : List ℕ) → b < rows C.blocks
      → (x : Result Exit Question) → exit_of x (at b j r' m' f c') ≡ steps (routine_of C) n (at b 0 r m f c) → (t : ℕ) → GoesTo x b t → t < rows C.blocks
  unfolding routine_of
  leads-on n b j f c c' r m r' m' h x e t z =
      let S = sized C q in
      let s = at b 0 r m f c in
      (steps-visited (routine_of C) S n s s _ (visited-here (routine_of C) S s h refl) (sym (enters x _ t z) ∙ e)).exists

-- ---- a run without the count of instructions

abbrev pub uncounted : Run → Run
uncounted a =
    record { number = a.number; block = a.block; index = a.index; finished = a.finished; registers = a.registers; memory = a.memory; carried = 0 }

-- an answer and the memory left
abbrev pub ran : ℕ → ℕ → ℕ → ℕ → List ℕ → List ℕ → Run
ran k b i f r m = record { number = k; block = b; index = i; finished = f; registers = r; memory = m; carried = 0 }

module _ (P : Routine) where
  -- k blocks from the first instruction of block b, with f finished
  abbrev pub rest : ℕ → ℕ → List ℕ → List ℕ → ℕ → Run
  rest k b r m f = uncounted (answer_of P (run_blocks P k (at b 0 r m f 0)))

  later_same : (n : ℕ) (x : Ran) → uncounted (answer_of P (later_ran 0 n x)) ≡ uncounted (answer_of P x)
  unfolding answer_of later_ran
  later_same n (halted s) = rw (zero-add s.finished)
  later_same n (paused s) = rw (zero-add s.finished)
  later_same n (faulted q s) = rw (zero-add s.finished)

  carried-free : (k b f n : ℕ) (r m : List ℕ) → uncounted (answer_of P (run_blocks P k (at b 0 r m f n))) ≡ rest k b r m f
  carried-free k b f n r m =
      let e : at b 0 r m f n ≡ later 0 n (at b 0 r m f 0) = rw (zero-add f, add-zero n) in
      rw e (ap (λ (x : Ran). uncounted (answer_of P x)) (blocks-later P 0 n k (at b 0 r m f 0)) ∙ later_same n (run_blocks P k (at b 0 r m f 0)))

  -- one block of what is left of the budget
  module _ (budget f b j n : ℕ) (r m r' m' : List ℕ) (h : f < budget) (x : Result Exit Question) (e : exit_of x (at b j r' m' f n) ≡ steps P (P.long b) (at b 0 r m f 0)) where
    block_more : rest (budget - f) b r m f ≡ uncounted (answer_of P (finish (exit_of x (at b j r' m' f n)) (λ s. run_blocks P (budget - (f + 1)) s)))
    unfolding run_blocks
    block_more = rw (left budget f h, ← e)

    pub run_on : (t : ℕ) → GoesTo x b t → rest (budget - f) b r m f ≡ rest (budget - (f + 1)) t r' m' (f + 1)
    unfolding finish
    run_on t z = block_more ∙ rw (enters x (at b j r' m' f n) t z, add-one f) (carried-free (budget - suc f) t (suc f) (suc n) r' m')

    pub run-halts : (i : ℕ) → i ≡ P.start b + j → x ≡ Ok Halted → ran 0 b i (f + 1) r' m' ≡ rest (budget - f) b r m f
    unfolding finish exit_of answer_of
    run-halts i ei z = sym (block_more ∙ rw (z, ei, add-one f))

    pub run-faults : (i : ℕ) → i ≡ P.start b + j → (q : Question) → x ≡ Err q → ran (number_of q) b i f r' m' ≡ rest (budget - f) b r m f
    unfolding finish exit_of answer_of
    run-faults i ei q z = sym (block_more ∙ rw (z, ei))

  pub run-pauses : (budget f b i : ℕ) (r m : List ℕ) → f ≡ budget → i ≡ P.start b → ran 40 b i budget r m ≡ rest (budget - f) b r m f
  unfolding run_blocks answer_of
  run-pauses budget f b i r m e ei =
      let h : budget ≤ budget = omega arith in
      rw (e, sub-eq-zero_of_le h, ei, add-zero (P.start b))

-- ---- the opening questions

-- a run by what its opening questions come to
module _ (C : Code) (m : List ℕ) (g : Ready) (k : ℕ) where
  pub run-refused : {o : Outcome (Unit {0})} {r : Refusal} → o ≡ run_ask C m g.block → o ≡ refused r
      → ran (number_of r.question) r.first r.second 0 g.registers m ≡ run C m g k
  unfolding run opened
  run-refused e z = rw (← e, z)

  pub run-opens : {o : Outcome (Unit {0})} {u : Unit {0}} → o ≡ run_ask C m g.block → o ≡ ok u → ran_of C m g k ≡ run C m g k
  unfolding run opened
  run-opens e z = rw (← e, z)
