-- Laws of the machine for any routine: where a step leads, that a run ends where its last step does, and that it can be gone on with.
use mathlib.Core.Path.{◌≡◌, refl, sym, subst, ◌∙◌}
use mathlib.Core.Bool.{Bool, true, false}
use mathlib.Core.List.{List}
use Prim.Native.Nat.{ℕ, zero, suc, ◌+◌, ◌≤◌, ◌<◌}
use native.Mathlib.Omega.{arith}
use native.Mathlib.Nat.{zero-add, suc-add}
use lib.Dec.{ltb, eqb}
use lib.ListN.{length, length-set}
use borrow.Author.Tests.{ltb-true, eqb-true, eqb-false}
use Rattle.model.specs.Question.{Question, q7, q8, q9, q18, provided, pick}
use Rattle.model.specs.Table.{Routine}
use Rattle.model.specs.Machine.{End, halt, jump, if_equal, if_less, Instruction, plain, end, malformed, instruction_at, Effect, put, read, write}
use Rattle.model.specs.Machine.{effect, registers_after, memory_after, Next, stop, enter, next, targets_exist, State, Step, goes, halts, faults}
use Rattle.model.specs.Machine.{need, after, at_halt, entering, leave, index_of, perform, step, Passes, here, on, Ran, halted, paused, faulted}
use Rattle.model.specs.Machine.{onward, finish, steps, run_blocks, carry_out, form_ask, reg, Plain}
use Rattle.model.proofs.Logic.{and-true, not-true}
use Rattle.model.proofs.TableLaws.{Sized}

-- ---- one step, taken apart

pub goes_same : {s s' : State} → goes s ≡ goes s' → s ≡ s'
goes_same e = cc

halts-same : {s s' : State} → halts s ≡ halts s' → s ≡ s'
halts-same e = cc

faults-same : {q q' : Question} {s s' : State} → faults q s ≡ faults q' s' → (q ≡ q') × (s ≡ s')
faults-same e = (cc, cc)

pub goes-halts : {s s' : State} → goes s ≡ halts s' → ⊥
goes-halts e = let z : ◌≡◌ {A = ℕ} 0 1 = cc in omega arith

pub goes-faults : {q : Question} {s s' : State} → goes s ≡ faults q s' → ⊥
goes-faults e = let z : ◌≡◌ {A = ℕ} 0 1 = cc in omega arith

pub halts-faults : {q : Question} {s s' : State} → halts s ≡ faults q s' → ⊥
halts-faults e = let z : ◌≡◌ {A = ℕ} 0 1 = cc in omega arith

-- the questions that an instruction is asked
pub data OfCode : Question → Type 0 where
  of-7 : OfCode q7
  of-8 : OfCode q8
  of-9 : OfCode q9
  of-18 : OfCode q18

-- the state is before its block's last instruction
abbrev pub AtLast : Routine → State → Type 0
AtLast P s = suc s.offset ≡ P.long s.block

-- where a step by an instruction leads: to the next instruction of the block; at the block's end, to another block or to the halt; or
-- nowhere
pub data Leads (P : Routine) (s : State) (x : Instruction) : Step → Type 0 where
  inside : (y : Plain) → x ≡ plain y → (AtLast P s → ⊥) → Leads P s x (goes (after s (effect y s.registers)))
  beyond : (e : End) (t : ℕ) → x ≡ end e → next e s.block s.registers ≡ enter t → t < P.count → AtLast P s
      → Leads P s x (goes (entering s t))
  finally : x ≡ end halt → AtLast P s → Leads P s x (halts (at_halt s))
  nowhere : (q : Question) → OfCode q → Leads P s x (faults q s)

module _ (P : Routine) where
  need-leads : (s : State) (x : Instruction) (b : Bool) (q : Question) (k : Unit {0} → Step) → OfCode q → (b ≡ true → Leads P s x (k tt))
      → Leads P s x (need b q s k)
  unfolding provided
  need-leads s x true q k o h = h refl
  need-leads s x false q k o h = nowhere q o

  -- an end that leads to one of two blocks, both of which exist
  branch_leads : (s : State) (e : End) (b : Bool) (c d : ℕ) → next e s.block s.registers ≡ pick b (enter c) (enter d)
      → c < P.count → d < P.count → AtLast P s → Leads P s (end e) (leave s (next e s.block s.registers))
  unfolding leave
  branch_leads s e true c d n h k l = rw n (beyond e c refl n h l)
  branch_leads s e false c d n h k l = rw n (beyond e d refl n k l)

  -- a block's end leads to a block that exists
  end-leads : (s : State) (e : End) → AtLast P s → targets_exist P.count s.block e ≡ true
      → Leads P s (end e) (leave s (next e s.block s.registers))
  unfolding targets_exist next leave
  end-leads s halt l t = finally refl l
  end-leads s (jump c) l t = beyond (jump c) c refl refl (ltb-true _ _ t) l
  end-leads s (if_equal x k c) l t =
      let (t₁, t₂) = and-true _ _ t in
      branch_leads s (if_equal x k c) (eqb (reg s.registers x) k) c (suc s.block) refl (ltb-true _ _ t₁) (ltb-true _ _ t₂) l
  end-leads s (if_less x y c) l t =
      let (t₁, t₂) = and-true _ _ t in
      branch_leads s (if_less x y c) (ltb (reg s.registers x) (reg s.registers y)) c (suc s.block) refl
      (ltb-true _ _ t₁) (ltb-true _ _ t₂) l

  performs : (s : State) (x : Instruction) → Leads P s x (perform P x s)
  unfolding perform form_ask carry_out
  performs s malformed = nowhere _ of-7
  performs s (plain y) =
      need-leads s (plain y) _ _ _ of-8 (λ p. need-leads s (plain y) _ _ _ of-18 (λ q. inside y refl (eqb-false _ _ (not-true _ p))))
  performs s (end e) = need-leads s (end e) _ _ _ of-8 (λ p. need-leads s (end e) _ _ _ of-9 (λ q. end-leads s e (eqb-true _ _ p) q))

  -- the instruction at a state
  abbrev pub instruction_of : State → Instruction
  instruction_of s = instruction_at P s.block s.offset

  pub leads : (s : State) → Leads P s (instruction_of s) (step P s)
  unfolding step
  leads s = performs s (instruction_of s)

  fault-inverts : (s s' : State) (q : Question) → step P s ≡ faults q s' → (s' ≡ s) × OfCode q
  fault-inverts s s' q e = go (step P s) (leads s) e
    where
      go : (x : Step) → Leads P s (instruction_of s) x → x ≡ faults q s' → (s' ≡ s) × OfCode q
      go x (inside y i d) e = absurd (goes-faults e)
      go x (beyond f t i n h l) e = absurd (goes-faults e)
      go x (finally i l) e = absurd (halts-faults e)
      go x (nowhere q o) e = let (eq, es) = faults-same e in (sym es, rw (← eq) o)

  -- a fault leaves the state as it was before the instruction
  pub fault-stays : (s s' : State) (q : Question) → step P s ≡ faults q s' → s' ≡ s
  fault-stays s s' q e = (fault-inverts s s' q e).0

  pub fault-asks : (s s' : State) (q : Question) → step P s ≡ faults q s' → OfCode q
  fault-asks s s' q e = (fault-inverts s s' q e).1

  -- a halt changes the counts alone
  pub halt-stays : (s s' : State) → step P s ≡ halts s' → s' ≡ at_halt s
  halt-stays s s' e = go (step P s) (leads s) e
    where
      go : (x : Step) → Leads P s (instruction_of s) x → x ≡ halts s' → s' ≡ at_halt s
      go x (inside y i d) e = absurd (goes-halts e)
      go x (beyond f t i n h l) e = absurd (goes-halts e)
      go x (finally i l) e = sym (halts-same e)
      go x (nowhere q o) e = absurd (halts-faults (sym e))

-- ---- states passed through

length-after : (f : Effect) (r m : List ℕ) → (length (registers_after f r m) ≡ length r) × (length (memory_after f m) ≡ length m)
unfolding registers_after memory_after
length-after (put a x) r m = (length-set r a x, refl)
length-after (read a x) r m = (length-set r a _, refl)
length-after (write x y) r m = (refl, length-set m x y)

-- what holds of every state passed through, from a state of its own block and offset on
pub record Visited (P : Routine) (s₀ s : State) : Type 0 where
  pub exists : s.block < P.count
  pub within : s.offset < P.long s.block
  pub long_registers : length s.registers ≡ length s₀.registers
  pub long_memory : length s.memory ≡ length s₀.memory
  pub untouched : (s.carried ≡ s₀.carried → s ≡ s₀) × (s₀.carried ≤ s.carried)
  -- as long as no block is finished, the offset counts the instructions carried out
  pub counted : (s.finished ≡ s₀.finished → (s.block ≡ s₀.block) × (s.carried ≡ s.offset + s₀.carried)) × (s₀.finished ≤ s.finished)

module _ (P : Routine) (S : Sized P) where
  pub visited-step : (s₀ s s' : State) → Visited P s₀ s → step P s ≡ goes s' → Visited P s₀ s'
  visited-step s₀ s s' A e = go (step P s) (leads P s) e
    where
      go : (x : Step) → Leads P s (instruction_of P s) x → x ≡ goes s' → Visited P s₀ s'
      go x (inside y i d) e =
          let (r, m) = length-after (effect y s.registers) s.registers s.memory in
          rw (← goes_same e) (record {
            exists = A.exists;
            within = let w = A.within in omega arith;
            long_registers = r ∙ A.long_registers;
            long_memory = m ∙ A.long_memory;
            untouched = (λ z. absurd (let y = A.untouched.1 in omega arith), let y = A.untouched.1 in omega arith);
            counted = (λ z. let (eb, ec) = A.counted.0 z in (eb, omega arith), A.counted.1);
          })
      go x (beyond f t i n h l) e =
          rw (← goes_same e) (record {
            exists = h;
            within = S.least t h;
            long_registers = A.long_registers;
            long_memory = A.long_memory;
            untouched = (λ z. absurd (let y = A.untouched.1 in omega arith), let y = A.untouched.1 in omega arith);
            counted = (λ z. absurd (let y = A.counted.1 in omega arith), let y = A.counted.1 in omega arith);
          })
      go x (finally i l) e = absurd (goes-halts (sym e))
      go x (nowhere q o) e = absurd (goes-faults (sym e))

  -- and of the state that several steps lead to
  pub steps-visited : (n : ℕ) (s₀ s s' : State) → Visited P s₀ s → goes s' ≡ steps P n s → Visited P s₀ s'
  unfolding steps onward
  steps-visited zero s₀ s s' A e = let z : s' ≡ s = cc in rw z A
  steps-visited (suc n) s₀ s s' A e = go (step P s) refl (λ t B. steps-visited n s₀ t s' B) e
    where
      go : (x : Step) → step P s ≡ x → ((t : State) → Visited P s₀ t → goes s' ≡ steps P n t → Visited P s₀ s')
          → goes s' ≡ onward x (λ t. steps P n t) → Visited P s₀ s'
      go (goes t) p rest e = rest t (visited-step s₀ s t A p) e
      go (halts t) p rest e = absurd (goes-halts e)
      go (faults q t) p rest e = absurd (goes-faults e)

  pub visited-here : (s : State) → s.block < P.count → s.offset ≡ 0 → Visited P s s
  visited-here s h z =
      record {
        exists = h;
        within = rw z (S.least s.block h);
        long_registers = refl;
        long_memory = refl;
        untouched = (λ e. refl, omega arith);
        counted = (λ e. (refl, omega arith), omega arith);
      }

  pub visited : (last : ℕ) (s₀ s : State) → s₀.block < P.count → s₀.offset ≡ 0 → Passes P last s₀ s → Visited P s₀ s
  visited last s₀ s h z here = visited-here s₀ h z
  visited last s₀ s h z (on {s₁ = s₁} p l e) = visited-step s₀ s₁ s (visited last s₀ s₁ h z p) e

  -- the index is always below the code length
  pub index_below : (last : ℕ) (s₀ s : State) → s₀.block < P.count → s₀.offset ≡ 0 → Passes P last s₀ s → index_of P s < P.total
  index_below last s₀ s h z p =
      let A = visited last s₀ s h z p in
      let i = S.inside s.block A.exists in
      let w = A.within in
      omega arith

-- ---- the last state of a run

pub data Last (P : Routine) (last : ℕ) (s₀ : State) : Ran → Type 0 where
  pausing : {s : State} → Passes P last s₀ s → s.finished ≡ last → s.offset ≡ 0 → Last P last s₀ (paused s)
  halting : {s s' : State} → Passes P last s₀ s → s.finished < last → step P s ≡ halts s' → Last P last s₀ (halted s')
  faulting : {s : State} {q : Question} → Passes P last s₀ s → s.finished < last → step P s ≡ faults q s → Last P last s₀ (faulted q s)

-- the steps of one block, up to its end
pub data BlockEnd (P : Routine) (last : ℕ) (s₀ : State) (n : ℕ) : Step → Type 0 where
  next-block : {s : State} → Passes P last s₀ s → s.offset ≡ 0 → s.block < P.count → s.finished ≡ suc n → BlockEnd P last s₀ n (goes s)
  halt-here : {s s' : State} → Passes P last s₀ s → s.finished < last → step P s ≡ halts s' → BlockEnd P last s₀ n (halts s')
  fault-here : {s : State} {q : Question} → Passes P last s₀ s → s.finished < last → step P s ≡ faults q s → BlockEnd P last s₀ n (faults q s)

module _ (P : Routine) (S : Sized P) (last : ℕ) (s₀ : State) where
  -- one step of a block with n more after it, where those are known to come to its end
  step_end : (n : ℕ) (s : State) → Passes P last s₀ s → s.finished < last → s.block < P.count → s.offset + suc n ≡ P.long s.block
      → ((s' : State) → Passes P last s₀ s' → s'.block < P.count → s'.finished ≡ s.finished → 1 ≤ n → s'.offset + n ≡ P.long s'.block
      → BlockEnd P last s₀ s.finished (steps P n s'))
      → (x : Step) → Leads P s (instruction_of P s) x → step P s ≡ x → BlockEnd P last s₀ s.finished (onward x (λ s'. steps P n s'))
  unfolding onward steps
  step_end n s p l h e rest x (inside y i d) q = rest (after s (effect y s.registers)) (on p l q) h refl (more n d e) (omega arith)
    where
      more : (n : ℕ) → (suc s.offset ≡ P.long s.block → ⊥) → s.offset + suc n ≡ P.long s.block → 1 ≤ n
      more zero d e = absurd (d (omega arith))
      more (suc n) d e = omega arith
  step_end n s p l h e rest x (beyond f t i b k m) q =
      let z : n ≡ 0 = omega arith in
      rw z (next-block (on p l q) refl k refl)
  step_end n s p l h e rest x (finally i m) q = halt-here p l q
  step_end n s p l h e rest x (nowhere k o) q = fault-here p l q

  block-end : (n : ℕ) (s : State) → Passes P last s₀ s → s.finished < last → s.block < P.count → s.offset + suc n ≡ P.long s.block
      → BlockEnd P last s₀ s.finished (steps P (suc n) s)
  unfolding steps
  block-end zero s p l h e = step_end zero s p l h e (λ s' p' h' f m e'. absurd (omega arith)) (step P s) (leads P s) refl
  block-end (suc n) s p l h e =
      step_end (suc n) s p l h e (λ s' p' h' f m e'. subst (λ (k : ℕ). BlockEnd P last s₀ k (steps P (suc n) s')) f (block-end n s' p' (rw f l) h' e'))
      (step P s) (leads P s) refl

  -- a whole block, from its first instruction
  whole-block : (s : State) → Passes P last s₀ s → s.finished < last → s.block < P.count → s.offset ≡ 0
      → BlockEnd P last s₀ s.finished (steps P (P.long s.block) s)
  whole-block s p l h z = go (P.long s.block) refl (S.least s.block h)
    where
      go : (n : ℕ) → P.long s.block ≡ n → 1 ≤ n → BlockEnd P last s₀ s.finished (steps P n s)
      go zero e m = absurd (omega arith)
      go (suc n) e m = block-end n s p l h (omega arith)

  finish-last : (x : Step) (n : ℕ) (k : State → Ran) → BlockEnd P last s₀ n x
      → ((s : State) → Passes P last s₀ s → s.block < P.count → s.offset ≡ 0 → s.finished ≡ suc n → Last P last s₀ (k s)) → Last P last s₀ (finish x k)
  unfolding finish
  finish-last x n k (next-block {s = s} p z h f) rest = rest s p h z f
  finish-last x n k (halt-here p l q) rest = halting p l q
  finish-last x n k (fault-here p l q) rest = faulting p l q

  -- a run's end is that of the last state passed through
  pub blocks_last : (k : ℕ) (s : State) → Passes P last s₀ s → s.finished + k ≡ last → s.block < P.count → s.offset ≡ 0 → Last P last s₀ (run_blocks P k s)
  unfolding run_blocks
  blocks_last zero s p e h z = pausing p (omega arith) z
  blocks_last (suc k) s p e h z =
      finish-last _ s.finished (λ s'. run_blocks P k s') (whole-block s p (omega arith) h z) (λ s' p' h' z' f. blocks_last k s' p' (omega arith) h' z')

-- ---- a run gone on with

-- a paused run goes on
unfoldable pub resume : Ran → (State → Ran) → Ran
resume (paused s) k = k s
resume (halted s) k = halted s
resume (faulted q s) k = faulted q s

finish-resume : (x : Step) (f g : State → Ran) (k : State → Ran) → ((s : State) → f s ≡ resume (g s) k) → finish x f ≡ resume (finish x g) k
unfolding finish resume
finish-resume (goes s) f g k h = h s
finish-resume (halts s) f g k h = refl
finish-resume (faults q s) f g k h = refl

-- a run of j + k blocks is a run of j gone on with for k
pub blocks-plus : (P : Routine) (j k : ℕ) (s : State) → run_blocks P (j + k) s ≡ resume (run_blocks P j s) (λ s'. run_blocks P k s')
unfolding run_blocks resume
blocks-plus P zero k s = rw zero-add
blocks-plus P (suc j) k s =
    let first = steps P (P.long s.block) s in
    rw suc-add (finish-resume first (λ s'. run_blocks P (j + k) s') (λ s'. run_blocks P j s') (λ s'. run_blocks P k s') (λ s'. blocks-plus P j k s'))

-- ---- counts that start later

-- the same state with more blocks finished and more instructions carried out
abbrev pub later : ℕ → ℕ → State → State
later f c s =
    record { block = s.block; offset = s.offset; registers = s.registers; memory = s.memory; finished = f + s.finished; carried = c + s.carried }

unfoldable pub later_step : ℕ → ℕ → Step → Step
later_step f c (goes s) = goes (later f c s)
later_step f c (halts s) = halts (later f c s)
later_step f c (faults q s) = faults q (later f c s)

unfoldable pub later_ran : ℕ → ℕ → Ran → Ran
later_ran f c (halted s) = halted (later f c s)
later_ran f c (paused s) = paused (later f c s)
later_ran f c (faulted q s) = faulted q (later f c s)

module _ (P : Routine) (f c : ℕ) where
  need-later : (b : Bool) (q : Question) (s : State) (k k' : Unit {0} → Step) → k' tt ≡ later_step f c (k tt)
      → need b q (later f c s) k' ≡ later_step f c (need b q s k)
  unfolding provided later_step
  need-later true q s k k' e = e
  need-later false q s k k' e = refl

  carried_later : (s : State) → suc (c + s.carried) ≡ c + suc s.carried
  carried_later s = omega arith

  finished-later : (s : State) → suc (f + s.finished) ≡ f + suc s.finished
  finished-later s = omega arith

  suc-later : (s : State) (x : Effect) → ◌≡◌ {A = Step} (goes (after (later f c s) x)) (goes (later f c (after s x)))
  suc-later s x = rw (carried_later s)

  leave-later : (s : State) (n : Next) → leave (later f c s) n ≡ later_step f c (leave s n)
  unfolding leave later_step
  leave-later s stop = rw (carried_later s, finished-later s)
  leave-later s (enter t) = rw (carried_later s, finished-later s)

  perform-later : (x : Instruction) (s : State) → perform P x (later f c s) ≡ later_step f c (perform P x s)
  unfolding perform form_ask carry_out later_step
  perform-later malformed s = refl
  perform-later (plain x) s = need-later _ _ s _ _ (need-later _ _ s _ _ (suc-later s (effect x s.registers)))
  perform-later (end e) s = need-later _ _ s _ _ (need-later _ _ s _ _ (leave-later s (next e s.block s.registers)))

  step-later : (s : State) → step P (later f c s) ≡ later_step f c (step P s)
  unfolding step
  step-later s = perform-later (instruction_at P s.block s.offset) s

  onward-later : (x : Step) (k : State → Step) → ((s : State) → k (later f c s) ≡ later_step f c (k s)) → onward (later_step f c x) k ≡ later_step f c (onward x k)
  unfolding onward later_step
  onward-later (goes s) k h = h s
  onward-later (halts s) k h = refl
  onward-later (faults q s) k h = refl

  steps-later : (n : ℕ) (s : State) → steps P n (later f c s) ≡ later_step f c (steps P n s)
  unfolding steps later_step
  steps-later zero s = refl
  steps-later (suc n) s = rw (step-later s) (onward-later (step P s) (λ s'. steps P n s') (λ s'. steps-later n s'))

  finish-later : (x : Step) (k : State → Ran) → ((s : State) → k (later f c s) ≡ later_ran f c (k s)) → finish (later_step f c x) k ≡ later_ran f c (finish x k)
  unfolding finish later_step later_ran
  finish-later (goes s) k h = h s
  finish-later (halts s) k h = refl
  finish-later (faults q s) k h = refl

  pub blocks-later : (k : ℕ) (s : State) → run_blocks P k (later f c s) ≡ later_ran f c (run_blocks P k s)
  unfolding run_blocks later_ran
  blocks-later zero s = refl
  blocks-later (suc k) s =
      rw (steps-later (P.long s.block) s) (finish-later (steps P (P.long s.block) s) (λ s'. run_blocks P k s') (λ s'. blocks-later k s'))
