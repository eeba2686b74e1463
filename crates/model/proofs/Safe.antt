-- Demand 3 holds: every list of calls, from checked memory, accepted routines and checked registers, is safe.
use mathlib.Core.Path.{◌≡◌, refl, ap}
use mathlib.Core.List.{List, [], ◌∷◌}
use Prim.Native.Nat.{ℕ, ◌^◌, ◌≤◌, ◌<◌}
use native.Mathlib.Omega.{arith}
use lib.Dec.{ltb, eqb}
use lib.ListN.{length}
use borrow.Author.Tests.{ltb-true, eqb-true}
use Rattle.model.specs.Question.{pick, ok}
use Rattle.model.specs.Table.{Tables, tables_of, Routine, routine_of, Code, rows}
use Rattle.model.specs.Allocation.{Allocated}
use Rattle.model.specs.Machine.{State, Ran, run_blocks, answer_of, returned, Ready, ready, begin}
use Rattle.model.specs.Check.{judge, block_ask}
use Rattle.model.specs.Turns.{Task, Standing, waiting, done, World, Call, turn, checking, checking_memory, checking_entry, running, settled}
use Rattle.model.specs.Turns.{standing_by, turn_run, turned, after_call, at_start, Allowed}
use Rattle.model.specs.Exactness.{MemoryPasses}
use Rattle.model.specs.Safety.{Checked, AllFit, InField, Ends, pauses, halting, TurnSafe, CallSafe, Safe, Demand3}
use Rattle.model.proofs.Logic.{by_test, first_no-ok}
use Rattle.model.proofs.EdgeSound.{Stands, MemoryFit}
use Rattle.model.proofs.BlockSound.{Field}
use Rattle.model.proofs.MachineLaws.{Last, pausing, halting as last-halting, faulting}
use Rattle.model.proofs.TableLaws.{annotated, sized, Annotated, Sized}
use Rattle.model.proofs.MeetsDecide.{LaidOut, laid_out, layout-exactly, memory-exactly, entry-exactly}
use Rattle.model.proofs.RunSound.{RunSafe, run-safe}
use Rattle.model.proofs.RunCalls.{Opens, run_is, run-last, run-untouched}
use Rattle.model.proofs.Exactly.{Accepted, check-exactly, judge-exactly}
use Rattle.model.proofs.ReadingBlocks.{type-given}

waiting-same : {g h : Ready} → waiting g ≡ waiting h → g ≡ h
waiting-same e = cc

not-waiting : {g : Ready} → done ≡ waiting g → ⊥
not-waiting e = let z : ◌≡◌ {A = ℕ} 0 1 = cc in omega arith

-- what is known of an accepted routine
record Prepared (𝒯 : Tables) (P : Routine) : Type 0 where
  names : Annotated P
  sizes : Sized P
  blocks : (b : ℕ) → b < P.count → block_ask 𝒯 P b ≡ ok tt

prepared : (types tags : List ℕ) (R : Code) → Accepted types tags R → Prepared (tables_of types tags) (routine_of R)
unfolding judge
prepared types tags R A =
    let judged : judge (tables_of types tags) (routine_of R) ≡ ok tt = (judge-exactly (tables_of types tags) (routine_of R)).1 A.instructions in
    record {
      names = annotated (rows types) R A.annotations;
      sizes = sized R A.lengths;
      blocks = λ b h. first_no-ok _ 0 _ judged b (omega arith) (omega arith);
    }

module _ (types tags allocations memory : List ℕ) (n : ℕ) (tasks : ℕ → Task) (C : Checked types tags allocations memory n tasks) where
  abbrev 𝒯 : Tables
  𝒯 = tables_of types tags

  abbrev P : ℕ → Routine
  P i = routine_of (tasks i).code

  abbrev WorldFit : World → Type 0
  WorldFit w = AllFit types tags allocations memory n tasks w

  passes : MemoryPasses types tags allocations memory
  passes = (memory-exactly types tags allocations memory).0 C.memory_passed

  layout : LaidOut types tags allocations (length memory)
  layout = laid_out types tags allocations (length memory) ((layout-exactly types tags allocations (length memory)).1 passes.layout)

  narrow : length memory < 2 ^ 32
  narrow = let b = layout.bound in omega arith

  accepted : (i : ℕ) → i < n → Accepted types tags (tasks i).code
  accepted i h = (check-exactly types tags (tasks i).code).0 (C.accepted i h)

  sound : (i : ℕ) → i < n → Prepared 𝒯 (P i)
  sound i h = prepared types tags (tasks i).code (accepted i h)

  -- ---- worlds

  -- a world in which everything fits, and in which those that wait are routines of the list with eight registers
  record Good (w : World) : Type 0 where
    fit : WorldFit w
    mine : (i : ℕ) (g : Ready) → w.standing i ≡ waiting g → (i < n) × (length g.registers ≡ 8)

  memory-fit : (w : World) → WorldFit w → MemoryFit 𝒯 (Allocated allocations) memory w.memory
  memory-fit w F = record { records = F.records; kept = record { long = F.long; outside = F.outside; locked_kept = F.locked_kept } }

  -- what a routine goes on with meets its block's annotation
  abbrev Standable : ℕ → Ready → Type 0
  Standable i g = Stands 𝒯 (Allocated allocations) (P i) g.block g.registers

  stands : (w : World) → Good w → (i : ℕ) (g : Ready) → w.standing i ≡ waiting g → Standable i g
  stands w G i g e = let (exists, meets) = G.fit.registers i g e in record { exists = exists; eight = (G.mine i g e).1; meets = meets }

  -- where one routine comes to stand anew
  settled-good : (w : World) (i : ℕ) (m : List ℕ) (x : Standing) → Good w → MemoryFit 𝒯 (Allocated allocations) memory m
      → ((g : Ready) → x ≡ waiting g → (i < n) × Standable i g) → Good (settled w i m x)
  settled-good w i m x G M h =
      record {
        fit = record {
          records = M.records;
          registers = λ j g e. by_test (eqb j i)
              (λ q. let s = (h g (rw q at e)).1 in rw (eqb-true j i q) (s.exists, s.meets))
              (λ q. G.fit.registers j g (rw q at e));
          long = M.kept.long;
          outside = M.kept.outside;
          locked_kept = M.kept.locked_kept;
        };
        mine = λ j g e. by_test (eqb j i)
            (λ q. let s = h g (rw q at e) in (rw (eqb-true j i q) s.0, s.1.eight))
            (λ q. G.mine j g (rw q at e));
      }

  waits-good : (w : World) (i : ℕ) (g : Ready) (m : List ℕ) → Good w → i < n → MemoryFit 𝒯 (Allocated allocations) memory m
      → Standable i g → Good (settled w i m (waiting g))
  waits-good w i g m G h M S = settled-good w i m (waiting g) G M (λ k e. (h, rw (← waiting-same e) S))

  done-good : (w : World) (i : ℕ) (m : List ℕ) → Good w → MemoryFit 𝒯 (Allocated allocations) memory m → Good (settled w i m done)
  done-good w i m G M = settled-good w i m done G M (λ g e. absurd (not-waiting e))

  -- ---- a turn

  module _ (w : World) (G : Good w) (i k : ℕ) (g : Ready) (e : w.standing i ≡ waiting g) where
    abbrev s₀ : State
    s₀ = begin g w.memory

    mine : i < n
    mine = (G.mine i g e).0

    opening : Opens (tasks i).code w.memory g.block
    opening =
        let A = accepted i mine in
        record {
          code_lengths = A.code_lengths;
          lengths = A.lengths;
          exists = (G.fit.registers i g e).0;
          bound = rw G.fit.long layout.asked-length;
        }

    safe : RunSafe 𝒯 (Allocated allocations) memory narrow layout.law layout.tab (P i)
        (sound i mine).names (sound i mine).sizes (sound i mine).blocks k s₀
    safe =
        run-safe 𝒯 (Allocated allocations) memory narrow layout.law layout.tab (P i)
        (sound i mine).names (sound i mine).sizes (sound i mine).blocks k s₀ refl (stands w G i g e) (memory-fit w G.fit)

    -- how the run ends, and the world after it
    record Ended : Type 0 where
      ends : Ends types tags allocations memory n tasks i k s₀ (turn_run tasks w i k g)
      good : Good (settled w i (turn_run tasks w i k g).memory (standing_by (returned (turn_run tasks w i k g))))

    ended_by : (x : Ran) → turn_run tasks w i k g ≡ answer_of (P i) x → Last (P i) k s₀ x → Ended
    unfolding answer_of
    ended_by x q (pausing {s = s} p f z) =
        let (B, M) = safe.block_ends s p z in
        record { ends = pauses p f z q; good = rw q (waits-good w i (ready s.block s.registers) s.memory G mine M B) }
    ended_by x q (last-halting {s = s} {s' = s'} p f h) =
        record { ends = halting p f h q; good = rw q (done-good w i s'.memory G (safe.at_halt s s' p h)) }
    ended_by x q (faulting {s = s} {q = y} p f h) = absurd (safe.faultless s s y p h)

    ended : Ended
    ended =
        ended_by (run_blocks (P i) k s₀) (run_is (tasks i).code w.memory g k opening)
        (run-last (tasks i).code w.memory g k opening)

    in_field : (s : State) (c d : ℕ)
        → Field 𝒯 (Allocated allocations) memory narrow layout.law layout.tab (P i)
        (sound i mine).names (sound i mine).sizes (sound i mine).blocks s c d
        → InField types tags allocations memory n tasks i s c d
    in_field s c d F =
        let short : (P i).long s.block ≤ 32 = (sound i mine).sizes.most s.block F.exists in
        let given = type-given types tags (tasks i).code s.block s.offset F.reading short F.within F.reads c F.type in
        (F.type, given.0 F.said, F.base, F.below, F.unwrapped)

    turn-safe : TurnSafe types tags allocations memory n tasks w i k g
    turn-safe =
        record {
          ends = ended.ends;
          loads = λ s p a c d q. in_field s c d (safe.loads s p a c d q);
          stores = λ s p a c d q. in_field s c d (safe.stores s p a c d q);
          locked_kept = λ s p. (safe.kept s p).locked_kept;
          block_ends = λ s p z. let (B, M) = safe.block_ends s p z in (waits-good w i (ready s.block s.registers) s.memory G mine M B).fit;
          at_halt = λ s s' p h. (done-good w i s'.memory G (safe.at_halt s s' p h)).fit;
        }

  -- ---- a call

  turned-good : (w : World) → Good w → (i k : ℕ) (x : Standing) → w.standing i ≡ x → Good (turned tasks w i k x)
  unfolding turned
  turned-good w G i k (waiting g) e = (ended w G i k g e).good
  turned-good w G i k done e = G

  -- a run that carries nothing out changes nothing
  nothing-done : (w : World) (R : Code) (g : Ready) (k : ℕ) → Allowed (running R g k) w → after_call tasks (running R g k) w ≡ w
  unfolding after_call
  nothing-done w R g k a =
      ap (λ (m : List ℕ). let v : World = record { memory = m; standing = w.standing } in v) (run-untouched R w.memory g k a).memory

  call-safe : (c : Call) (w : World) → Good w → CallSafe types tags allocations memory n tasks c w
  call-safe (turn i k) w G = λ g e. turn-safe w G i k g e
  call-safe (checking a b R) w G = tt
  call-safe (checking_memory a b c d) w G = tt
  call-safe (checking_entry a b c d R g) w G = tt
  call-safe (running R g k) w G = λ a. nothing-done w R g k a

  after-good : (c : Call) (w : World) → Good w → Allowed c w → Good (after_call tasks c w)
  unfolding after_call
  after-good (turn i k) w G a = turned-good w G i k (w.standing i) refl
  after-good (checking x y R) w G a = G
  after-good (checking_memory x y z t) w G a = G
  after-good (checking_entry x y z t R g) w G a = G
  after-good (running R g k) w G a = rw (nothing-done w R g k a) G

  list-safe : (calls : List Call) (w : World) → Good w → Safe types tags allocations memory n tasks calls w
  list-safe [] w G = G.fit
  list-safe (c ∷ calls) w G = (G.fit, call-safe c w G, λ a. list-safe calls (after_call tasks c w) (after-good c w G a))

  -- ---- the start

  entered : (i : ℕ) → i < n → Standable i (tasks i).start
  entered i h =
      let (m, q) = C.entered i h in
      let E = (entry-exactly types tags allocations m (tasks i).code (tasks i).start).0 q in
      record { exists = E.exists; eight = C.eight i h; meets = E.registers_meet }

  start-good : Good (at_start tasks n memory)
  unfolding at_start
  start-good =
      let at : (i : ℕ) (g : Ready) → pick (ltb i n) (waiting (tasks i).start) done ≡ waiting g → (i < n) × Standable i g =
      λ i g e. by_test (ltb i n)
      (λ q. let h = ltb-true i n q in (h, rw (← waiting-same (rw q at e)) (entered i h)))
      (λ q. absurd (not-waiting (rw q at e))) in
      record {
        fit = record {
          records = passes.records;
          registers = λ i g e. let s = (at i g e).1 in (s.exists, s.meets);
          long = refl;
          outside = λ x o. refl;
          locked_kept = λ x l. refl;
        };
        mine = λ i g e. let s = at i g e in (s.0, s.1.eight);
      }

  start-safe : (calls : List Call) → Safe types tags allocations memory n tasks calls (at_start tasks n memory)
  start-safe calls = list-safe calls (at_start tasks n memory) start-good

pub demand-3 : Demand3
unfolding Demand3
demand-3 types tags allocations memory n tasks C calls = start-safe types tags allocations memory n tasks C calls
