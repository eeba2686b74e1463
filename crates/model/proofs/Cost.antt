-- The fit questions that a check puts are at most 16 for each instruction examined, and how many instructions are examined.
use mathlib.Core.Path.{◌≡◌, refl, sym, ap, ◌∙◌}
use mathlib.Core.Bool.{Bool, true, false, not}
use mathlib.Core.List.{List}
use Prim.Native.Nat.{ℕ, zero, suc, ◌+◌, ◌*◌, ◌≤◌, ◌<◌}
use native.Mathlib.Omega.{arith}
use native.Mathlib.Nat.{zero-add}
use lib.ListN.{length}
use Rattle.std.specs.Prelude.{Option}
use Rattle.std.specs.Prelude.{Some, None}
use Rattle.model.specs.Question.{Refusal, Outcome, ok, refused, provided, then, first_no, verdict_of}
use Rattle.model.specs.Table.{Tables, tables_of, Code, Routine, routine_of, start_of, last_at, lengths_ask, tables_ask}
use Rattle.model.specs.Machine.{Plain, constant, copy, add, subtract, multiply, divide, move, load, store, End, halt, jump, if_equal, if_less}
use Rattle.model.specs.Machine.{Instruction, plain, end, malformed, instruction_at, targets_exist, form_ask}
use Rattle.model.specs.Reading.{Reading, entry, is_open, taken}
use Rattle.model.specs.Check.{with_reference, reference_in, on_record, edge_meets, read_at, read_on}
use Rattle.model.specs.Check.{block_ask, judge, reading_at, check_ask, check}
use Rattle.model.specs.Cost.{past, plain_asked, edges_asked, instruction_asked, asked_at, sum_on, sum_in, sum_from, sum_of, asked_of, examined_of}
use Rattle.model.specs.Cost.{check_answer, Costs}
use Rattle.model.proofs.Logic.{then_ok, ok-then, passed_then, verdict-ok, ok-verdict, not-ok, refused-same}
use Rattle.model.proofs.TableLaws.{sizes-eight, sized}
use Rattle.model.proofs.Exactly.{passed-lengths, passed-types}
use Rattle.model.proofs.ReadingBlocks.{refused-disobeys}
use Rattle.model.proofs.Exact.{check-accepts}

-- each instruction once
abbrev one : ℕ → ℕ → Reading → ℕ
one b j st = 1

-- ---- at most 16 for each

past_bound : {A : Type 0} (o : Outcome A) (f g : A → ℕ) → ((a : A) → f a ≤ 16 * g a) → past o f ≤ 16 * past o g
unfolding past
past_bound (ok a) f g h = h a
past_bound (refused r) f g h = omega arith

past-most : {A : Type 0} (o : Outcome A) (k : A → ℕ) (n : ℕ) → ((a : A) → k a ≤ n) → past o k ≤ n
unfolding past
past-most (ok a) k n h = h a
past-most (refused r) k n h = omega arith

pub provided-bound : (b : Bool) (k : Unit {0} → ℕ) (n : ℕ) → k tt ≤ n → provided b 0 k ≤ n
unfolding provided
provided-bound true k n h = h
provided-bound false k n h = omega arith

pub reference-bound : (o : Option ℕ) (k : ℕ → ℕ) (n : ℕ) → ((t : ℕ) → k t ≤ n) → with_reference o 0 k ≤ n
unfolding with_reference
reference-bound (Some t) k n h = h t
reference-bound None k n h = omega arith

module _ (𝒯 : Tables) (small : (t : ℕ) → 𝒯.size t ≤ 8) where
  plain-bound : (x : Plain) (st : Reading) → plain_asked 𝒯 x st ≤ 8
  unfolding plain_asked on_record
  plain-bound (constant a c) st = omega arith
  plain-bound (copy a b) st = omega arith
  plain-bound (add a b c) st = omega arith
  plain-bound (subtract a b c) st = omega arith
  plain-bound (multiply a b c) st = omega arith
  plain-bound (divide a b c) st = omega arith
  plain-bound (move a b c) st = omega arith
  plain-bound (load a b c) st = omega arith
  plain-bound (store a b c) st =
      reference-bound (reference_in 𝒯 st b) _ 8 (λ t. provided-bound _ _ 8 (provided-bound _ _ 8 (provided-bound _ _ 8 (small t))))

module _ (𝒯 : Tables) (P : Routine) where
  two_edges : (b : Bool) → 8 + provided b 0 (λ _. 8) ≤ 16
  two_edges b = let h = provided-bound b (λ _. 8) 8 (omega arith) in omega arith

  edges-bound : (e : End) (st : Reading) → edges_asked 𝒯 P e st ≤ 16
  unfolding edges_asked
  edges-bound halt st = omega arith
  edges-bound (jump t) st = omega arith
  edges-bound (if_equal x k t) st = two_edges (edge_meets 𝒯 P st (taken (if_equal x k t) st) t)
  edges-bound (if_less x y t) st = two_edges (edge_meets 𝒯 P st (taken (if_less x y t) st) t)

  -- the last instruction of a block puts at most 16, of two edges
  pub last-bound : (b : ℕ) (x : Instruction) (st : Reading) → instruction_asked 𝒯 P b true x st ≤ 16
  unfolding instruction_asked form_ask provided
  last-bound b malformed st = omega arith
  last-bound b (plain x) st = omega arith
  last-bound b (end e) st =
      provided-bound (targets_exist P.count b e) (λ _. provided (not (is_open st)) 0 λ _. edges_asked 𝒯 P e st) 16
      (provided-bound (not (is_open st)) (λ _. edges_asked 𝒯 P e st) 16 (edges-bound e st))

module _ (𝒯 : Tables) (P : Routine) (small : (t : ℕ) → 𝒯.size t ≤ 8) where
  -- any other at most 8, of a store
  pub inside-bound : (b : ℕ) (x : Instruction) (st : Reading) → instruction_asked 𝒯 P b false x st ≤ 8
  unfolding instruction_asked form_ask provided
  inside-bound b malformed st = omega arith
  inside-bound b (plain x) st = plain-bound 𝒯 small x st
  inside-bound b (end e) st = omega arith

  instruction-bound : (b : ℕ) (last : Bool) (x : Instruction) (st : Reading) → instruction_asked 𝒯 P b last x st ≤ 16
  instruction-bound b true x st = last-bound 𝒯 P b x st
  instruction-bound b false x st = let h = inside-bound b x st in omega arith

  -- so many for each instruction come to so many times the instructions
  on-bound : (b n j : ℕ) (st : Reading) → sum_on 𝒯 P (asked_at 𝒯 P) b n j st ≤ 16 * sum_on 𝒯 P one b n j st
  unfolding sum_on
  on-bound b zero j st = omega arith
  on-bound b (suc n) j st =
      let here = instruction-bound b (last_at P b j) (instruction_at P b j) st in
      let rest = past_bound (read_at 𝒯 P b j st) _ _ (λ st'. on-bound b n (suc j) st') in
      omega arith

  from-bound : (n b : ℕ) → sum_from 𝒯 P (asked_at 𝒯 P) n b ≤ 16 * sum_from 𝒯 P one n b
  unfolding sum_from sum_in
  from-bound zero b = omega arith
  from-bound (suc n) b =
      let here = on-bound b (P.long b) 0 (entry (P.annotation b)) in
      let rest = past_bound (block_ask 𝒯 P b) _ _ (λ _. from-bound n (suc b)) in
      omega arith

  examined-few : (b n j : ℕ) (st : Reading) → sum_on 𝒯 P one b n j st ≤ n
  unfolding sum_on
  examined-few b zero j st = omega arith
  examined-few b (suc n) j st = let h = past-most (read_at 𝒯 P b j st) _ n (λ st'. examined-few b n (suc j) st') in omega arith

  -- a block puts at most 16 for each of its instructions
  pub block-bound : (b : ℕ) → sum_in 𝒯 P (asked_at 𝒯 P) b ≤ 16 * P.long b
  unfolding sum_in
  block-bound b =
      let a = on-bound b (P.long b) 0 (entry (P.annotation b)) in
      let e = examined-few b (P.long b) 0 (entry (P.annotation b)) in
      omega arith

-- ---- an accepted routine is examined whole

pub past-ok : {A : Type 0} (o : Outcome A) (k : A → ℕ) (a : A) → o ≡ ok a → past o k ≡ k a
unfolding past
past-ok o k a e = rw e

pub past-no : {A : Type 0} (o : Outcome A) (k : A → ℕ) (r : Refusal) → o ≡ refused r → past o k ≡ 0
unfolding past
past-no o k r e = rw e

module _ (𝒯 : Tables) (P : Routine) where
  whole-block : (b n j : ℕ) (st : Reading) → read_on 𝒯 P b n j st ≡ ok tt → sum_on 𝒯 P one b n j st ≡ n
  unfolding read_on sum_on
  whole-block b zero j st q = refl
  whole-block b (suc n) j st q =
      let (st', p, r) = then_ok _ _ q in
      let rest = past-ok (read_at 𝒯 P b j st) (λ x. sum_on 𝒯 P one b n (suc j) x) st' p ∙ whole-block b n (suc j) st' r in
      omega arith

  module _ (next : (b : ℕ) → P.start (suc b) ≡ P.start b + P.long b) where
    all_blocks : (n b : ℕ) → first_no n b (block_ask 𝒯 P) ≡ ok tt → P.start b + sum_from 𝒯 P one n b ≡ P.start (b + n)
    unfolding first_no sum_from sum_in block_ask
    all_blocks zero b q = let z : b + 0 ≡ b = omega arith in rw z (omega arith)
    all_blocks (suc n) b q =
        let (p, r) = passed_then _ _ q in
        let here = whole-block b (P.long b) 0 (entry (P.annotation b)) p in
        let rest = past-ok (read_on 𝒯 P b (P.long b) 0 (entry (P.annotation b))) (λ _. sum_from 𝒯 P one n (suc b)) tt p in
        let more = all_blocks n (suc b) r in
        let z : b + suc n ≡ suc b + n = omega arith in
        let s = next b in
        rw (z, here, rest) (omega arith)

-- ---- the public call

module _ (types tags : List ℕ) (C : Code) where
  abbrev 𝒯' : Tables
  𝒯' = tables_of types tags

  abbrev P' : Routine
  P' = routine_of C

  next : (b : ℕ) → P'.start (suc b) ≡ P'.start b + P'.long b
  unfolding routine_of start_of
  next b = refl

  -- a no in code is at the last instruction examined
  up-to-the-no : (b : ℕ) → P'.long b ≤ 32 → (n j : ℕ) (st : Reading) (r : Refusal) → reading_at 𝒯' P' b j ≡ ok st → j + n ≤ P'.long b
      → read_on 𝒯' P' b n j st ≡ refused r → P'.start b + (j + sum_on 𝒯' P' one b n j st) ≡ suc r.second
  unfolding read_on reading_at sum_on then past
  up-to-the-no b m zero j st r i l q = absurd (not-ok (sym q))
  up-to-the-no b m (suc n) j st r i l q =
      go (read_at 𝒯' P' b j st) refl q (λ st' e h. up-to-the-no b m n (suc j) st' r (ok-then _ _ st i ∙ e) (omega arith) h)
    where
      go : (o : Outcome Reading) → read_at 𝒯' P' b j st ≡ o → then o (λ st'. read_on 𝒯' P' b n (suc j) st') ≡ refused r
          → ((st' : Reading) → read_at 𝒯' P' b j st ≡ ok st' → read_on 𝒯' P' b n (suc j) st' ≡ refused r
          → P'.start b + (suc j + sum_on 𝒯' P' one b n (suc j) st') ≡ suc r.second)
          → P'.start b + (j + (1 + past o (λ st'. sum_on 𝒯' P' one b n (suc j) st'))) ≡ suc r.second
      go (ok st') h q rest = let z = rest st' h q in omega arith
      go (refused x) h q rest =
          let (k, is, D) = refused-disobeys types tags C b j x m (omega arith) (record { reading = st; reads = i; no = h }) in
          let s : x ≡ r = refused-same {A = Unit {0}} q in
          let at : r.second ≡ P'.start b + j = ap (λ (y : Refusal). y.second) (sym s ∙ is) in
          omega arith

  blocks-until : ((b : ℕ) → b < P'.count → P'.long b ≤ 32) → (n b : ℕ) (r : Refusal) → b + n ≤ P'.count
      → first_no n b (block_ask 𝒯' P') ≡ refused r → P'.start b + sum_from 𝒯' P' one n b ≡ suc r.second
  unfolding first_no reading_at sum_from sum_in block_ask then past
  blocks-until short zero b r l q = absurd (not-ok (sym q))
  blocks-until short (suc n) b r l q =
      go (read_on 𝒯' P' b (P'.long b) 0 (entry (P'.annotation b))) refl q (λ h. blocks-until short n (suc b) r (omega arith) h)
    where
      go : (o : Outcome (Unit {0})) → read_on 𝒯' P' b (P'.long b) 0 (entry (P'.annotation b)) ≡ o
          → then o (λ _. first_no n (suc b) (block_ask 𝒯' P')) ≡ refused r
          → (first_no n (suc b) (block_ask 𝒯' P') ≡ refused r → P'.start (suc b) + sum_from 𝒯' P' one n (suc b) ≡ suc r.second)
          → P'.start b + (sum_on 𝒯' P' one b (P'.long b) 0 (entry (P'.annotation b)) + past o (λ _. sum_from 𝒯' P' one n (suc b))) ≡ suc r.second
      go (ok u) h q rest =
          let here = whole-block 𝒯' P' b (P'.long b) 0 (entry (P'.annotation b)) h in
          let more = rest q in
          let s = next b in
          rw here (omega arith)
      go (refused x) h q rest =
          let z : x ≡ r = refused-same {A = Unit {0}} q in
          let here = up-to-the-no b (short b (omega arith)) (P'.long b) 0 (entry (P'.annotation b)) x refl (omega arith) h in
          rw (← z) (omega arith)

  bounded : asked_of types tags C ≤ 16 * examined_of types tags C
  unfolding sum_of past
  bounded = go (tables_ask types tags C) refl
    where
      go : (o : Outcome (Unit {0})) → tables_ask types tags C ≡ o
          → past o (λ _. sum_from 𝒯' P' (asked_at 𝒯' P') P'.count 0) ≤ 16 * past o (λ _. sum_from 𝒯' P' one P'.count 0)
      go (ok u) e =
          let (l, t) = passed-types types tags C e in
          from-bound 𝒯' P' (sizes-eight types tags l t) P'.count 0
      go (refused r) e = omega arith

  tables-passed : tables_ask types tags C ≡ ok tt → examined_of types tags C ≡ P'.start 0 + sum_from 𝒯' P' one P'.count 0
  unfolding sum_of routine_of start_of
  tables-passed e = past-ok _ _ tt e ∙ sym (zero-add _)

  all-examined : (check types tags C).number ≡ 0 → examined_of types tags C ≡ length C.code
  unfolding check check_ask judge lengths_ask routine_of start_of
  all-examined e =
      let (t, q) = passed_then _ _ (verdict-ok _ e) in
      let whole : 0 + P'.count ≡ P'.count = omega arith in
      let ends = ((check-accepts types tags C).0 e).blocks_pass.sum in
      tables-passed t ∙ all_blocks 𝒯' P' next P'.count 0 q ∙ ap P'.start whole ∙ ends

  examined-to-no : tables_ask types tags C ≡ ok tt → ((check types tags C).number ≡ 0 → ⊥) → examined_of types tags C ≡ suc (check types tags C).second
  unfolding check check_ask judge
  examined-to-no t n = go (judge 𝒯' P') refl
    where
      short : (b : ℕ) → b < P'.count → P'.long b ≤ 32
      short b h = (sized C (passed-lengths types tags C t)).most b h

      whole : (o : Outcome (Unit {0})) → judge 𝒯' P' ≡ o → check_ask types tags C ≡ o
      whole o e = ok-then _ _ tt t ∙ e

      go : (o : Outcome (Unit {0})) → judge 𝒯' P' ≡ o → examined_of types tags C ≡ suc (verdict_of (check_ask types tags C)).second
      go (ok u) e = absurd (n (ok-verdict _ (whole (ok u) e)))
      go (refused r) e = tables-passed t ∙ blocks-until short P'.count 0 r (omega arith) e ∙ rw (whole (refused r) e) (unfold verdict_of in refl)

pub costs : Costs
costs types tags C =
    record {
      bound = unfold check_answer in (bounded types tags C);
      accepted = all-examined types tags C;
      in_code = examined-to-no types tags C;
      by_a_table = λ r e. unfold sum_of in (past-no _ _ r e);
    }
