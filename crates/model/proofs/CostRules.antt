-- The fit questions that an instruction puts are those that the rules say: they follow from the instruction and from what its questions come to.
use mathlib.Core.Path.{◌≡◌, refl, sym, ap, subst, ◌∙◌}
use mathlib.Core.Bool.{Bool, true, false}
use mathlib.Core.List.{List}
use Prim.Native.Nat.{ℕ, suc, ◌≤◌, ◌<◌}
use native.Mathlib.Omega.{arith}
use lib.Dec.{eqb, ltb}
use borrow.Author.Tests.{eqb-true}
use Rattle.std.specs.Prelude.{Option}
use Rattle.std.specs.Prelude.{Some, None}
use Rattle.model.specs.Question.{pick, Question, number_of, q14, q15, Refusal, Outcome, ok, refused, provided, then}
use Rattle.model.specs.Table.{Tables, tables_of, Code, Routine, routine_of, last_at}
use Rattle.model.specs.Machine.{Plain, constant, copy, add, subtract, multiply, divide, move, load, store, End, halt, jump, if_equal, if_less}
use Rattle.model.specs.Machine.{Instruction, plain, end, malformed, instruction_at, targets_exist, form_ask, to_load, to_store, Access}
use Rattle.model.specs.Reading.{Reading, is_open, taken, untaken}
use Rattle.model.specs.ReadingRules.{ObeysAt, DisobeysAt}
use Rattle.model.specs.Check.{value_in, with_reference, reference_in, may_touch, permits, on_record, read_plain, edge_meets, read_edges, no_at, read_end}
use Rattle.model.specs.Check.{read_instruction, read_at, reading_at}
use Rattle.model.specs.Cost.{plain_asked, edges_asked, instruction_asked, asked_at, Puts, by_a_store, by_a_jump, by_if_equal, by_if_less, taken_fails}
use Rattle.model.specs.Cost.{untaken_fails, PutByRules, stores_and_jump}
use Rattle.model.specs.Cases.{store_word, plot_types, plot_tags}
use Rattle.model.proofs.Compute.{computed}
use Rattle.model.proofs.Logic.{by_test, ok-then, ok_same, number_same}
use Rattle.model.proofs.TableLaws.{sized}
use Rattle.model.proofs.Exactly.{passed-lengths}
use Rattle.model.proofs.Cost.{provided-bound, reference-bound}
use Rattle.model.proofs.ReadingBlocks.{type-given, obeys-exactly, refused-disobeys, disobeys-refused}

-- ---- the count by the outcome

-- after a no: of an edge, its questions and those of the edge before it
abbrev no_count : Question → ℕ
no_count q = pick (eqb (number_of q) 14) 8 (pick (eqb (number_of q) 15) 16 0)

-- after a yes: of a store by the type of its base, of an end by its edges
abbrev yes_count : Tables → Reading → Instruction → ℕ
yes_count 𝒯 st malformed = 0
yes_count 𝒯 st (plain (constant a c)) = 0
yes_count 𝒯 st (plain (copy a b)) = 0
yes_count 𝒯 st (plain (add a b c)) = 0
yes_count 𝒯 st (plain (subtract a b c)) = 0
yes_count 𝒯 st (plain (multiply a b c)) = 0
yes_count 𝒯 st (plain (divide a b c)) = 0
yes_count 𝒯 st (plain (move a b c)) = 0
yes_count 𝒯 st (plain (load a b c)) = 0
yes_count 𝒯 st (plain (store a b c)) = with_reference (reference_in 𝒯 st b) 0 (λ t. 𝒯.size t)
yes_count 𝒯 st (end halt) = 0
yes_count 𝒯 st (end (jump t)) = 8
yes_count 𝒯 st (end (if_equal x k t)) = 16
yes_count 𝒯 st (end (if_less x y t)) = 16

abbrev count_by : {A : Type 0} → ℕ → Outcome A → ℕ
count_by n (ok a) = n
count_by n (refused r) = no_count r.question

module _ (𝒯 : Tables) (P : Routine) (b j : ℕ) (st : Reading) where
  abbrev refuse : {A : Type 0} → Question → Outcome A
  refuse q = refused (no_at 𝒯 P b j q)

  -- the questions of an access, none of which counts after a no
  access-count : (x : Access) (r c : ℕ) (k : ℕ → Reading) (size : ℕ → ℕ)
      → on_record 𝒯 (λ _. 0) x st r c size ≡ count_by (with_reference (reference_in 𝒯 st r) 0 size) (on_record 𝒯 refuse x st r c (λ t. ok (k t)))
  unfolding on_record with_reference provided
  access-count x r c k size = go (reference_in 𝒯 st r) refl
    where
      go : (o : Option ℕ) → reference_in 𝒯 st r ≡ o
          → on_record 𝒯 (λ _. 0) x st r c size ≡ count_by (with_reference o 0 size) (on_record 𝒯 refuse x st r c (λ t. ok (k t)))
      go None e = rw e refl
      go (Some t) e =
          rw e
          (by_test (ltb c (𝒯.size t))
          (λ h. by_test (permits 𝒯 x t c)
          (λ p. by_test (may_touch 𝒯 st (value_in st r)) (λ m. rw (h, p, m) refl) (λ m. rw (h, p, m) refl))
          (λ p. rw (h, p) refl))
          (λ h. rw h refl))

  -- what has no size counts nothing
  no_size : (o : Option ℕ) → ◌≡◌ {A = ℕ} (with_reference o 0 (λ _. 0)) 0
  no_size o = let h = reference-bound o (λ _. 0) 0 (λ t. omega arith) in omega arith

  no-count : (x : Access) (r c : ℕ) → ◌≡◌ {A = ℕ} (on_record 𝒯 (λ _. 0) x st r c (λ _. 0)) 0
  unfolding on_record
  no-count x r c =
      let least : 0 ≤ 0 = omega arith in
      let h : on_record 𝒯 (λ _. 0) x st r c (λ _. 0) ≤ 0 =
      reference-bound (reference_in 𝒯 st r) _ 0 (λ t. provided-bound _ _ 0 (provided-bound _ _ 0 (provided-bound _ _ 0 least))) in
      omega arith

  load-count : (x : Access) (r c : ℕ) (k : ℕ → Reading) → 0 ≡ count_by 0 (on_record 𝒯 refuse x st r c (λ t. ok (k t)))
  load-count x r c k =
      sym (no-count x r c) ∙ access-count x r c k (λ _. 0)
      ∙ ap (λ (n : ℕ). count_by n (on_record 𝒯 refuse x st r c (λ t. ok (k t)))) (no_size (reference_in 𝒯 st r))

  plain-count : (x : Plain) → plain_asked 𝒯 x st ≡ count_by (yes_count 𝒯 st (plain x)) (read_plain 𝒯 (no_at 𝒯 P b j) (suc j) x st)
  unfolding plain_asked read_plain
  plain-count (constant a c) = refl
  plain-count (copy a r) = refl
  plain-count (add a r c) = refl
  plain-count (subtract a r c) = refl
  plain-count (multiply a r c) = refl
  plain-count (divide a r c) = refl
  plain-count (move a r c) = refl
  plain-count (load a r c) = load-count to_load r c _
  plain-count (store a r c) = access-count to_store r c _ (λ t. 𝒯.size t)

  edges-count : (e : End) → edges_asked 𝒯 P e st ≡ count_by (yes_count 𝒯 st (end e)) (read_edges 𝒯 P (no_at 𝒯 P b j) (suc b) e st)
  unfolding edges_asked read_edges provided
  edges-count halt = refl
  edges-count (jump t) = by_test (edge_meets 𝒯 P st (taken (jump t) st) t) (λ m. rw m refl) (λ m. rw m refl)
  edges-count (if_equal x k t) =
      by_test (edge_meets 𝒯 P st (taken (if_equal x k t) st) t)
      (λ m. by_test (edge_meets 𝒯 P st (untaken (if_equal x k t) st) (suc b)) (λ u. rw (m, u) refl) (λ u. rw (m, u) refl))
      (λ m. rw m refl)
  edges-count (if_less x y t) =
      by_test (edge_meets 𝒯 P st (taken (if_less x y t) st) t)
      (λ m. by_test (edge_meets 𝒯 P st (untaken (if_less x y t) st) (suc b)) (λ u. rw (m, u) refl) (λ u. rw (m, u) refl))
      (λ m. rw m refl)

  -- an outcome without its result counts alike
  carried-count : (n : ℕ) (o : Outcome (Unit {0})) → count_by n o ≡ count_by n (then o (λ _. ok st))
  unfolding then
  carried-count n (ok u) = refl
  carried-count n (refused r) = refl

  instruction-count : (last : Bool) (x : Instruction)
      → instruction_asked 𝒯 P b last x st ≡ count_by (yes_count 𝒯 st x) (read_instruction 𝒯 P (no_at 𝒯 P b j) b (suc j) last x st)
  unfolding instruction_asked read_instruction form_ask read_end provided
  instruction-count last malformed = refl
  instruction-count true (plain x) = refl
  instruction-count false (plain x) = plain-count x
  instruction-count false (end e) = refl
  instruction-count true (end e) =
      by_test (targets_exist P.count b e)
      (λ t. by_test (is_open st) (λ o. rw (t, o) refl) (λ o. rw (t, o) (edges-count e ∙ carried-count _ _)))
      (λ t. rw t refl)

-- ---- exactly as the rules say

module _ (types tags : List ℕ) (C : Code) (b j : ℕ) (st : Reading) where
  abbrev 𝒯' : Tables
  𝒯' = tables_of types tags

  abbrev P' : Routine
  P' = routine_of C

  here : asked_at 𝒯' P' b j st ≡ count_by (yes_count 𝒯' st (instruction_at P' b j)) (read_at 𝒯' P' b j st)
  here = instruction-count 𝒯' P' b j st (last_at P' b j) (instruction_at P' b j)

  module _ (m : P'.long b ≤ 32) (l : j < P'.long b) (q : reading_at 𝒯' P' b j ≡ ok st) where
    obeys : (st' : Reading) → read_at 𝒯' P' b j st ≡ ok st' → ObeysAt 𝒯' P' b j
    obeys st' e = (obeys-exactly types tags C b j m l).0 (st', ok-then _ _ st q ∙ e)

    -- from an outcome to the rules
    yes-put : (n : ℕ) → 0 < n → ObeysAt 𝒯' P' b j → (x : Instruction) → instruction_at P' b j ≡ x → yes_count 𝒯' st x ≡ n → Puts 𝒯' P' b j n
    unfolding with_reference
    yes-put n h O malformed e c = absurd (omega arith)
    yes-put n h O (plain (constant a k)) e c = absurd (omega arith)
    yes-put n h O (plain (copy a r)) e c = absurd (omega arith)
    yes-put n h O (plain (add a r k)) e c = absurd (omega arith)
    yes-put n h O (plain (subtract a r k)) e c = absurd (omega arith)
    yes-put n h O (plain (multiply a r k)) e c = absurd (omega arith)
    yes-put n h O (plain (divide a r k)) e c = absurd (omega arith)
    yes-put n h O (plain (move a r k)) e c = absurd (omega arith)
    yes-put n h O (plain (load a r k)) e c = absurd (omega arith)
    yes-put n h O (plain (store a r k)) e c = go (reference_in 𝒯' st r) refl
      where
        go : (o : Option ℕ) → reference_in 𝒯' st r ≡ o → Puts 𝒯' P' b j n
        go (Some t) f = let z : 𝒯'.size t ≡ n = rw f at c in rw (← z) (by_a_store e O ((type-given types tags C b j st m l q r t).0 f))
        go None f = let z : 0 ≡ n = rw f at c in absurd (omega arith)
    yes-put n h O (end halt) e c = absurd (omega arith)
    yes-put n h O (end (jump t)) e c = rw (← c) (by_a_jump e O)
    yes-put n h O (end (if_equal x k t)) e c = rw (← c) (by_if_equal e O)
    yes-put n h O (end (if_less x y t)) e c = rw (← c) (by_if_less e O)

    no-put : (n : ℕ) → 0 < n → (r : Refusal) → read_at 𝒯' P' b j st ≡ refused r → no_count r.question ≡ n → Puts 𝒯' P' b j n
    no-put n h r e c =
        let (k, is, D) = refused-disobeys types tags C b j r m l (record { reading = st; reads = q; no = e }) in
        let z : no_count k ≡ n = sym (ap (λ (x : Refusal). no_count x.question) is) ∙ c in
        by_test (eqb (number_of k) 14)
        (λ y. let s : k ≡ q14 = number_same (eqb-true _ _ y) in
        let w : 8 ≡ n = rw y at z in rw (← w) (taken_fails (subst (λ (x : Question). DisobeysAt 𝒯' P' b j x) s D)))
        (λ y. by_test (eqb (number_of k) 15)
        (λ u. let s : k ≡ q15 = number_same (eqb-true _ _ u) in
        let w : 16 ≡ n = rw (y, u) at z in rw (← w) (untaken_fails (subst (λ (x : Question). DisobeysAt 𝒯' P' b j x) s D)))
        (λ u. let w : 0 ≡ n = rw (y, u) at z in absurd (omega arith)))

    put : (n : ℕ) → 0 < n → asked_at 𝒯' P' b j st ≡ n → Puts 𝒯' P' b j n
    put n h e = go (read_at 𝒯' P' b j st) refl (sym here ∙ e)
      where
        go : (o : Outcome Reading) → read_at 𝒯' P' b j st ≡ o → count_by (yes_count 𝒯' st (instruction_at P' b j)) o ≡ n → Puts 𝒯' P' b j n
        go (ok st') f c = yes-put n h (obeys st' f) (instruction_at P' b j) refl c
        go (refused r) f c = no-put n h r f c

    -- and back
    after-yes : ObeysAt 𝒯' P' b j → (x : Instruction) → instruction_at P' b j ≡ x → asked_at 𝒯' P' b j st ≡ yes_count 𝒯' st x
    after-yes O x e =
        let (st', f) = (obeys-exactly types tags C b j m l).1 O in
        let g : read_at 𝒯' P' b j st ≡ ok st' = sym (ok-then _ _ st q) ∙ f in
        here ∙ ap (count_by (yes_count 𝒯' st (instruction_at P' b j))) g ∙ ap (yes_count 𝒯' st) e

    after-no : (k : Question) → DisobeysAt 𝒯' P' b j k → asked_at 𝒯' P' b j st ≡ no_count k
    after-no k D =
        let H = disobeys-refused types tags C b j k m l D in
        let same : H.reading ≡ st = ok_same (sym H.reads ∙ q) in
        let g : read_at 𝒯' P' b j st ≡ refused (no_at 𝒯' P' b j k) = subst (λ (x : Reading). read_at 𝒯' P' b j x ≡ refused (no_at 𝒯' P' b j k)) same H.no in
        here ∙ ap (count_by (yes_count 𝒯' st (instruction_at P' b j))) g

    asked : (n : ℕ) → Puts 𝒯' P' b j n → asked_at 𝒯' P' b j st ≡ n
    unfolding with_reference
    asked n (by_a_store {a = a} {r = r} {c = c} {t = t} e O G) =
        after-yes O (plain (store a r c)) e
        ∙ ap (λ (o : Option ℕ). with_reference o 0 (λ t. 𝒯'.size t)) ((type-given types tags C b j st m l q r t).1 G)
    asked n (by_a_jump {t = t} e O) = after-yes O (end (jump t)) e
    asked n (by_if_equal {x = x} {k = k} {t = t} e O) = after-yes O (end (if_equal x k t)) e
    asked n (by_if_less {x = x} {y = y} {t = t} e O) = after-yes O (end (if_less x y t)) e
    asked n (taken_fails D) = after-no q14 D
    asked n (untaken_fails D) = after-no q15 D

pub put-by-rules : PutByRules
put-by-rules types tags C t b j n st h l q p =
    let m = (sized C (passed-lengths types tags C t)).most b h in
    (put types tags C b j st m l q n p, asked types tags C b j st m l q n)

-- what it assumes can be met: a store to a record of two fields, at the beginning of a routine past Q1 to Q6, puts 2
abbrev stores : Code
stores = stores_and_jump (store_word 5 1 0) (store_word 4 1 1)

pub put-met : Puts (tables_of plot_types plot_tags) (routine_of stores) 0 0 2
unfolding computed reading_at
put-met = (put-by-rules plot_types plot_tags stores refl 0 0 2 _ (omega arith) (omega arith) refl (omega arith)).0 refl
