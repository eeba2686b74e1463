-- Laws of a block read to its end, of all blocks, and of the check.
use mathlib.Core.Path.{◌≡◌, refl, sym, ap, subst, ◌∙◌}
use mathlib.Core.Bool.{Bool, true, false}
use mathlib.Core.List.{List, [], ◌∷◌, ◌++◌}
use Prim.Native.Nat.{ℕ, zero, suc, ◌+◌, ◌-◌, ◌*◌, ◌%◌, ◌<◌, ◌≤◌}
use native.Mathlib.Numerals.{add-one}
use native.Mathlib.Nat.{sub-zero, zero-add, add-zero}
use native.Mathlib.Omega.{arith}
use lib.ListN.{length, get_or, take, drop, replicate, length-take, length-drop}
use borrow.Author.Tests.{eq-eqb, ne_eqb}
use Rattle.std.specs.Prelude.{Result}
use Rattle.model.specs.declared.Verdict.{Verdict}
use Rattle.model.specs.declared.CheckAnswer.{CheckAnswer}
use Rattle.model.specs.Question.{refusal, Outcome, ok, refused, then, in_order, first_no, passed, refusing, verdict_of}
use Rattle.model.specs.declared.questions.Question.{Question}
use Rattle.model.specs.declared.questions.Refusal.{Refusal}
use Rattle.model.specs.Table.{Tables, tables_of, Code, code_of, Routine, routine_of, rows, head_of, start_of, last_at, annotations_ask}
use Rattle.model.specs.Machine.{decode, targets_exist}
use Rattle.model.specs.Reading.{Reading, laid_at, zeros, up_from, entry}
use Rattle.model.specs.Check.{no_at, read_instruction, read_at, read_on, block_ask, judge, tables_ask, check_ask, check}
use Rattle.model.specs.Blank.{in_force}
use Rattle.model.specs.Cost.{past, instruction_asked, asked_at, sum_on, sum_in, sum_from, sum_of, counting, check_answer}
use Rattle.model.proofs.Logic.{by_less, not-ok, refused-same, all-passed, in-order-append}
use Rattle.model.proofs.Cost.{inside-bound, block-bound, past-ok}
use Rattle.table.proofs.Laws.{row_inside, start-more, routine-count, routine-long, routine-start, routine-annotation, routine-part}
use Rattle.table.proofs.Laws.{tables-size, type-lengths-passed, code-lengths-passed, size-bounds, block-bounds}
use Rattle.model.proofs.Tests.{row_last}
use Rattle.table.proofs.Questions.{left, no-refusal, first_on, first-no, first-end}
use Rattle.blank.specs.declared.Filling.{Filling}
use Rattle.blank.specs.Force.{unfilled, Fits}
use Rattle.instruction.specs.Form.{end_of, target_of}
use Rattle.instruction.proofs.Laws.{target-exists, next-exists}
use Rattle.known.specs.Numbers.{frames_of}
use Rattle.access.specs.declared.Reading.{Reading as State}
use Rattle.access.specs.State.{views_of, reading, placing}
use Rattle.access.proofs.Fields.{size-past}
use Rattle.branch.specs.End.{EdgeRows}
use Rattle.verify.specs.declared.lent.Routine.{Routine as Lent}
use Rattle.verify.specs.declared.lent.Block.{Block}
use Rattle.verify.specs.Tabled.{Starts, Tabled}
use Rattle.verify.specs.Blocks.{tables_lent, first_questions, first_ask, Annotated, Divided, BlockAt, ReadSoFar}
use Rattle.verify.specs.Blocks.{asked_in, judged}

-- ---- counts past questions

past-none : {A : Type 0} (o : Outcome A) → past o (λ _. 0) ≡ 0
unfolding past
past-none (ok a) = refl
past-none (refused r) = refl

past-refused : (o : Outcome (Unit {0})) (k : Unit {0} → ℕ) → ((verdict_of o).number ≡ 0 → ⊥) → past o k ≡ 0
unfolding past verdict_of
past-refused (ok u) k n = absurd (n refl)
past-refused (refused r) k n = refl

-- ---- questions at a place, and what follows them

module _ {A B : Type 0} (place : Question → Refusal) where
  goes_on : (o : Result (Unit {0}) Question) (a : A) (k : A → Outcome B) → o ≡ ok tt → then (placing place o a) k ≡ k a
  unfolding placing then
  goes_on o a k e = rw e

  stays : (o : Result (Unit {0}) Question) (a : A) (k : A → Outcome B) (r : Refusal) → placing place o (tt {0}) ≡ refused r → then (placing place o a) k ≡ refused r
  unfolding placing then
  stays (ok u) a k r e = absurd (not-ok (sym e))
  stays (refused q) a k r e = rw (refused-same e)

-- a result that is dropped
dropped : {A : Type 0} (place : Question → Refusal) (o : Result (Unit {0}) Question) (a : A) → then (placing place o a) (λ _. ok tt) ≡ placing place o (tt {0})
unfolding placing then
dropped place (ok u) a = refl
dropped place (refused q) a = refl

-- and the fit questions that are put after it
module _ {A : Type 0} (place : Question → Refusal) where
  counts-on : (o : Result (Unit {0}) Question) (a : A) (k : A → ℕ) → o ≡ ok tt → past (placing place o a) k ≡ k a
  unfolding placing past
  counts-on o a k e = rw e

  counts-none : (o : Result (Unit {0}) Question) (a : A) (k : A → ℕ) (r : Refusal) → placing place o (tt {0}) ≡ refused r → past (placing place o a) k ≡ 0
  unfolding placing past
  counts-none (ok u) a k r e = absurd (not-ok (sym e))
  counts-none (refused q) a k r e = refl

-- ---- one instruction of a block

module _ (𝒯 : Tables) {P : Routine} {b first : ℕ} {part : List ℕ} (B : BlockAt P b first part) (j : ℕ) (st st' : Reading)
    (o : Result (Unit {0}) Question) where
  abbrev n : ℕ
  n = length part

  abbrev Reads : Bool → Type 0
  Reads last = (place : Question → Refusal) → placing place o st' ≡ read_instruction 𝒯 P place b (j + 1) last (decode (get_or part j 0)) st

  read_at-is : (last : Bool) → last_at P b j ≡ last → Reads last → read_at 𝒯 P b j st ≡ placing (no_at 𝒯 P b j) o st'
  read_at-is last e r = rw (e, B.code, ← add-one j) (sym (r (no_at 𝒯 P b j)))

  module _ (h : j + 1 < n) (r : Reads false) where
    one_more : read_on 𝒯 P b (n - j) j st ≡ then (placing (no_at 𝒯 P b j) o st') (λ x. read_on 𝒯 P b (n - (j + 1)) (j + 1) x)
    unfolding read_on
    one_more =
        rw (left n j (omega arith), read_at-is false (ne_eqb _ (P.long b) (λ e. omega (arith, B.long))) r, add-one j)

    read-on : o ≡ ok tt → read_on 𝒯 P b (n - j) j st ≡ read_on 𝒯 P b (n - (j + 1)) (j + 1) st'
    read-on e = one_more ∙ goes_on (no_at 𝒯 P b j) o st' _ e

    read-stops : (out : Refusal) → placing (no_at 𝒯 P b j) o (tt {0}) ≡ refused out → read_on 𝒯 P b (n - j) j st ≡ refused out
    read-stops out e = one_more ∙ stays (no_at 𝒯 P b j) o st' _ out e

    -- the fit questions that it puts are k
    module _ (k : ℕ) (ek : k ≡ instruction_asked 𝒯 P b false (decode (get_or part j 0)) st) where
      one-counted : sum_on 𝒯 P (asked_at 𝒯 P) b (n - j) j st ≡ k + past (placing (no_at 𝒯 P b j) o st') (λ x. sum_on 𝒯 P (asked_at 𝒯 P) b (n - (j + 1)) (j + 1) x)
      unfolding sum_on
      one-counted =
          let inner : last_at P b j ≡ false = ne_eqb _ (P.long b) (λ e. omega (arith, B.long)) in
          rw (left n j (omega arith), read_at-is false inner r, inner, B.code, ← ek, add-one j)

      counted-on : o ≡ ok tt → sum_on 𝒯 P (asked_at 𝒯 P) b (n - j) j st ≡ k + sum_on 𝒯 P (asked_at 𝒯 P) b (n - (j + 1)) (j + 1) st'
      counted-on e = one-counted ∙ ap (λ (m : ℕ). k + m) (counts-on (no_at 𝒯 P b j) o st' _ e)

      counted-stops : (out : Refusal) → placing (no_at 𝒯 P b j) o (tt {0}) ≡ refused out → sum_on 𝒯 P (asked_at 𝒯 P) b (n - j) j st ≡ k
      counted-stops out e = one-counted ∙ ap (λ (m : ℕ). k + m) (counts-none (no_at 𝒯 P b j) o st' _ out e) ∙ add-zero k

  read-last : j + 1 ≡ n → Reads true → read_on 𝒯 P b 1 j st ≡ placing (no_at 𝒯 P b j) o (tt {0})
  unfolding read_on
  read-last h r = rw (read_at-is true (eq-eqb _ (P.long b) (omega (arith, B.long))) r) (dropped (no_at 𝒯 P b j) o st')

  counted-last : j + 1 ≡ n → (k : ℕ) → k ≡ instruction_asked 𝒯 P b true (decode (get_or part j 0)) st → sum_on 𝒯 P (asked_at 𝒯 P) b 1 j st ≡ k
  unfolding sum_on
  counted-last h k ek =
      let last : last_at P b j ≡ true = eq-eqb _ (P.long b) (omega (arith, B.long)) in
      let here : instruction_asked 𝒯 P b (last_at P b j) (decode (get_or (P.part b) j 0)) st ≡ k = rw (last, B.code) (sym ek) in
      ap (λ (m : ℕ). m + past (read_at 𝒯 P b j st) (λ _. 0)) here ∙ ap (λ (m : ℕ). k + m) (past-none (read_at 𝒯 P b j st)) ∙ add-zero k

-- some routine: before a block's end it is of no account which
abbrev nowhere : Routine
nowhere = routine_of (code_of [] [])

-- As a loop reads the instructions before the last: from offset j on they come to what all come to.
pub record InsideLeft (𝒯 : Tables) (part : List ℕ) (st₀ st : Reading) (asked j : ℕ) : Type 0 where
  pub rest : (P : Routine) (b first : ℕ) → BlockAt P b first part → read_on 𝒯 P b (P.long b) 0 st₀ ≡ read_on 𝒯 P b (length part - j) j st
  pub count : (P : Routine) (b first : ℕ) → BlockAt P b first part
      → sum_on 𝒯 P (asked_at 𝒯 P) b (P.long b) 0 st₀ ≡ asked + sum_on 𝒯 P (asked_at 𝒯 P) b (length part - j) j st
  pub few : asked ≤ 8 * j
  pub within : j + 1 ≤ length part

pub inside-begins : (𝒯 : Tables) (part : List ℕ) (st : Reading) → 1 ≤ length part → InsideLeft 𝒯 part st st 0 0
inside-begins 𝒯 part st h =
    record {
      rest = λ P b first B. rw (B.long, sub-zero);
      count = λ P b first B. rw (B.long, sub-zero) (sym (zero-add _));
      few = omega arith;
      within = omega arith;
    }

module _ {𝒯 : Tables} {part : List ℕ} {st₀ st : Reading} {asked j : ℕ} (l : InsideLeft 𝒯 part st₀ st asked j) where
  module _ (st' : Reading) (o : Result (Unit {0}) Question) (asked' : ℕ) (h : j + 1 < length part)
      (r : (P : Routine) (b : ℕ) (place : Question → Refusal)
      → placing place o st' ≡ read_instruction 𝒯 P place b (j + 1) false (decode (get_or part j 0)) st)
      (c : (P : Routine) (b : ℕ) → asked' ≡ asked + instruction_asked 𝒯 P b false (decode (get_or part j 0)) st) where
    pub few-more : ((t : ℕ) → 𝒯.size t ≤ 8) → asked' ≤ 8 * (j + 1)
    few-more small = omega (arith, c nowhere 0, inside-bound 𝒯 nowhere small 0 (decode (get_or part j 0)) st, l.few)

    pub inside_on : ((t : ℕ) → 𝒯.size t ≤ 8) → o ≡ ok tt → InsideLeft 𝒯 part st₀ st' asked' (j + 1)
    inside_on small e =
        record {
          rest = λ P b first B. l.rest P b first B ∙ read-on 𝒯 B j st st' o h (r P b) e;
          count = λ P b first B. omega (arith, l.count P b first B, c P b, counted-on 𝒯 B j st st' o h (r P b) _ refl e);
          few = few-more small;
          within = omega arith;
        }

    pub inside-stops : (P : Routine) (b first : ℕ) → BlockAt P b first part → (out : Refusal) → placing (λ q. refusal q b (first + j)) o (tt {0}) ≡ refused out
        → ReadSoFar 𝒯 P b (length part) st₀ (refused out) asked' st'
    unfolding then past
    inside-stops P b first B out e =
        let here : placing (no_at 𝒯 P b j) o (tt {0}) ≡ refused out =
        subst (λ (x : ℕ). placing (λ q. refusal q b (x + j)) o (tt {0}) ≡ refused out) (sym B.start) e in
        record {
          rest = l.rest P b first B ∙ read-stops 𝒯 B j st st' o h (r P b) out here;
          count = omega (arith, l.count P b first B, c P b, counted-stops 𝒯 B j st st' o h (r P b) _ refl out here);
        }

  pub inside-ends : j + 1 ≡ length part → (P : Routine) (b first : ℕ) → BlockAt P b first part → ReadSoFar 𝒯 P b (length part) st₀ (ok tt) asked st
  unfolding then past
  inside-ends h P b first B =
      let one : length part - j ≡ 1 = omega arith in
      let last : length part - 1 ≡ j = omega arith in
      record { rest = l.rest P b first B ∙ rw (one, last); count = l.count P b first B ∙ rw (one, last) }

-- the sizes of the tables that are lent
pub lent-small : (t : Lent) → (k : ℕ) → (tables_lent t).size k ≤ 8
lent-small t k = rw (tables-size t.types.now t.tags.now k) (t.tabled.sizes.small k)

-- ---- the last instruction of a block

-- the rows that it leads to
module _ (blocks : List ℕ) (b w : ℕ) (h : targets_exist (rows blocks) b (end_of w) ≡ true) where
  pub target_row : b * 9 + 9 ≤ length blocks → (t : ℕ) → t ≡ target_of (end_of w) → t * 9 + 9 ≤ length blocks
  target_row l t e = row_inside (length blocks) t (omega (arith, target-exists (rows blocks) b (end_of w) h (omega arith)))

  -- P has for its annotations the rows in force
  module _ (P : Routine) (offered : List ℕ) (f : Filling) (A : Annotated P blocks offered f) (l : b * 9 + 9 ≤ length blocks) where
    abbrev force : ℕ → List ℕ
    force = in_force blocks offered f.blanks f.places

    pub leads : (t k : ℕ) → t ≡ target_of (end_of w) → (b + 1 < rows blocks → k ≡ b + 1) → (row row' : List ℕ) → row ≡ force t → row' ≡ force k
        → EdgeRows P b (end_of w) row row'
    leads t k et ek row row' er er' =
        record {
          target = A.annotation _ (target-exists (rows blocks) b (end_of w) h (omega arith)) ∙ ap force (sym et) ∙ sym er;
          next = λ x.
              let more = next-exists (rows blocks) b (end_of w) h x in
              A.annotation (suc b) (omega arith) ∙ ap force (sym (ek more ∙ add-one b)) ∙ sym er';
        }

-- ---- a block

-- its own row is in force
pub own-row : {P : Routine} {blocks offered own : List ℕ} {f : Filling} {b : ℕ} → Annotated P blocks offered f → b * 9 + 9 ≤ length blocks
    → own ≡ in_force blocks offered f.blanks f.places b → P.annotation b ≡ own
own-row A h e = A.annotation _ (omega arith) ∙ sym e

no_frames : (n : ℕ) → frames_of (replicate n 0) ≡ zeros n
unfolding frames_of zeros
no_frames zero = refl
no_frames (suc n) = ap {B = List ℕ} (λ (r : List ℕ). 0 ∷ r) (no_frames n)

no-views : (n : ℕ) → views_of (replicate n 0) ≡ zeros n
unfolding views_of zeros
no-views zero = refl
no-views (suc n) = ap {B = List ℕ} (λ (r : List ℕ). 0 ∷ r) (no-views n)

-- the reading that the block's function holds at its beginning
abbrev pub begun : List ℕ → State
begun words =
    record {
      registers = 0 ∷ 1 ∷ 2 ∷ 3 ∷ 4 ∷ 5 ∷ 6 ∷ 7 ∷ [];
      values = record { words = words; frames = replicate 32 0; constants = replicate 32 0 };
      views = replicate 256 0;
      since = 0;
      base = 256;
      fields = replicate 8 0;
      asked = 0;
    }

pub block-begins : (P : Routine) (b : ℕ) (words own : List ℕ) → words ≡ laid_at (replicate 256 0) 0 own → P.annotation b ≡ own
    → reading (begun words) ≡ entry (P.annotation b)
unfolding entry zeros up_from
block-begins P b words own ew eo = rw (ew, eo, no_frames 32, no-views 256)

-- a block, where the blocks before it have put so many fit questions
abbrev pub whole : Tables → Routine → ℕ → ℕ → CheckAnswer
whole 𝒯 P b asked = counting (verdict_of (block_ask 𝒯 P b)) (asked + asked_in 𝒯 P b)

module _ (𝒯 : Tables) {P : Routine} {b first : ℕ} {part : List ℕ} (B : BlockAt P b first part) {st : Reading}
    (es : st ≡ entry (P.annotation b)) (asked : ℕ) where
  handed-is : (o : Outcome (Unit {0})) (m : ℕ) → o ≡ read_on 𝒯 P b (P.long b) 0 st → m ≡ asked + sum_on 𝒯 P (asked_at 𝒯 P) b (P.long b) 0 st
      → counting (verdict_of o) m ≡ whole 𝒯 P b asked
  unfolding block_ask sum_in
  handed-is o m eo em = rw (← es, eo, em)

  pub block-stops : (out : Refusal) {k : ℕ} {st' : Reading} → ReadSoFar 𝒯 P b (length part) st (refused out) k st' → counting (verdict_of {A = Unit {0}} (refused out)) (asked + k) ≡ whole 𝒯 P b asked
  unfolding then past
  block-stops out {k} S = handed-is (refused out) (asked + k) (sym S.rest) (omega (arith, S.count))

  module _ {k : ℕ} {st' : Reading} (S : ReadSoFar 𝒯 P b (length part) st (ok tt) k st') (some : 1 ≤ length part) (o : Result (Unit {0}) Question) (m : ℕ)
      (reads : Reads 𝒯 B (length part - 1) st' st' o true)
      (em : m ≡ instruction_asked 𝒯 P b true (decode (get_or part (length part - 1) 0)) st') where
    pub block-ends : counting (verdict_of (placing (λ q. refusal q b (first + (length part - 1))) o (tt {0}))) (asked + k + m) ≡ whole 𝒯 P b asked
    unfolding then past
    block-ends =
        let last : length part - 1 + 1 ≡ length part = omega arith in
        let here = S.rest ∙ read-last 𝒯 B (length part - 1) st' st' o last reads in
        let put = counted-last 𝒯 B (length part - 1) st' st' o last m em in
        handed-is (placing (λ q. refusal q b (first + (length part - 1))) o (tt {0})) (asked + k + m) (subst (λ (x : ℕ). placing (λ q. refusal q b (x + (length part - 1))) o (tt {0}) ≡ read_on 𝒯 P b (P.long b) 0 st) B.start (sym here)) (omega (arith, S.count, put))

-- ---- all blocks

-- As a loop judges them: from block b on they come to what all come to.
pub record BlocksLeft (𝒯 : Tables) (P : Routine) (n asked b : ℕ) : Type 0 where
  pub rest : judge 𝒯 P ≡ first_no (n - b) b (block_ask 𝒯 P)
  pub count : sum_from 𝒯 P (asked_at 𝒯 P) P.count 0 ≡ asked + sum_from 𝒯 P (asked_at 𝒯 P) (n - b) b

pub judge-begins : (𝒯 : Tables) (P : Routine) (n : ℕ) → P.count ≡ n → BlocksLeft 𝒯 P n 0 0
unfolding judge
judge-begins 𝒯 P n e = record { rest = rw (e, sub-zero); count = rw (e, sub-zero) (sym (zero-add _)) }

module _ {𝒯 : Tables} {P : Routine} {n asked b : ℕ} (l : BlocksLeft 𝒯 P n asked b) where
  one_block : b < n → sum_from 𝒯 P (asked_at 𝒯 P) (n - b) b ≡ asked_in 𝒯 P b + past (block_ask 𝒯 P b) (λ _. sum_from 𝒯 P (asked_at 𝒯 P) (n - (b + 1)) (b + 1))
  unfolding sum_from
  one_block h = rw (left n b h, add-one b)

  pub judge-ends : n ≤ b → counting passed asked ≡ judged 𝒯 P
  unfolding sum_from
  judge-ends h =
      let z : n - b ≡ 0 = omega arith in
      ap (λ (v : Verdict). counting v asked) (first-end _ n b _ l.rest h)
      ∙ ap (counting (verdict_of (judge 𝒯 P))) (sym (l.count ∙ rw z (add-zero asked)))

  -- the block at hand, and its answer
  module _ (h : b < n) (v : CheckAnswer) (ev : v ≡ counting (verdict_of (block_ask 𝒯 P b)) (asked + asked_in 𝒯 P b)) where
    number_is : v.number ≡ (verdict_of (block_ask 𝒯 P b)).number
    number_is = ap (λ (u : CheckAnswer). u.number) ev

    pub asked_is : v.asked ≡ asked + asked_in 𝒯 P b
    asked_is = ap (λ (u : CheckAnswer). u.asked) ev

    pub judge-on : v.number ≡ 0 → BlocksLeft 𝒯 P n v.asked (b + 1)
    judge-on z =
        let yes = no-refusal (block_ask 𝒯 P b) _ refl (sym number_is ∙ z) in
        record {
          rest = first_on _ n b _ l.rest h yes;
          count = omega (arith, l.count, one_block h, asked_is, past-ok (block_ask 𝒯 P b) (λ _. sum_from 𝒯 P (asked_at 𝒯 P) (n - (b + 1)) (b + 1)) tt yes);
        }

    pub judge-stops : (v.number ≡ 0 → ⊥) → v ≡ judged 𝒯 P
    judge-stops d =
        let no : (verdict_of (block_ask 𝒯 P b)).number ≡ 0 → ⊥ = λ z. d (number_is ∙ z) in
        let none = past-refused (block_ask 𝒯 P b) (λ _. sum_from 𝒯 P (asked_at 𝒯 P) (n - (b + 1)) (b + 1)) no in
        ev
        ∙ ap (λ (u : Verdict). counting u (asked + asked_in 𝒯 P b)) (first-no _ n b _ l.rest h _ refl no)
        ∙ ap (counting (verdict_of (judge 𝒯 P))) (omega (arith, l.count, one_block h, none))

-- every size is at most 8: past the table it is 0
sizes-small : (types : List ℕ) → length types % 9 ≡ 0 → ((t : ℕ) → t < rows types → (1 ≤ head_of types t) × (head_of types t ≤ 8))
    → (t : ℕ) → head_of types t ≤ 8
sizes-small types e h t =
    by_less t (rows types) (λ l. (h t l).1) (λ l. let z : 0 ≡ head_of types t = size-past types t (omega arith) in omega arith)

-- Q1 to Q5 passed
pub tabled : (types tags : List ℕ) (C : Code) → first_ask types tags C ≡ ok tt → Tabled types C
unfolding first_ask
tabled types tags C q =
    let (t, (c, (s, (l, rest)))) = all-passed (first_questions types tags C) q in
    let T = type-lengths-passed (length types) (length tags) t in
    let L = code-lengths-passed (length C.blocks) (length C.code) c in
    record {
      sizes = record { whole = T.whole; small = sizes-small types T.whole (size-bounds types tags s) };
      typed = T.most;
      most = L.most;
      long = L.long;
      bounds = block-bounds C.blocks (length C.code) l;
    }

-- where the code of block b is, by the starts of blocks
pub record Placed (C : Code) (first end b : ℕ) : Type 0 where
  pub from : first ≡ start_of C.blocks b
  pub long : end ≡ first + head_of C.blocks b
  pub least : 1 ≤ head_of C.blocks b
  pub most : head_of C.blocks b ≤ 32
  pub inside : first + head_of C.blocks b ≤ length C.code
  pub whole : length C.code ≤ 8192

pub placed_at : {types : List ℕ} (C : Code) (starts : List ℕ) (b : ℕ) → Tabled types C → Starts C.blocks starts → b < rows C.blocks
    → Placed C (get_or starts b 0) (get_or starts (b + 1) 0) b
placed_at C starts b T S h =
    let (least, most, in_code) = T.bounds b h in
    let from = S b (omega arith) in
    let to = S (b + 1) (omega arith) in
    record {
      from = from;
      long = omega (arith, start-more C.blocks b);
      least = least;
      most = most;
      inside = omega arith;
      whole = T.long;
    }

-- the part of the code of block b
abbrev pub part_of : Code → ℕ → List ℕ
part_of C b = take (head_of C.blocks b) (drop (start_of C.blocks b) C.code)

module _ {C : Code} {first end b : ℕ} (p : Placed C first end b) where
  part_long : length (part_of C b) ≡ head_of C.blocks b
  part_long = simp (length-take, length-drop) (omega (arith, p.from, p.inside))

  -- it is that from one start to the next
  pub part_is : take (end - first) (drop first C.code) ≡ part_of C b
  part_is = let e : end - first ≡ head_of C.blocks b = omega (arith, p.long) in rw (e, p.from)

  pub part-bounds : (1 ≤ length (part_of C b)) × (length (part_of C b) ≤ 32)
  part-bounds = (omega (arith, part_long, p.least), omega (arith, part_long, p.most))

-- a block as the routine hands it out, of each routine whose code is divided so
pub block_at : {types : List ℕ} (C : Code) (starts : List ℕ) (b : ℕ) → Tabled types C → Starts C.blocks starts → b < rows C.blocks → (r : Block)
    → (r.number ≡ b) × (r.first ≡ start_of C.blocks b) × (r.code.now ≡ part_of C b)
    → (P : Routine) → Divided P C → BlockAt P r.number r.first r.code.now
block_at C starts b T S h r (en, ef, ec) P D =
    rw (en, ef, ec) (record { start = D.start b; code = D.part b; long = D.long b ∙ sym (part_long (placed_at C starts b T S h)) })

-- a block puts at most 16 fit questions for each of its 32 instructions
pub blocks_few : (r : Lent) (P : Routine) (b : ℕ) → b < rows r.blocks.now → Divided P (code_of r.blocks.now r.code.now) → asked_in (tables_lent r) P b ≤ 512
blocks_few r P b h D =
    omega (arith, block-bound (tables_lent r) P (lent-small r) b, D.long b, placed_at (code_of r.blocks.now r.code.now) r.starts.now b r.tabled r.placed h)

-- ---- the routine with the rows in force, and that of tables where no row is filled

abbrev pub in_force_of : Code → List ℕ → Filling → Routine
in_force_of C offered f =
    record {
      count = rows C.blocks;
      long = λ b. head_of C.blocks b;
      start = λ b. start_of C.blocks b;
      annotation = λ b. in_force C.blocks offered f.blanks f.places b;
      part = λ b. take (head_of C.blocks b) (drop (start_of C.blocks b) C.code);
      total = length C.code;
    }

module _ (C : Code) (offered : List ℕ) where
  pub force-annotated : (f : Filling) → Annotated (in_force_of C offered f) C.blocks offered f
  force-annotated f = record { count = refl; annotation = λ b h. refl }

  pub force-divided : (f : Filling) → Divided (in_force_of C offered f) C
  force-divided f = record { long = λ b. refl; start = λ b. refl; part = λ b. refl }

  -- a block below 256 is none of those that are not there
  pub own-annotated : length C.blocks ≤ 2304 → Annotated (routine_of C) C.blocks offered unfilled
  own-annotated most =
      record { count = routine-count C; annotation = λ b h. routine-annotation C b ∙ rw (ne_eqb b 256 (λ (e : b ≡ 256). omega arith)) }

  pub own-fits : Fits unfilled offered
  own-fits = record { blanks = refl; places = refl; rows = none_blank }
    where
      none_blank : (k : ℕ) → k < 3 → get_or unfilled.blanks k 0 < 256 → get_or unfilled.places k 0 * 8 + 8 ≤ length offered
      none_blank zero l h = absurd (omega arith)
      none_blank (suc zero) l h = absurd (omega arith)
      none_blank (suc (suc zero)) l h = absurd (omega arith)
      none_blank (suc (suc (suc k))) l h = absurd (omega arith)

pub own-divided : (C : Code) → Divided (routine_of C) C
own-divided C = record { long = routine-long C; start = routine-start C; part = routine-part C }

-- ---- the check

module _ (types tags : List ℕ) (C : Code) where
  -- Q1 to Q5 with others after them
  module _ (rest : List (Outcome (Unit {0}))) where
    pub first-refused : {r : Refusal} → first_ask types tags C ≡ refused r → in_order (first_questions types tags C ++ rest) ≡ refused r
    unfolding first_ask then
    first-refused e = in-order-append (first_questions types tags C) rest ∙ rw e refl

    pub first-passed : first_ask types tags C ≡ ok tt → in_order (first_questions types tags C ++ rest) ≡ in_order rest
    unfolding first_ask then
    first-passed e = in-order-append (first_questions types tags C) rest ∙ rw e refl

  abbrev last_question : List (Outcome (Unit {0}))
  last_question = annotations_ask (rows types) C.blocks ∷ []

  pub tables-refused : {r : Refusal} → first_ask types tags C ≡ refused r → tables_ask types tags C ≡ refused r
  unfolding tables_ask
  tables-refused e = first-refused last_question e

  pub tables-last : first_ask types tags C ≡ ok tt → tables_ask types tags C ≡ annotations_ask (rows types) C.blocks
  unfolding tables_ask
  tables-last e = first-passed last_question e ∙ row_last (annotations_ask (rows types) C.blocks)

  pub check-refused : {r : Refusal} → tables_ask types tags C ≡ refused r → counting (refusing r) 0 ≡ check_answer types tags C
  unfolding check_answer check check_ask sum_of then past verdict_of
  check-refused e = rw e refl

  pub check-judges : tables_ask types tags C ≡ ok tt → judged (tables_of types tags) (routine_of C) ≡ check_answer types tags C
  unfolding check_answer check check_ask sum_of then past
  check-judges e = rw e refl
