-- One instruction: a law for each way out of `effect_of`, `reached` and `leave`.
use mathlib.Core.Path.{◌≡◌, refl, ◌∙◌}
use mathlib.Core.Bool.{Bool, true, false}
use mathlib.Core.List.{List}
use Prim.Native.Nat.{ℕ, suc, ◌/◌, ◌%◌, ◌<◌, ◌≤◌}
use native.Mathlib.Omega.{arith}
use lib.Dec.{ltb, eqb}
use lib.ListN.{length, get_or, set}
use borrow.Author.Tests.{lt-ltb, le-ltb, eq-eqb, ne_eqb}
use Rattle.std.specs.Prelude.{Ok, Err}
use Rattle.model.specs.Question.{pick, provided, refused}
use Rattle.model.specs.declared.questions.Question.{Question}
use Rattle.model.specs.declared.questions.Question.TheVariants.{Address as q18}
use Rattle.model.specs.Word.{opcode_of, a_of, b_of, c_of, sum}
use Rattle.model.specs.Table.{Routine}
use Rattle.model.specs.Machine.{Plain, constant, copy, add, subtract, multiply, divide, move, decode, put, reg, effect, addressed, registers_after}
use Rattle.model.specs.Machine.{memory_after, enter, next, State, leave, perform, carry_out, faults}
use Rattle.model.proofs.Logic.{by_equality, by_less}
use Rattle.model.proofs.Lists.{set_same}
use Rattle.instruction.specs.Form.{form_no, plain_of, end_of, Inside, Ending}
use Rattle.instruction.proofs.Parts.{arithmetic-c, divide-c}
use Rattle.instruction.proofs.Laws.{end-halt, end-jump, end-equal, end-less, form-refuses, form-anywhere, form-inside, form-ending}
use Rattle.step.specs.declared.Effect.TheVariants.{Put, Read, Write}
use Rattle.step.specs.declared.Exit.{Exit}
use Rattle.step.specs.declared.Exit.TheVariants.{To, Following, Halted}
use Rattle.step.specs.Answer.{at, step_of, value_of, does, exit_of}

-- ---- the effect of an instruction inside a block

-- an opcode that is neither a load nor a store
pub fewer : (w : ℕ) → Inside 1 w → (opcode_of w ≡ 8 → ⊥) → (opcode_of w ≡ 9 → ⊥) → opcode_of w < 8
fewer w f n8 n9 = by_less (opcode_of w) 8 (λ k. k) (λ k. absurd (by_equality (opcode_of w) 8 n8 (λ n. n9 (omega (arith, f.to)))))

-- the third part of a sum, difference or product numbers a register
third-register : (w : ℕ) → Inside 1 w → 2 < opcode_of w → opcode_of w < 6 → c_of w % 8 ≡ c_of w
third-register w f l h = omega (arith, arithmetic-c w f.well l h)

pub divisor : (w : ℕ) → Inside 1 w → opcode_of w ≡ 6 → 0 < c_of w
divisor w f e = divide-c w f.well e

module _ (P : Routine) (b j f n : ℕ) (r m : List ℕ) (d : suc j ≡ P.long b → ⊥) (w : ℕ) where
  abbrev here : State
  here = at b j r m f n

  -- Q7 or Q8
  pub refuses : (q : Question) → refused q ≡ form_no (decode w) false 0 0 → does (Err q) here ≡ perform P (decode w) here
  unfolding does perform
  refuses q e =
      rw (ne_eqb (suc j) (P.long b) d)
      (form-refuses (λ q. faults q here) P.count b _ _ false (decode w) q (e ∙ form-anywhere (decode w) 0 0 b P.count))

  module _ (k : Inside 1 w) (a : ℕ) (ea : a ≡ a_of w) where
    carries : carry_out P (plain_of w) here ≡ perform P (decode w) here
    unfolding perform
    carries = rw (ne_eqb (suc j) (P.long b) d) (form-inside (λ q. faults q here) P.count b (λ y. carry_out P y here) _ w k)

    puts : (x : Plain) (v : ℕ) → plain_of w ≡ x → put (a_of w) v ≡ effect x r → does (Ok (Put a v)) here ≡ perform P (decode w) here
    unfolding does carry_out provided addressed
    puts x v e p = rw ea (rw (e, ← p) at carries)

    module _ (c : ℕ) (ec : c ≡ c_of w) (x b' : ℕ) (eb : b' ≡ b_of w) (ex : x ≡ reg r b') where
      pub loads : opcode_of w ≡ 8 → (z : ℕ) → z ≡ sum x c → does (Ok (Read a z)) here ≡ perform P (decode w) here
      unfolding plain_of effect does carry_out addressed
      loads o z ez = rw (ez, ex, ea, eb, ec) (rw o at carries)

      pub stores : opcode_of w ≡ 9 → (z : ℕ) → z ≡ sum x c → does (Ok (Write a z (reg r a))) here ≡ perform P (decode w) here
      unfolding plain_of effect does carry_out addressed registers_after
      stores o z ez = rw (set_same r a, ez, ex, ea, eb, ec) (rw o at carries)

      pub divides : opcode_of w ≡ 6 → (v : ℕ) → v ≡ x / c → does (Ok (Put a v)) here ≡ perform P (decode w) here
      unfolding plain_of effect
      divides o v ev = rw (ev, ex, eb, ec) (puts (divide (a_of w) (b_of w) (c_of w)) _ (rw o) refl)

      -- the other opcodes
      module _ (y : ℕ) (ey : y ≡ reg r (c % 8)) where
        third : 2 < opcode_of w → opcode_of w < 6 → y ≡ reg r (c_of w)
        third l h = ey ∙ rw (ec, third-register w k l h)

        pub values : opcode_of w < 8 → (opcode_of w ≡ 6 → ⊥) → (o v : ℕ) → o ≡ opcode_of w → v ≡ value_of o x y c
            → does (Ok (Put a v)) here ≡ perform P (decode w) here
        unfolding plain_of effect value_of
        values h n6 o v eo ev =
            by_equality (opcode_of w) 1 (λ e. rw (ev, eo, e, ec) (puts (constant (a_of w) (c_of w)) _ (rw e) refl))
            (λ n1. by_equality (opcode_of w) 2 (λ e. rw (ev, eo, e, ex, eb) (puts (copy (a_of w) (b_of w)) _ (rw e) refl))
            (λ n2. by_equality (opcode_of w) 3
            (λ e. rw (ev, eo, e, third (omega arith) (omega arith), ex, eb) (puts (add (a_of w) (b_of w) (c_of w)) _ (rw e) refl))
            (λ n3. by_equality (opcode_of w) 4
            (λ e. rw (ev, eo, e, third (omega arith) (omega arith), ex, eb) (puts (subtract (a_of w) (b_of w) (c_of w)) _ (rw e) refl))
            (λ n4. by_equality (opcode_of w) 5
            (λ e. rw (ev, eo, e, third (omega arith) (omega arith), ex, eb) (puts (multiply (a_of w) (b_of w) (c_of w)) _ (rw e) refl))
            (λ n5. let e : opcode_of w ≡ 7 = omega (arith, k.from) in
            rw (ev, eo, e, ex, eb, ec) (puts (move (a_of w) (b_of w) (c_of w)) _ (rw e) refl))))))

-- ---- an effect on memory

module _ (b j f n : ℕ) (l m : List ℕ) (a x : ℕ) where
  abbrev before : State
  before = at b j l m f n

  pub put-done : (v : ℕ) → step_of (Ok v) (at b j (set l a v) m f n) ≡ does (Ok (Put a v)) before
  unfolding step_of does registers_after memory_after
  put-done v = refl

  pub read_past : length m ≤ x → step_of {A = ℕ} (Err q18) before ≡ does (Ok (Read a x)) before
  unfolding step_of does provided
  read_past h = rw (le-ltb x (length m) h)

  pub read_done : x < length m → step_of (Ok (get_or m x 0)) (at b j (set l a (get_or m x 0)) m f n) ≡ does (Ok (Read a x)) before
  unfolding step_of does provided registers_after memory_after
  read_done h = rw (lt-ltb x (length m) h)

  pub write-past : (v : ℕ) → length m ≤ x → step_of {A = ℕ} (Err q18) before ≡ does (Ok (Write a x v)) before
  unfolding step_of does provided
  write-past v h = rw (le-ltb x (length m) h)

  pub write_done : (v : ℕ) → x < length m → step_of (Ok v) (at b j (set l a v) (set m x v) f n) ≡ does (Ok (Write a x v)) before
  unfolding step_of does provided registers_after memory_after
  write_done v h = rw (lt-ltb x (length m) h)

-- ---- the last instruction of a block

module _ (P : Routine) (b j f n : ℕ) (r m : List ℕ) (w count : ℕ) (ec : P.count ≡ count) (d : suc j ≡ P.long b) where
  abbrev there : State
  there = at b j r m f n

  pub refuses-last : (q : Question) → refused q ≡ form_no (decode w) true b count → exit_of (Err q) there ≡ perform P (decode w) there
  unfolding exit_of perform
  refuses-last q e = rw (ec, eq-eqb (suc j) (P.long b) d) (form-refuses (λ q. faults q there) count b _ _ true (decode w) q e)

  module _ (k : Ending b count w) where
    leaves : leave there (next (end_of w) b r) ≡ perform P (decode w) there
    unfolding perform
    leaves = rw (ec, eq-eqb (suc j) (P.long b) d) (form-ending (λ q. faults q there) count b _ (λ e. leave there (next e b r)) w k)

    pub halts-here : opcode_of w ≡ 0 → exit_of (Ok Halted) there ≡ perform P (decode w) there
    unfolding exit_of next leave
    halts-here o = rw (end-halt w o) at leaves

    -- taken or not, by a test
    branches : (x : Exit) (q : Bool) (t : ℕ) → x ≡ pick q (To t) Following → pick q (enter t) (enter (suc b)) ≡ next (end_of w) b r
        → exit_of (Ok x) there ≡ perform P (decode w) there
    unfolding exit_of leave
    branches x true t e p = rw e (rw (← p) at leaves)
    branches x false t e p = rw e (rw (← p) at leaves)

    module _ (c : ℕ) (ew : c ≡ c_of w) where
      pub jumps_to : opcode_of w ≡ 10 → exit_of (Ok (To c)) there ≡ perform P (decode w) there
      unfolding exit_of next leave
      jumps_to o = rw ew (rw (end-jump w o) at leaves)

      module _ (x : Exit) (a : ℕ) (ea : a ≡ a_of w) where
        pub if-equal : opcode_of w ≡ 11 → x ≡ pick (eqb (reg r a) (c / 256)) (To (c % 256)) Following
            → exit_of (Ok x) there ≡ perform P (decode w) there
        unfolding next
        if-equal o e = branches x _ _ e (rw (ea, ew, end-equal w o))

        pub if-less : opcode_of w ≡ 12 → (a' : ℕ) → a' ≡ b_of w → x ≡ pick (ltb (reg r a) (reg r a')) (To c) Following
            → exit_of (Ok x) there ≡ perform P (decode w) there
        unfolding next
        if-less o a' eb e = branches x _ _ e (rw (ea, eb, ew, end-less w o))
