-- A block: one instruction after another, and the last.
use mathlib.Core.Path.{◌≡◌, refl, sym, ◌∙◌}
use mathlib.Core.List.{List}
use Prim.Native.Nat.{ℕ, suc, ◌+◌, ◌-◌, ◌<◌}
use native.Mathlib.Numerals.{add-one}
use native.Mathlib.Omega.{arith}
use lib.ListN.{length, get_or}
use Rattle.std.specs.Prelude.{Result, Ok, Err}
use Rattle.model.specs.declared.questions.Question.{Question}
use Rattle.model.specs.Table.{Routine}
use Rattle.model.specs.Machine.{decode, State, Step, goes, halts, faults, perform, step, onward, steps}
use Rattle.table.proofs.Questions.{left}
use Rattle.step.specs.declared.Exit.{Exit}
use Rattle.step.specs.Answer.{at, step_of, exit_of}
use Rattle.machine.specs.declared.Fault.{Fault}
use Rattle.machine.specs.Run.{Covers, located, exit_in, offset_of}

onward-goes : (x : Step) → onward x (λ s. goes s) ≡ x
unfolding onward
onward-goes (goes s) = refl
onward-goes (halts s) = refl
onward-goes (faults q s) = refl

-- the steps of a block that are left, at the offset i
module _ (P : Routine) (part : List ℕ) (b f : ℕ) (C : Covers P b part) where
  module _ (i n : ℕ) (r m : List ℕ) where
    abbrev here : State
    here = at b i r m f n

    -- the instruction at i and those after it
    from-here : i < length part
        → steps P (length part - i) here ≡ onward (perform P (decode (get_or part i 0)) here) (λ s'. steps P (length part - (i + 1)) s')
    unfolding steps step
    from-here h = rw (left (length part) i h, C.same)

    -- the last instruction
    pub ends : suc i ≡ length part → (x : Result Exit Question) → exit_of x here ≡ perform P (decode (get_or part i 0)) here
        → exit_of x here ≡ steps P (length part - i) here
    unfolding steps
    ends h x p =
        let z : length part - (i + 1) ≡ 0 = omega arith in
        sym (from-here (omega arith) ∙ rw (z, ← p) (onward-goes (exit_of x here)))

  -- an instruction before the last, and what it made of registers and memory
  module _ (i n : ℕ) (r m r' m' : List ℕ) (h : i < length part) where
    pub goes_on : step_of {A = Unit {0}} (Ok tt) (at b i r' m' f n) ≡ perform P (decode (get_or part i 0)) (at b i r m f n)
        → steps P (length part - i) (at b i r m f n) ≡ steps P (length part - (i + 1)) (at b (i + 1) r' m' f (n + 1))
    unfolding step_of onward
    goes_on s = from-here i n r m h ∙ rw (← s, add-one i, add-one n)

    pub stops : (q : Question) → step_of {A = Unit {0}} (Err q) (at b i r' m' f n) ≡ perform P (decode (get_or part i 0)) (at b i r m f n)
        → exit_of (Err q) (at b i r' m' f n) ≡ steps P (length part - i) (at b i r m f n)
    unfolding step_of onward exit_of
    stops q s = sym (from-here i n r m h ∙ rw (← s))

-- ---- a no with its offset

module _ {A : Type 0} (i : ℕ) where
  pub located-ok : (r : Result A Question) (x : A) → located i r ≡ Ok x → r ≡ Ok x
  located-ok (Ok y) x e = cc
  located-ok (Err q) x e = cc

  pub located-no : (r : Result A Question) (y : Fault) → located i r ≡ Err y → (y.at ≡ i) × (r ≡ Err y.question)
  located-no (Ok x) y e = cc
  located-no (Err q) y e = let p : y ≡ record { at = i; question = q } = cc in (rw p, rw p)

pub exit-located : (i : ℕ) (r : Result Exit Question) → exit_in (located i r) ≡ r
exit-located i (Ok x) = refl
exit-located i (Err q) = refl

pub offset-located : (part : List ℕ) (r : Result Exit Question) → offset_of part (located (length part - 1) r) ≡ length part - 1
offset-located part (Ok x) = refl
offset-located part (Err q) = refl
