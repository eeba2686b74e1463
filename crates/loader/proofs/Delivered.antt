-- Demand 3 holds of every list of calls.
use mathlib.Core.Path.{◌≡◌, refl, sym, ap, subst, ◌∙◌}
use mathlib.Core.List.{List, [], ◌∷◌}
use mathlib.Core.Bool.{true}
use Prim.Native.Nat.{ℕ}
use lib.Dec.{eqb}
use Rattle.model.specs.Question.{◌or◌}
use Rattle.model.specs.Table.{Code}
use Rattle.model.specs.Check.{check}
use Rattle.model.specs.Cost.{check_answer}
use Rattle.model.specs.Machine.{returned, Ready, begin}
use Rattle.model.specs.Turns.{Task, World, waiting, Call, turn, running, settled, standing_by, turn_run, turned, after_call}
use Rattle.model.specs.Safety.{Demand3, Checked, AllFit, Safe, Ends, pauses, halting}
use Rattle.model.specs.declared.Verdict.{Verdict}
use Rattle.model.specs.declared.CheckAnswer.{CheckAnswer}
use Rattle.model.specs.declared.RunAnswer.{RunAnswer}
use Rattle.model.proofs.Safe.{demand-3}
use Rattle.model.proofs.ChecksAgain.{memory-again, entry-again}
use Rattle.loader.specs.Delivery.{CheckGave, RunGave, Passed, with, Calls, none, checked as check-made, offer_checked, filled, memory_checked, entry_checked}
use Rattle.loader.specs.Delivery.{turned as turn-made, ran, Holds, TurnHolds, Delivers, Delivered}

number-of : {v u : Verdict} → v ≡ u → u.number ≡ 0 → v.number ≡ 0
number-of e z = ap (λ (v : Verdict). v.number) e ∙ z

check-number : (types tags : List ℕ) (C : Code) (v : CheckAnswer) → CheckGave types tags C v → v.number ≡ 0 → (check types tags C).number ≡ 0
unfolding check_answer
check-number types tags C v e z = sym (ap (λ (a : CheckAnswer). a.number) e) ∙ z

module _ (types tags allocations memory : List ℕ) (n : ℕ) (tasks : ℕ → Task) (S : Passed types tags allocations memory n tasks) where
  abbrev Reached : World → Type 0
  Reached w = Calls types tags allocations memory n tasks w

  abbrev AllHolds : World → Type 0
  AllHolds w = Holds types tags allocations memory n tasks w

  checked : Checked types tags allocations memory n tasks
  checked =
      record {
        memory_passed = let (v, m, g, z) = S.memory_passed in number-of (sym g.0) z;
        accepted = λ i h. let (v, g, z) = S.accepted i h in check-number types tags (tasks i).code v g z;
        eight = S.eight;
        entered = λ i h. let (m, v, k, g, z) = S.entered i h in (m, number-of (sym g.0) z);
      }

  -- the world that the definitions make of a turn is the one that is made of what the call gave
  turn-leads : (w : World) (i budget : ℕ) (g : Ready) (a : RunAnswer) (left : List ℕ) → w.standing i ≡ waiting g
      → RunGave (tasks i).code w.memory g budget a left
      → after_call tasks (turn i budget) w ≡ settled w i left (standing_by a)
  unfolding after_call turned
  turn-leads w i budget g a left e (ea, el) = rw (e, ea, el) refl

  -- After a list of calls every list of the definitions is safe: the last call is one more at its head.
  all-safe : (w : World) → Reached w → (calls : List Call) → Safe types tags allocations memory n tasks calls w
  unfolding Demand3 after_call
  all-safe w none calls = demand-3 types tags allocations memory n tasks checked calls
  all-safe w (check-made x y R u p g) calls = all-safe w p calls
  all-safe w (offer_checked x y R o a p g) calls = all-safe w p calls
  all-safe w (filled x y R o a left p g) calls = all-safe w p calls
  all-safe w (memory_checked {w = v} x y z u left p (eu, el)) calls = rw el (all-safe v p calls)
  all-safe w (entry_checked {w = v} x y z R g u left p (eu, el)) calls = rw el (all-safe v p calls)
  all-safe w (turn-made {w = v} i budget g a left p e q) calls =
      subst (λ (x : World). Safe types tags allocations memory n tasks calls x) (turn-leads v i budget g a left e q)
      ((all-safe v p (turn i budget ∷ calls)).2 tt)
  all-safe w (ran {w = v} R g budget a left p o (ea, el)) calls = rw el ((all-safe v p (running R g budget ∷ calls)).2 o)

  holds : (w : World) → AllFit types tags allocations memory n tasks w → AllHolds w
  holds w F =
      record {
        fit = F;
        memory_passes = λ v left g. number-of g.0 (memory-again types tags allocations memory n tasks checked w F);
        entry_passes = λ i g v left h e q. number-of q.0 (entry-again types tags allocations memory n tasks checked w F i g h e);
      }

  -- a turn's answer is that of its last state
  halted-or-paused : (w : World) (i budget : ℕ) (g : Ready) (a : RunAnswer) → a ≡ returned (turn_run tasks w i budget g)
      → Ends types tags allocations memory n tasks i budget (begin g w.memory) (turn_run tasks w i budget g)
      → eqb a.number 0 or eqb a.number 40 ≡ true
  unfolding ◌or◌
  halted-or-paused w i budget g a e (pauses p f z q) = rw (e, q) refl
  halted-or-paused w i budget g a e (halting p f h q) = rw (e, q) refl

  turn_holds : (w : World) → Reached w → (i budget : ℕ) (g : Ready) (a : RunAnswer) → w.standing i ≡ waiting g
      → a ≡ returned (turn_run tasks w i budget g) → TurnHolds types tags allocations memory n tasks w i budget g a
  turn_holds w p i budget g a e q =
      let T = (all-safe w p (turn i budget ∷ [])).1 g e in
      record {
        answers = halted-or-paused w i budget g a q T.ends;
        safe = T;
        block_ends = λ s v z. holds _ (T.block_ends s v z);
      }

  unchanged : (w : World) (left : List ℕ) → left ≡ w.memory → with w left ≡ w
  unchanged w left e = ap (λ (m : List ℕ). with w m) e

  after : (w : World) → Reached w → AllHolds w
  after w p = holds w (all-safe w p [])

  delivers : (w : World) (calls : Reached w) → Delivers types tags allocations memory n tasks calls
  unfolding after_call
  delivers w none = after w none
  delivers w (check-made x y R u p g) = delivers w p
  delivers w (offer_checked x y R o a p g) = delivers w p
  delivers w (filled x y R o a left p g) = delivers w p
  delivers w (memory_checked {w = v} x y z u left p g) = (delivers v p, unchanged v left g.1, after w (memory_checked x y z u left p g))
  delivers w (entry_checked {w = v} x y z R g u left p q) = (delivers v p, unchanged v left q.1, after w (entry_checked x y z R g u left p q))
  delivers w (turn-made {w = v} i budget g a left p e q) =
      (delivers v p, turn_holds v p i budget g a e q.0, after w (turn-made i budget g a left p e q))
  delivers w (ran {w = v} R g budget a left p o q) =
      let same = q.1 ∙ ap (λ (x : World). x.memory) ((all-safe v p (running R g budget ∷ [])).1 o) in
      (delivers v p, unchanged v left same, after w (ran R g budget a left p o q))

pub delivered : Delivered
unfolding Delivered
delivered types tags allocations memory n tasks S w calls = delivers types tags allocations memory n tasks S w calls
