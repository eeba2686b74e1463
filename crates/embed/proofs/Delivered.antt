-- Demand 1 holds of every run for C, and demand 3 of every list of calls for C: it leads where a list of crate loader's calls leads.
use mathlib.Core.Path.{◌≡◌, refl, sym, ap}
use mathlib.Core.List.{List}
use Prim.Native.Nat.{ℕ}
use native.Mathlib.Omega.{arith}
use Rattle.model.specs.declared.RunAnswer.{RunAnswer}
use Rattle.model.specs.Table.{Code}
use Rattle.model.specs.Machine.{run, returned, Ready}
use Rattle.model.specs.Cost.{check_answer}
use Rattle.model.specs.Blank.{offered_check}
use Rattle.model.specs.MemoryCheck.{memory_check, entry_check}
use Rattle.model.specs.Turns.{Task, World}
use Rattle.loader.specs.Delivery.{RunGave, Passed, Calls, Delivers, Delivered, none as no_call, checked as check-made, memory_checked as memory-made}
use Rattle.loader.specs.Delivery.{offer_checked as offer-made, filled as fill-made, entry_checked as entry-made, turned as turn-made, ran as run-made}
use Rattle.loader.proofs.Answered.{answered}
use Rattle.loader.proofs.Delivered.{delivered}
use Rattle.embed.specs.Lent.{ended_at}
use Rattle.embed.specs.Turns.{RunSaid, answer_in, PassedInC, CCalls, none, checked, offer_checked, filled, memory_checked, entry_checked}
use Rattle.embed.specs.Turns.{turned, ran, DeliversInC, AnsweredInC, DeliveredInC}

-- blocks finished, put together from their low and their high word
both_words : (a : RunAnswer) → (answer_in a.number a.registers (ended_at a)).finished ≡ a.finished
both_words a = omega arith

-- the words that a run of C gave say its answer
pub answer-said : (a : RunAnswer) → answer_in a.number a.registers (ended_at a) ≡ a
answer-said a = ap with-finished (both_words a)
  where
    with-finished : ℕ → RunAnswer
    with-finished f = record { number = a.number; block = a.block; index = a.index; finished = f; registers = a.registers }

pub run-said : (C : Code) (memory : List ℕ) (g : Ready) (budget r : ℕ) (left registers answer : List ℕ)
    → RunSaid C memory g budget r left registers answer → RunGave C memory g budget (answer_in r registers answer) left
run-said C memory g budget r left registers answer (en, el, er, ea) = (rw (en, er, ea) (answer-said (returned (run C memory g budget))), el)

pub answered-in-c : AnsweredInC
unfolding AnsweredInC
answered-in-c C memory g budget r left registers answer q =
    answered.runs C memory g budget (answer_in r registers answer) left (run-said C memory g budget r left registers answer q)

module _ (types tags allocations memory : List ℕ) (n : ℕ) (tasks : ℕ → Task) where
  passed-by-calls : PassedInC types tags allocations memory n tasks → Passed types tags allocations memory n tasks
  passed-by-calls S =
      record {
        memory_passed = let (place, left, (e, l)) = S.memory_passed in (memory_check types tags allocations memory, left, (refl, l), sym e.0);
        accepted = λ i h. let (verdict, e) = S.accepted i h in (check_answer types tags (tasks i).code, refl, sym e.0);
        eight = S.eight;
        entered = λ i h. let (m, place, left, (e, l)) = S.entered i h in
            (m, entry_check types tags allocations m (tasks i).code (tasks i).start, left, (refl, l), sym e.0);
      }

  abbrev Reached : World → Type 0
  Reached w = Calls types tags allocations memory n tasks w

  -- a list of calls for C leads where a list of loader's calls leads
  pub leads : {w : World} → CCalls types tags allocations memory n tasks w → Reached w
  leads none = no_call
  leads (checked types' tags' C r verdict p q) = check-made types' tags' C (check_answer types' tags' C) (leads p) refl
  leads (offer_checked types' tags' C offered r verdict choice p q) = offer-made types' tags' C offered (offered_check types' tags' C offered) (leads p) refl
  leads (filled types' tags' C offered r verdict choice left p q) =
      fill-made types' tags' C offered (offered_check types' tags' C offered) left (leads p) (refl, q.1)
  leads (memory_checked {w = w} types' tags' allocations' r place left p q) =
      memory-made types' tags' allocations' (memory_check types' tags' allocations' w.memory) left (leads p) (refl, q.1)
  leads (entry_checked {w = w} types' tags' allocations' C g r place left p q) =
      entry-made types' tags' allocations' C g (entry_check types' tags' allocations' w.memory C g) left (leads p) (refl, q.1)
  leads (turned {w = w} i budget g r left registers answer p e q) =
      turn-made i budget g (answer_in r registers answer) left (leads p) e (run-said (tasks i).code w.memory g budget r left registers answer q)
  leads (ran {w = w} C g budget r left registers answer p o q) =
      run-made C g budget (answer_in r registers answer) left (leads p) o (run-said C w.memory g budget r left registers answer q)

  -- and what is delivered of that list is delivered of this one
  delivers : {w : World} (calls : CCalls types tags allocations memory n tasks w)
      → Delivers types tags allocations memory n tasks (leads calls) → DeliversInC types tags allocations memory n tasks calls
  unfolding leads
  delivers none D = D
  delivers (checked types' tags' C r verdict p q) D = delivers p D
  delivers (offer_checked types' tags' C offered r verdict choice p q) D = delivers p D
  delivers (filled types' tags' C offered r verdict choice left p q) D = delivers p D
  delivers (memory_checked types' tags' allocations' r place left p q) (D, s, h) = (delivers p D, s, h)
  delivers (entry_checked types' tags' allocations' C g r place left p q) (D, s, h) = (delivers p D, s, h)
  delivers (turned i budget g r left registers answer p e q) (D, t, h) = (delivers p D, t, h)
  delivers (ran C g budget r left registers answer p o q) (D, s, h) = (delivers p D, s, h)

pub delivered-in-c : DeliveredInC
unfolding DeliveredInC Delivered
delivered-in-c types tags allocations memory n tasks S w calls =
    let P = passed-by-calls types tags allocations memory n tasks S in
    let made = leads types tags allocations memory n tasks calls in
    delivers types tags allocations memory n tasks calls (delivered types tags allocations memory n tasks P w made)
