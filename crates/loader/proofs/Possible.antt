-- The assumptions of Delivered can be met: what passed the definitions' checks is Passed by the answers of the definitions, and
-- wherever one of their calls leads, a list of calls leads too. By a filling an older routine with blank annotations comes to be one that has
-- passed (EntersByFilling).
use mathlib.Core.Path.{◌≡◌, refl}
use mathlib.Core.Logic.{◌↔◌}
use mathlib.Core.List.{List, ◌++◌}
use Prim.Native.Nat.{ℕ}
use Rattle.model.specs.declared.OfferedAnswer.{OfferedAnswer}
use Rattle.model.specs.declared.RunAnswer.{RunAnswer}
use Rattle.model.specs.Table.{Code, code_of}
use Rattle.model.specs.Machine.{reg, run, returned, Ready}
use Rattle.model.specs.Check.{check}
use Rattle.model.specs.Cost.{check_answer}
use Rattle.model.specs.Blank.{offered_check, filled_after, offer, stage_blank}
use Rattle.model.specs.Turns.{Task, World, Standing, waiting, done, Call, turn, checking, checking_memory, checking_entry, running, turn_run, turned}
use Rattle.model.specs.Turns.{settled, standing_by, at_start, after_call, Allowed}
use Rattle.model.specs.Exactness.{ShowsNothing}
use Rattle.model.specs.Safety.{Checked}
use Rattle.model.specs.Cases.{ref_word, tagged_word, constant_byte, verdict, plot_tags}
use Rattle.model.specs.Locks.{locked_plot_types}
use Rattle.model.proofs.Compute.{computed}
use Rattle.model.proofs.RunEnds.{run-exact}
use Rattle.model.proofs.Example.{allocations, memory, tasks, checked}
use Rattle.loader.specs.Delivery.{OfferedCheckGave, FillGave, RunGave, Passed, Calls, none, checked as check-made, offer_checked, filled}
use Rattle.loader.specs.Delivery.{turned as turn-made, ran, Delivers, Delivered}
use Rattle.loader.proofs.Delivered.{delivered}

-- A check with offered rows, and a filling, may give what the definitions say, of any tables, any routine and any offered rows.
module _ (types tags : List ℕ) (C : Code) (offered : List ℕ) where
  pub offer-check-gives : OfferedCheckGave types tags C offered (offered_check types tags C offered)
  offer-check-gives = refl

  pub fill_gives : let a = offered_check types tags C offered in FillGave types tags C offered a (filled_after a C.blocks offered)
  fill_gives = (refl, refl)

module _ (types tags allocations memory : List ℕ) (n : ℕ) (tasks : ℕ → Task) where
  pub passed : Checked types tags allocations memory n tasks → Passed types tags allocations memory n tasks
  passed C =
      record {
        memory_passed = (_, memory, (refl, refl), C.memory_passed);
        accepted = λ i h. (_, refl, unfold check_answer in (C.accepted i h));
        eight = C.eight;
        entered = λ i h. let (m, z) = C.entered i h in (m, _, m, (refl, refl), z);
      }

  abbrev Reached : World → Type 0
  Reached w = Calls types tags allocations memory n tasks w

  turn-made-of : (w : World) (i budget : ℕ) (x : Standing) → w.standing i ≡ x → Reached w → Reached (turned tasks w i budget x)
  unfolding turned
  turn-made-of w i budget (waiting g) e p =
      turn-made i budget g (returned (turn_run tasks w i budget g)) (turn_run tasks w i budget g).memory p e (refl, refl)
  turn-made-of w i budget done e p = p

  pub call-made : (c : Call) (w : World) → Allowed c w → Reached w → Reached (after_call tasks c w)
  unfolding after_call
  call-made (turn i budget) w o p = turn-made-of w i budget (w.standing i) refl p
  call-made (checking x y C) w o p = check-made x y C (check_answer x y C) p refl
  call-made (checking_memory x y z t) w o p = p
  call-made (checking_entry x y z t C g) w o p = p
  call-made (running C g budget) w o p =
      let a = run C w.memory g budget in
      ran C g budget (returned a) a.memory p o (refl, refl)

  -- a check with offered rows and a filling, of anything, as the next call of any list
  abbrev pub offer-check-made : (x y : List ℕ) (C : Code) (offered : List ℕ) {w : World} → Reached w → Reached w
  offer-check-made x y C offered p = offer_checked x y C offered (offered_check x y C offered) p (offer-check-gives x y C offered)

  abbrev pub fill-made : (x y : List ℕ) (C : Code) (offered : List ℕ) {w : World} → Reached w → Reached w
  fill-made x y C offered p =
      let a = offered_check x y C offered in
      filled x y C offered a (filled_after a C.blocks offered) p (fill_gives x y C offered)

-- A run of other code is allowed exactly when its answer shows that nothing was carried out: by the number of an opening question, or by
-- its place.
pub allowed-shows : (C : Code) (g : Ready) (budget : ℕ) (w : World) (a : RunAnswer) (left : List ℕ) → RunGave C w.memory g budget a left
    → Allowed (running C g budget) w ↔ ShowsNothing C w.memory g budget a
allowed-shows C g budget w a left q = rw q.0 (run-exact C w.memory g budget).nothing

-- two routines over two plots with locked weights have passed
pub example-passed : Passed locked_plot_types plot_tags allocations memory 2 tasks
example-passed = passed locked_plot_types plot_tags allocations memory 2 tasks checked

-- ---- an older routine enters demand 3 by a filling

-- The routine is stage_blank: the ranking of the example, with the annotations of its blocks 2 and 3 left blank. Of the rows that are offered
-- block 2 takes the last, block 3 the second, and none the first.
abbrev pub rows_offered : List ℕ
rows_offered = offer (ref_word 0) ++ offer (ref_word 1) ++ offer (tagged_word (constant_byte 1))

-- what the first turn of routine i gives back, with a budget that is enough for it to halt, and the world that this leads to
abbrev pub turn_gives : ℕ → World → RunAnswer
turn_gives i w = returned (turn_run tasks w i 9 (tasks i).start)

abbrev pub after_turn : ℕ → World → World
after_turn i w = settled w i (turn_run tasks w i 9 (tasks i).start).memory (standing_by (turn_gives i w))

abbrev pub started : World
started = at_start tasks 2 memory

abbrev pub corrected : World
corrected = after_turn 0 started

pub correction-waits : started.standing 0 ≡ waiting (tasks 0).start
unfolding at_start
correction-waits = refl

pub ranking-waits : corrected.standing 1 ≡ waiting (tasks 1).start
unfolding at_start
ranking-waits = refl

-- three calls: the filling, a turn of the correction, a turn of the ranking
abbrev pub filling : Calls locked_plot_types plot_tags allocations memory 2 tasks started
filling = fill-made locked_plot_types plot_tags allocations memory 2 tasks locked_plot_types plot_tags stage_blank rows_offered none

abbrev pub correcting : Calls locked_plot_types plot_tags allocations memory 2 tasks corrected
correcting = turn-made 0 9 (tasks 0).start (turn_gives 0 started) corrected.memory filling correction-waits (refl, refl)

abbrev pub three_calls : Calls locked_plot_types plot_tags allocations memory 2 tasks (after_turn 1 corrected)
three_calls = turn-made 1 9 (tasks 1).start (turn_gives 1 corrected) (after_turn 1 corrected).memory correcting ranking-waits (refl, refl)

pub record EntersByFilling : Type 0 where
  -- as it is, the check refuses the routine at its first blank row
  pub refused_before : check locked_plot_types plot_tags stage_blank ≡ verdict 6 2 0
  -- Whatever a filling gave, it accepted the routine, and with the table that it left this is routine 1 of the example, the ranking.
  pub filled_is : (a : OfferedAnswer) (left : List ℕ) → FillGave locked_plot_types plot_tags stage_blank rows_offered a left
      → (a.number ≡ 0) × (code_of left stage_blank.code ≡ (tasks 1).code)
  -- the ranking and the correction have passed
  pub passed : Passed locked_plot_types plot_tags allocations memory 2 tasks
  -- The ranking's turn loads the corrected weight to r4, and halts.
  pub weight_loaded : ((turn_gives 1 corrected).number ≡ 0) × (reg (turn_gives 1 corrected).registers 4 ≡ 7800)
  -- all of demand 3 holds of the three calls
  pub delivers : Delivers locked_plot_types plot_tags allocations memory 2 tasks three_calls

pub enters-by-filling : EntersByFilling
unfolding computed Delivered
enters-by-filling =
    record {
      refused_before = refl;
      filled_is = λ a left (e, l). rw (l, e) (refl, refl);
      passed = example-passed;
      weight_loaded = (refl, refl);
      delivers = delivered locked_plot_types plot_tags allocations memory 2 tasks example-passed _ three_calls;
    }
