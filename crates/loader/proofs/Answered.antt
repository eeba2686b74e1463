-- What the answer of each call says: demands 1 and 2 of the definitions, of the calls themselves.
use mathlib.Core.Path.{◌≡◌, refl, sym, ap, ◌∙◌}
use mathlib.Core.List.{List, [], ◌∷◌}
use Prim.Native.Nat.{ℕ, ◌≤◌}
use lib.Dec.{eqb}
use lib.ListN.{length}
use borrow.Author.Tests.{eq-eqb, ne_eqb, leb-true}
use Rattle.model.specs.declared.CheckAnswer.{CheckAnswer}
use Rattle.model.specs.declared.OfferedAnswer.{OfferedAnswer}
use Rattle.model.specs.declared.RunAnswer.{RunAnswer}
use Rattle.model.specs.Table.{Code, code_of, Routine, routine_of}
use Rattle.model.specs.Machine.{State, Run, answer_at, run, returned, Ready}
use Rattle.model.specs.Check.{check}
use Rattle.model.specs.Cost.{check_answer}
use Rattle.model.specs.Blank.{blanks_of, blanks_ask, filled, choosing, offered_check, filled_after, LeastChoice}
use Rattle.model.specs.Faults.{NeverBegins, Halts, Pauses, Faults}
use Rattle.model.proofs.RunEnds.{run-keeps, run-exact}
use Rattle.model.proofs.Exact.{demand-2}
use Rattle.model.proofs.Cost.{costs}
use Rattle.model.proofs.Logic.{by_test, pick_true, pick-false, ask-ok}
use Rattle.model.proofs.Choice.{least-choices}
use Rattle.model.proofs.FilledTables.{filled-three, choice-length, accepted-filled}
use Rattle.loader.specs.Delivery.{CheckGave, FillGave, RunGave, Shows, RefusalLeft, FaultLeft, PauseLeft, HaltLeft, RunSays, Answered}

module _ (C : Code) (memory : List ℕ) (g : Ready) (budget : ℕ) (a : RunAnswer) (left : List ℕ) (q : RunGave C memory g budget a left) where
  abbrev P : Routine
  P = routine_of C

  abbrev made : Run
  made = run C memory g budget

  shows : (n : ℕ) (s : State) → made ≡ answer_at P n s → Shows P n s a left
  shows n s e =
      let same : a ≡ returned (answer_at P n s) = q.0 ∙ ap returned e in
      record {
        number = ap (λ (x : RunAnswer). x.number) same;
        block = ap (λ (x : RunAnswer). x.block) same;
        index = ap (λ (x : RunAnswer). x.index) same;
        finished = ap (λ (x : RunAnswer). x.finished) same;
        registers = ap (λ (x : RunAnswer). x.registers) same;
        memory = q.1 ∙ ap (λ (x : Run). x.memory) e;
      }

  refusal-left : NeverBegins C memory g budget made → RefusalLeft C memory g budget a left
  refusal-left N =
      let same = q.0 ∙ ap returned N.answer in
      record {
        refusal = N.refusal;
        first = N.first;
        number = ap (λ (x : RunAnswer). x.number) same;
        place = (ap (λ (x : RunAnswer). x.block) same, ap (λ (x : RunAnswer). x.index) same);
        finished = ap (λ (x : RunAnswer). x.finished) same;
        registers = ap (λ (x : RunAnswer). x.registers) same;
        unchanged = q.1 ∙ ap (λ (x : Run). x.memory) N.answer;
      }

  fault-left : Faults C memory g budget made → FaultLeft C memory g budget a left
  fault-left F = record { question = F.question; state = F.state; through = F.through; fault = F.fault; shows = shows _ F.state F.answer }

  pause-left : Pauses C memory g budget made → PauseLeft C memory g budget a left
  pause-left Z = record { state = Z.state; through = Z.through; finished = Z.finished; first = Z.first; shows = shows 40 Z.state Z.answer }

  halt-left : Halts C memory g budget made → HaltLeft C memory g budget a left
  halt-left H = record { state = H.state; last = H.last; through = H.through; halt = H.halt; shows = shows 0 H.last H.answer }

  same_number : a.number ≡ made.number
  same_number = ap (λ (x : RunAnswer). x.number) q.0

  run-says : RunSays C memory g budget a left
  run-says =
      let K = run-keeps C memory g budget in
      let E = run-exact C memory g budget in
      record {
        refused = λ e. refusal-left (K.opening.0 (rw same_number at e));
        faulted = λ e. fault-left (K.faulted.0 (rw same_number at e));
        paused = λ e. pause-left (E.paused_at (sym same_number ∙ e));
        paused_exactly = rw same_number E.paused;
        halted = λ e. halt-left (E.halted.0 (sym same_number ∙ e));
      }

-- ---- filling

module _ (types tags : List ℕ) (C : Code) (offered : List ℕ) where
  abbrev answer : OfferedAnswer
  answer = offered_check types tags C offered

  abbrev left-of : OfferedAnswer → List ℕ
  left-of a = filled_after a C.blocks offered

  few : (b : ℕ) (bs : List ℕ) → blanks_of C.blocks ≡ b ∷ bs → answer.number ≡ 0 → length (blanks_of C.blocks) ≤ 3
  unfolding blanks_ask
  few b bs n z = leb-true _ _ (ask-ok _ _ _ (((least-choices types tags C offered).passed b bs n).0 z).0.1.1.1.1.1.0).0

  -- an accepted routine's answer is that of the check with the table that it is left
  filled-answer : answer.number ≡ 0 → (c : List ℕ) × (answer ≡ choosing (check_answer types tags (code_of (left-of answer) C.code)) c)
  unfolding filled
  filled-answer z = go (blanks_of C.blocks) refl
    where
      laid : left-of answer ≡ filled C.blocks offered (blanks_of C.blocks) answer.choice
      laid = pick_true _ _ _ (eq-eqb answer.number 0 z)

      go : (l : List ℕ) → blanks_of C.blocks ≡ l → (c : List ℕ) × (answer ≡ choosing (check_answer types tags (code_of (left-of answer) C.code)) c)
      go [] n =
          let same : left-of answer ≡ C.blocks = laid ∙ ap (λ (l : List ℕ). filled C.blocks offered l answer.choice) n in
          ([], (least-choices types tags C offered).unread n ∙ ap (λ (T : List ℕ). choosing (check_answer types tags (code_of T C.code)) []) (sym same))
      go (b ∷ bs) n =
          let K = (least-choices types tags C offered).chosen b bs n z in
          let same : left-of answer ≡ filled C.blocks offered (blanks_of C.blocks) K.choice =
          laid
          ∙ ap (λ (x : OfferedAnswer). filled C.blocks offered (blanks_of C.blocks) x.choice) K.answer
          ∙ filled-three C.blocks offered (blanks_of C.blocks) K.choice (few b bs n z) (choice-length _ _ K.choice K.is.places) in
          (K.choice, K.answer ∙ ap (λ (T : List ℕ). choosing (check_answer types tags (code_of T C.code)) K.choice) (sym same))

  module _ (a : OfferedAnswer) (left : List ℕ) (q : FillGave types tags C offered a left) where
    number_is : a.number ≡ answer.number
    number_is = ap (λ (x : OfferedAnswer). x.number) q.0

    fill-accepts : a.number ≡ 0 → (v : CheckAnswer) → CheckGave types tags (code_of left C.code) v → (v.number ≡ 0) × (v.asked ≡ a.asked)
    fill-accepts z v g =
        let (c, e) = filled-answer (sym number_is ∙ z) in
        let e' : a ≡ choosing v c =
        q.0
        ∙ e
        ∙ ap (λ (T : List ℕ). choosing (check_answer types tags (code_of T C.code)) c) (sym (q.1 ∙ ap left-of q.0))
        ∙ ap (λ (x : CheckAnswer). choosing x c) (sym g) in
        (sym (ap (λ (x : OfferedAnswer). x.number) e') ∙ z, sym (ap (λ (x : OfferedAnswer). x.asked) e'))

    -- a routine that is accepted as it is has no blank row
    as-it-is : (check types tags C).number ≡ 0 → left-of a ≡ C.blocks
    unfolding filled
    as-it-is z =
        by_test (eqb a.number 0)
        (λ p. pick_true _ _ _ p ∙ ap (λ (l : List ℕ). filled C.blocks offered l a.choice) (accepted-filled types tags C z))
        (λ p. pick-false _ _ _ p)

    fill-says : LeastChoice types tags C offered a
        × (a.number ≡ 0 → (v : CheckAnswer) → CheckGave types tags (code_of left C.code) v → (v.number ≡ 0) × (v.asked ≡ a.asked))
        × ((a.number ≡ 0 → ⊥) → left ≡ C.blocks)
        × ((v : CheckAnswer) → CheckGave types tags C v → v.number ≡ 0 → left ≡ C.blocks)
    fill-says = (
      rw q.0 (least-choices types tags C offered),
      fill-accepts,
      λ n. q.1 ∙ pick-false _ _ _ (ne_eqb a.number 0 n),
      λ v g z. q.1 ∙ as-it-is (unfold check_answer in (sym (ap (λ (x : CheckAnswer). x.number) g) ∙ z)),
    )

pub answered : Answered
answered =
    record {
      checks = λ types tags C v q.
          let E = demand-2.checks types tags C in
          rw q (unfold check_answer in (E.accepts, E.names, refl, costs types tags C));
      offers = λ types tags C offered a q. rw q (least-choices types tags C offered);
      fills = fill-says;
      memory_checks = λ types tags allocations memory v left q.
          let E = demand-2.memory_checks types tags allocations memory in rw q.0 (E.passes, E.names, q.1);
      entry_checks = λ types tags allocations memory C g v left q.
          let E = demand-2.entry_checks types tags allocations memory C g in rw q.0 (E.passes, E.names, q.1);
      runs = run-says;
    }
