-- `choice::offered_ask` meets its contract: one law of Answering for each way out.
use mathlib.Core.Path.{◌≡◌, sym, ap, ◌∙◌}
use mathlib.Core.List.{List, []}
use Prim.Native.Nat.{ℕ, ◌<◌}
use native.Mathlib.Omega.{arith}
use lib.ListN.{length, get_or}
use Rattle.model.specs.declared.CheckAnswer.{CheckAnswer}
use Rattle.model.specs.Question.{ok}
use Rattle.model.specs.Table.{code_of, Code, routine_of, rows}
use Rattle.model.specs.Blank.{blanks_of, choosing, open_annotations_ask}
use Rattle.blank.proofs.Laws.{blanks-below}
use Rattle.verify.specs.Tabled.{Tabled}
use Rattle.verify.specs.Blocks.{first_ask}
use Rattle.verify.proofs.Blocks.{tabled, own-annotated, own-divided}
use Rattle.choice.proofs.Lists.{no_blocks, some_block, first-within, fourth-within}
use Rattle.choice.proofs.Answering.{first-answer, annotation-answer, unread-answer, offer-answer, opened}
use Rattle.choice.proofs.offered_ask.Goals as goal
use Rattle.choice.proofs.offered_ask.Goals.{In_ok-first_questions, In_ok-open_annotations}

-- Q1 to Q5 passed, and what that gives
first : (c : In_ok-first_questions) → first_ask c.args.types.now c.args.tags.now (code_of c.args.blocks.now c.args.code.now) ≡ ok tt
first c = sym c.first_questions.ensures.outcome ∙ c.in_ok-first_questions.was

given : (c : In_ok-first_questions) → Tabled c.args.types.now (code_of c.args.blocks.now c.args.code.now)
given c = tabled _ _ _ (first c)

-- Q6 too
open_ok : (c : In_ok-open_annotations) → open_annotations_ask (rows c.args.types.now) c.args.blocks.now ≡ ok tt
open_ok c = sym (rw c.rows-count.ensures at c.open_annotations.ensures) ∙ c.in_ok-open_annotations.was

-- each blank block is one of the blocks
below : {types : List ℕ} (C : Code) → Tabled types C → (j : ℕ) → j < length (blanks_of C.blocks) → get_or (blanks_of C.blocks) j 256 < 256
below C T j h = omega (arith, blanks-below C.blocks j h, T.most)

pub returns-in_err-first_questions : goal.returns-in_err-first_questions
returns-in_err-first_questions c =
    let no = first-answer c.args.types.now c.args.tags.now (code_of c.args.blocks.now c.args.code.now) c.args.offered.now
    (sym c.first_questions.ensures.outcome ∙ c.in_err-first_questions.was) in
    grind arith

pub overflow_cast-count : goal.overflow_cast-count
overflow_cast-count c = omega (arith, c.rows-count.ensures, (given (goal.at.overflow_cast-count c).In_ok-first_questions).typed)

pub open_annotations-requires : goal.open_annotations-requires
open_annotations-requires c = (given (goal.at.open_annotations-requires c).In_ok-first_questions).most

pub returns-in_err-open_annotations : goal.returns-in_err-open_annotations
returns-in_err-open_annotations c =
    let q = first (goal.at.returns-in_err-open_annotations c).In_ok-first_questions in
    let no = annotation-answer _ _ _ c.args.offered.now q (sym (rw c.rows-count.ensures at c.open_annotations.ensures) ∙ c.in_err-open_annotations.was) in
    grind arith

pub blank_blocks-blanks-requires : goal.blank_blocks-blanks-requires
blank_blocks-blanks-requires c = (given (goal.at.blank_blocks-blanks-requires c).In_ok-first_questions).most

pub invariant_of-routine : goal.invariant_of-routine
invariant_of-routine c =
    record {
      opcodes = c.opcode_rows-rows.ensures;
      tabled = given (goal.at.invariant_of-routine c).In_ok-first_questions;
      placed = c.first_questions.ensures.filled c.in_ok-first_questions.was;
    }

pub invariant_of-routine-2 : goal.invariant_of-routine-2
invariant_of-routine-2 c =
    record {
      opcodes = c.opcode_rows-rows.ensures;
      tabled = given (goal.at.invariant_of-routine-2 c).In_ok-first_questions;
      placed = c.first_questions.ensures.filled c.in_ok-first_questions.was;
    }

pub returns-then-blanks-eq-NO_BLOCK : goal.returns-then-blanks-eq-NO_BLOCK
returns-then-blanks-eq-NO_BLOCK c =
    let k = goal.at.returns-then-blanks-eq-NO_BLOCK c in
    let C = code_of c.args.blocks.now c.args.code.now in
    let T = given k.In_ok-first_questions in
    let none = no_blocks _ _ c.blank_blocks-blanks.ensures (below C T) c.if-blanks-eq-NO_BLOCK.true in
    c.chosen.ensures
    ∙ ap (λ (a : CheckAnswer). choosing a []) (c.judge-answer.ensures (routine_of C) (rw c.unfilled.ensures (own-annotated C _ T.most)) (own-divided C))
    ∙ unread-answer _ _ _ _ (first k.In_ok-first_questions) (open_ok k.In_ok-open_annotations) none

pub offered_questions-requires : goal.offered_questions-requires
offered_questions-requires c =
    fourth-within _ _ c.blank_blocks-blanks.ensures
    (below (code_of c.args.blocks.now c.args.code.now) (given (goal.at.offered_questions-requires c).In_ok-first_questions))

pub returns-in_err-offered_questions : goal.returns-in_err-offered_questions
returns-in_err-offered_questions c =
    let k = goal.at.returns-in_err-offered_questions c in
    let L = c.blank_blocks-blanks.ensures in
    let o = sym (rw c.rows-count.ensures at (c.offered_questions.ensures _ (given k.In_ok-first_questions).most L.fourth)) ∙ c.in_err-offered_questions.was in
    let no = offer-answer _ _ _ _ (first k.In_ok-first_questions) (open_ok k.In_ok-open_annotations) o (some_block _ _ L c.if-blanks-eq-NO_BLOCK.false) in
    grind arith

pub choose-requires : goal.choose-requires
choose-requires c =
    let k = goal.at.choose-requires c in
    let C = code_of c.args.blocks.now c.args.code.now in
    let T = given k.In_ok-first_questions in
    let L = c.blank_blocks-blanks.ensures in
    let within = first-within _ _ L (below C T) in
    let no = c.if-blanks-eq-NO_BLOCK.false in
    let o = sym (rw c.rows-count.ensures at (c.offered_questions.ensures _ T.most L.fourth)) ∙ c.in_ok-offered_questions.was in
    opened _ _ C _ (first k.In_ok-first_questions) (open_ok k.In_ok-open_annotations) o _ L (omega (arith, within, no))
