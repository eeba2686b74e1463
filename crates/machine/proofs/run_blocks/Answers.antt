-- `machine::run_blocks` meets its contract: a block after another, and a law for each way out.
use mathlib.Core.Path.{◌≡◌, sym, ap, ◌∙◌}
use mathlib.Core.Logic.{inl, inr}
use mathlib.Core.List.{List}
use Prim.Native.Nat.{ℕ, ◌+◌, ◌-◌, ◌≤◌, ◌<◌}
use native.Mathlib.Omega.{arith}
use lib.ListN.{length, get_or, take, drop}
use Rattle.model.specs.Table.{routine_of, start_of, head_of, rows, code_of}
use Rattle.model.specs.Machine.{Run, returned, steps}
use Rattle.model.specs.declared.RunAnswer.{RunAnswer}
use Rattle.table.proofs.Laws.{start-more, routine-count, routine-long, routine-start}
use Rattle.std.specs.Prelude.{Ok}
use Rattle.step.specs.declared.Exit.TheVariants.{Halted}
use Rattle.step.specs.Answer.{at, exit_of}
use Rattle.machine.specs.Run.{Covers, Opened, exit_in, offset_of}
use Rattle.machine.proofs.Runs.{GoesTo, last_word_of, bounds, covers, leads-on, run_on, run-halts, run-faults, run-pauses}
use Rattle.machine.proofs.run_blocks.Goals as goal
use Rattle.machine.proofs.run_blocks.Goals.{After-run_block, in-To, in-Following}

-- ---- in a round: where the block starts and ends, and its part of the code

record Placed (blocks code starts : List ℕ) (b first : ℕ) : Type 0 where
  starts-there : first ≡ start_of blocks b
  past : get_or starts (b + 1) 0 ≡ start_of blocks b + head_of blocks b
  least : 1 ≤ head_of blocks b
  inside : start_of blocks b + head_of blocks b ≤ length code
  long : head_of blocks b ≡ length (take (get_or starts (b + 1) 0 - first) (drop first code))
  part : Covers (routine_of (code_of blocks code)) b (take (get_or starts (b + 1) 0 - first) (drop first code))

module _ (blocks code starts : List ℕ) (block : ℕ) (O : Opened blocks code starts block) (b first : ℕ) (h : b < rows blocks) (e : first ≡ start_of blocks b) where
  placed : Placed blocks code starts b first
  placed =
      let tables = code_of blocks code in
      let next = O.filled (b + 1) (omega arith) in
      let part = covers tables O.lengths _ _ _ h e next in
      let (l, k) = bounds tables O.lengths b h in
      record {
        starts-there = e;
        past = next ∙ start-more blocks b;
        least = l;
        inside = k;
        long = sym (routine-long tables b) ∙ part.long;
        part = part;
      }

-- ---- after the block: what it came to, and that a block which the exit leads to is one of the table

abbrev part : After-run_block → List ℕ
part c = take (get_or c.args.starts.now (c.loop-finished.b + 1) 0 - c.loop-finished.first) (drop c.loop-finished.first c.args.code.now)

block-ran : (c : After-run_block) →
    let j = offset_of (part c) c.run_block.result in
    let P = routine_of (code_of c.args.blocks.now c.args.code.now) in
    let l = c.loop-finished in
    exit_of (exit_in c.run_block.result) (at l.b j c.run_block.new.registers c.run_block.new.memory l.finished (0 + j))
    ≡ steps P (P.long l.b) (at l.b 0 l.current l.memory l.finished 0)
block-ran c =
    let l = c.loop-finished in
    c.run_block.ensures.steps _ l.finished 0 (routine-count _ ∙ sym c.rows-count.ensures) (placed _ _ _ _ c.requires _ _ l.invariant.1 l.invariant.2).part

exists : (c : After-run_block) (t : ℕ) → GoesTo (exit_in c.run_block.result) c.loop-finished.b t → t < rows c.args.blocks.now
exists c t g =
    leads-on (code_of c.args.blocks.now c.args.code.now) c.requires.lengths _ c.loop-finished.b _ _ _ _ _ _ _ _ c.loop-finished.invariant.1 _ (block-ran c) t g

-- a run that is known is the answer
answered : {a : RunAnswer} {r m : Run} → a ≡ returned r → r ≡ m → (a ≡ returned m) × (r.memory ≡ m.memory)
answered e w = (e ∙ ap returned w, ap (λ (r : Run). r.memory) w)

pub slice_bounds-run_block-count : goal.slice_bounds-run_block-count
slice_bounds-run_block-count c = let l = c.loop-finished.invariant in omega (arith, placed _ _ _ _ c.requires _ _ l.1 l.2)

pub slice_bounds-run_block-start : goal.slice_bounds-run_block-start
slice_bounds-run_block-start c = let l = c.loop-finished.invariant in omega (arith, placed _ _ _ _ c.requires _ _ l.1 l.2)

pub slice_bounds-run_block-end : goal.slice_bounds-run_block-end
slice_bounds-run_block-end c = let l = c.loop-finished.invariant in omega (arith, placed _ _ _ _ c.requires _ _ l.1 l.2)

pub run_block-requires : goal.run_block-requires
run_block-requires c =
    let l = c.loop-finished.invariant in
    let p = placed _ _ _ _ c.requires _ _ l.1 l.2 in
    (c.opcode_rows-rows.ensures, omega (arith, p), omega arith, last_word_of c.args.code.now _ _ (omega (arith, p)) (omega (arith, p)))

pub bounds-starts-t : goal.bounds-starts-t
bounds-starts-t c =
    let e = exists (goal.at.bounds-starts-t c).After-run_block c.in-To.t (inl (rw (c.in-Ok.is, c.in-To.is))) in
    omega (arith, e)

pub bounds-code-end : goal.bounds-code-end
bounds-code-end c = let l = c.loop-finished.invariant in omega (arith, placed _ _ _ _ c.requires _ _ l.1 l.2)

pub overflow_sub-end : goal.overflow_sub-end
overflow_sub-end c = let l = c.loop-finished.invariant in omega (arith, placed _ _ _ _ c.requires _ _ l.1 l.2)

pub overflow_sub-end-in-Halted : goal.overflow_sub-end-in-Halted
overflow_sub-end-in-Halted c = let l = c.loop-finished.invariant in omega (arith, placed _ _ _ _ c.requires _ _ l.1 l.2)

pub returns-in-Halted : goal.returns-in-Halted
returns-in-Halted c =
    let l = c.loop-finished in
    let tables = code_of c.args.blocks.now c.args.code.now in
    let is : c.run_block.result ≡ Ok Halted = c.in-Ok.is ∙ rw c.in-Halted.is in
    let p = placed _ _ _ _ c.requires _ _ l.invariant.1 l.invariant.2 in
    answered c.answer-in-Halted.ensures
    (run-halts (routine_of tables) c.args.budget l.finished l.b _ _ _ _ _ _ (omega arith) _ (block-ran (goal.at.returns-in-Halted c).After-run_block)
    _ (rw is (omega (arith, p, routine-start tables l.b))) (ap exit_in is) ∙ sym l.invariant.0)

pub returns-in-Err : goal.returns-in-Err
returns-in-Err c =
    let l = c.loop-finished in
    let tables = code_of c.args.blocks.now c.args.code.now in
    let p = placed _ _ _ _ c.requires _ _ l.invariant.1 l.invariant.2 in
    answered (rw c.number-number.ensures at c.answer.ensures)
    (run-faults (routine_of tables) c.args.budget l.finished l.b _ _ _ _ _ _ (omega arith) _ (block-ran (goal.at.returns-in-Err c).After-run_block)
    _ (rw c.in-Err.is (omega (arith, p, routine-start tables l.b))) c.in-Err.fault.question (rw c.in-Err.is) ∙ sym l.invariant.0)

pub loop-finished-preserved : goal.loop-finished-preserved
loop-finished-preserved c =
    let l = c.loop-finished in
    let tables = code_of c.args.blocks.now c.args.code.now in
    let k = (goal.at.loop-finished-preserved c).After-run_block in
    let goes : GoesTo (exit_in c.run_block.result) l.b c.match-exit.b =
    elim c.match-exit.branch [
      | in-To w ↦ inl (rw (c.in-Ok.is, w.in-To.is, w.b-is))
      | in-Following w ↦ inr (rw (c.in-Ok.is, w.in-Following.is), w.b-is)
    ] in
    let inside = exists k _ goes in
    let there : c.match-exit.first ≡ get_or c.args.starts.now c.match-exit.b 0 =
    elim c.match-exit.branch [ in-To w ↦ rw (w.first-is, w.b-is) | in-Following w ↦ rw (w.first-is, w.b-is) ] in (
      l.invariant.0 ∙ run_on (routine_of tables) c.args.budget l.finished l.b _ _ _ _ _ _ (omega arith) _ (block-ran k) _ goes,
      inside,
      there ∙ c.requires.filled _ (omega (arith, inside)),
    )

pub returns : goal.returns
returns c =
    let tables = code_of c.args.blocks.now c.args.code.now in
    let l = c.loop-finished in
    answered c.answer-2.ensures
    (run-pauses (routine_of tables) c.args.budget l.finished l.b _ _ _ (omega arith) (l.invariant.2 ∙ sym (routine-start tables l.b)) ∙ sym l.invariant.0)
