-- `table::lengths` meets its contract.
use mathlib.Core.Path.{◌≡◌, refl, sym, ◌∙◌}
use Prim.Native.Nat.{◌+◌}
use native.Mathlib.Omega.{arith}
use lib.ListN.{length-set}
use Rattle.model.specs.Table.{start_of}
use Rattle.table.proofs.Laws.{length-facts, start_none, start-more}
use Rattle.table.proofs.Answers.{lengths-start, lengths-on, lengths-refused, lengths-rest, lengths-passed, filled_none, filled_more}
use Rattle.table.proofs.lengths.Goals as goal

pub loop-b-init : goal.loop-b-init
loop-b-init c = record {
  rest = lengths-start _ _;
  within = omega arith;
  short = omega arith;
  at = sym (start_none _);
  long = refl;
  filled = filled_none c.args.blocks.now c.args.starts.now;
}

pub returns-then-not-length_well-clause-outcome : goal.returns-then-not-length_well-clause-outcome
returns-then-not-length_well-clause-outcome c =
    rw c.at.ensures
    (lengths-refused _ _ c.loop-b.b c.loop-b.i _ c.loop-b.invariant.rest (omega arith) _ c.head-n.ensures
    (sym c.length_well.ensures ∙ c.if-not-length_well.true))

pub overflow_add-i : goal.overflow_add-i
overflow_add-i c = omega (arith, length-facts c.head-n.result c.loop-b.i _ (sym c.length_well.ensures ∙ c.if-not-length_well.false))

pub loop-b-preserved : goal.loop-b-preserved
loop-b-preserved c =
    let l = c.loop-b in
    let t = sym c.length_well.ensures ∙ c.if-not-length_well.false in
    let s : l.i + c.head-n.result ≡ start_of c.args.blocks.now (l.b + 1) = omega (arith, start-more c.args.blocks.now l.b, c.head-n.ensures, l.invariant.at) in record {
      rest = lengths-on _ _ l.b l.i _ l.invariant.rest (omega arith) c.head-n.result c.head-n.ensures t;
      within = omega arith;
      short = (length-facts c.head-n.result l.i _ t).2;
      at = s;
      long = simp length-set (simp length-set at l.invariant.long);
      filled = filled_more c.args.blocks.now l.starts l.b (l.i + c.head-n.result) l.invariant.filled (omega arith) s;
    }

pub returns-then-i-total-clause-outcome : goal.returns-then-i-total-clause-outcome
returns-then-i-total-clause-outcome c =
    rw c.at-then-i-total.ensures (lengths-rest _ _ c.loop-b.b c.loop-b.i _ c.loop-b.invariant.rest (omega arith) _ (omega arith) c.if-i-total.true)

pub returns-clause-outcome : goal.returns-clause-outcome
returns-clause-outcome c = lengths-passed _ _ c.loop-b.b c.loop-b.i _ c.loop-b.invariant.rest (omega arith) c.if-i-total.false

pub returns-clause-filled : goal.returns-clause-filled
returns-clause-filled c = λ e z b h. c.loop-b.invariant.filled (c.loop-b.invariant.long ∙ simp length-set e) b (omega arith)
