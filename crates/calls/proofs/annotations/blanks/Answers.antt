-- `annotations::blanks` meets its contract.
use Rattle.std.proofs.Common.{sym, ap, ◌∙◌, length, arith}
use Rattle.std.proofs.Math.Nat.{sub-zero}
use Rattle.table.proofs.Laws.{own-eight}
use Rattle.blank.proofs.Laws.{blank-is, blanks-on, blanks-here, blanks-end}
use Rattle.calls.proofs.annotations.blanks.Goals.{then-is_blank, else-is_blank}
use Rattle.calls.proofs.annotations.blanks.Goals as goal

pub loop-b-init : goal.loop-b-init
loop-b-init c = (omega arith, rw sub-zero (omega arith))

pub is_blank-requires : goal.is_blank-requires
is_blank-requires c = own-eight _ _ _ (omega arith) c.type_words.ensures

pub overflow_add-found : goal.overflow_add-found
overflow_add-found c = omega arith

pub loop-b-preserved : goal.loop-b-preserved
loop-b-preserved c =
    let same = c.is_blank.ensures ∙ blank-is _ _ _ c.type_words.ensures in
    elim c.if-is_blank.branch [
      | then-is_blank w ↦
          let more = ap length (blanks-here c.args.blocks.now c.loop-b.b (omega arith) (sym same ∙ w.if-is_blank.true)) in
          (omega arith, omega (arith, more))
      | else-is_blank w ↦
          let on = ap length (blanks-on c.args.blocks.now c.loop-b.b (omega arith) (sym same ∙ w.if-is_blank.false)) in
          (omega arith, omega (arith, on))
    ]

pub returns : goal.returns
returns c =
    let none = ap length (blanks-end c.args.blocks.now c.loop-b.b (omega arith)) in
    omega (arith, none)
