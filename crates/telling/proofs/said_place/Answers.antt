-- `said_place` appends the place of an answer, if the answer has one.
use Rattle.std.proofs.Common.{get_or, ◌∙◌, ap, ℕ, length, sym, length-append, append-nil, arith}
use Rattle.telling.specs.Row.{written}
use Rattle.telling.proofs.Widths.{letter-long}
use Rattle.telling.proofs.Written.{written-more}
use Rattle.telling.proofs.said_place.Goals as goal

pub loop-byte-init : goal.loop-byte-init
unfolding written
loop-byte-init c = record { appended = sym (append-nil c.text.new.self); upper_bound = omega arith }

pub letter-requires : goal.letter-requires
letter-requires c = omega (arith, ap length c.text.ensures, length-append {A = ℕ})

pub loop-byte-preserved : goal.loop-byte-preserved
loop-byte-preserved c =
    let turn = c.loop-byte in
    let at = c.args.place in
    let items = c.cut-byte-items.result.now in record {
      appended =
          c.letter.ensures ∙ rw turn.invariant.appended (written-more at c.text.new.self items turn.byte-index (omega arith));
      upper_bound = omega (arith, ap length c.letter.ensures, length-append {A = ℕ}, letter-long at (get_or items turn.byte-index 0));
    }
