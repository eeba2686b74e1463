-- After each turn the fields of the words gone through stand after what was held.
use Rattle.std.proofs.Common.{◌∙◌, sym, append-nil, arith}
use Rattle.protocol.specs.Text.{fields}
use Rattle.output.proofs.Fields.{fields-more}
use Rattle.output.proofs.Buffer.words.Goals as goal

pub loop-value-init : goal.loop-value-init
unfolding fields
loop-value-init c = record { appended = sym (append-nil c.args.self.now); upper_bound = omega arith }

pub loop-value-preserved : goal.loop-value-preserved
loop-value-preserved c =
    let turn = c.loop-value in record {
      appended =
          c.word.ensures.appended
          ∙ rw turn.invariant.appended (fields-more c.args.self.now c.args.list.now turn.value-index (omega arith));
      upper_bound = omega arith;
    }
