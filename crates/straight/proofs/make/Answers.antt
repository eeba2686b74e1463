-- `straight::make` meets its contract: a law for each kind of instruction.
use mathlib.Core.Path.{refl, sym, ◌∙◌}
use native.Mathlib.Omega.{arith}
use Rattle.known.proofs.Numbers.{frames-at}
use Rattle.access.proofs.Outcomes.{none_more}
use Rattle.access.proofs.Fields.{Parts}
use Rattle.straight.proofs.Steps.{step-copy, step-constant, step_move, step-arithmetic, plain-unasked}
use Rattle.straight.proofs.make.Goals.{After-c-c}
use Rattle.straight.proofs.make.Goals as goal

-- the word's parts, read
parts : (c : After-c-c) → Parts c.args.word c.a-a.result c.b-b.result c.c-c.result
parts c = record { a-is = c.a-a.ensures.0; b-is = c.b-b.ensures.0; c-is = c.c-c.ensures.0 }

pub returns-in-1 : goal.returns-in-1
returns-in-1 c =
    let (is, asked, frames, views) = c.fresh.ensures in
    record {
      outcome = λ place. step-constant (parts (goal.at.returns-in-1 c).After-c-c) _ _ _ _ _ (sym c.opcode.ensures.0 ∙ c.in-1.is) is;
      count = none_more asked (plain-unasked _ _ _ c.requires.1);
    }

pub returns-in-2 : goal.returns-in-2
returns-in-2 c =
    record {
      outcome = λ place. step-copy (parts (goal.at.returns-in-2 c).After-c-c) _ _ _ _ (sym c.opcode.ensures.0 ∙ c.in-2.is);
      count = none_more refl (plain-unasked _ _ _ c.requires.1);
    }

pub returns-in-7 : goal.returns-in-7
returns-in-7 c =
    let (is, asked, frames, views) = c.fresh-in-7.ensures in
    record {
      outcome = λ place. step_move (parts (goal.at.returns-in-7 c).After-c-c) _ _ _ _ _ (sym c.opcode.ensures.0 ∙ c.in-7.is) _ _ _
          c.from-v.ensures c.moved_word-w.ensures (frames-at c.args.reading.now.values.frames _) is;
      count = none_more asked (plain-unasked _ _ _ c.requires.1);
    }

pub returns-in_default : goal.returns-in_default
returns-in_default c =
    let (is, asked, frames, views) = c.fresh-in_default.ensures in
    record {
      outcome = λ place. step-arithmetic (parts (goal.at.returns-in_default c).After-c-c) _ _ _ _ _ (omega arith) (omega arith) is;
      count = none_more asked (plain-unasked _ _ _ c.requires.1);
    }
