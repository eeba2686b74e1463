-- `grammar::begins` meets its contract.
use Rattle.std.proofs.Common.{◌≡◌, ◌+◌, ◌-◌, sym, ◌∙◌, arith}
use Rattle.grammar.proofs.Names.{begins-yes, begins-on, begins-end}
use Rattle.grammar.proofs.begins.Goals as goal

pub returns-then-n-letters : goal.returns-then-n-letters
returns-then-n-letters c = begins-yes (8 - c.loop.counter) _ _ (omega arith) c.if-n-letters.true ∙ sym c.loop.invariant

pub loop-preserved : goal.loop-preserved
loop-preserved c =
    let less : 8 - (c.loop.counter + 1) ≡ 8 - c.loop.counter - 1 = omega arith in
    rw less (c.loop.invariant ∙ begins-on (8 - c.loop.counter) _ _ (omega arith) c.if-n-letters.false)

pub returns : goal.returns
returns c = begins-end (8 - c.loop.counter) c.loop.n _ (omega arith) ∙ sym c.loop.invariant
