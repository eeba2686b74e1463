-- `choice::strike` meets its contract.
use mathlib.Core.Path.{◌≡◌, sym}
use mathlib.Core.Bool.{Bool, true, false, false≢true}
use Rattle.model.specs.Question.{◌and◌}
use Rattle.choice.proofs.Choosing.{struck-on}
use Rattle.choice.proofs.strike.Goals as goal
use Rattle.choice.proofs.strike.Goals.{then-left-i, else-left-i}

-- what is left of a choice, by what it was
stays : (x l p : Bool) → l ≡ true → x ≡ p → x ≡ (l and p)
unfolding ◌and◌
stays x true p e h = h
stays x false p e h = absurd (false≢true e)

falls : (x l p : Bool) → l ≡ false → x ≡ l → x ≡ (l and p)
unfolding ◌and◌
falls x true p e h = absurd (false≢true (sym e))
falls x false p e h = h

pub loop-i-preserved : goal.loop-i-preserved
loop-i-preserved c =
    let l = c.loop-i in
    struck-on l.invariant c.requires.0 c.loop-i-test.true _
    (elim c.if-left-i.branch [
      | then-left-i w ↦ stays _ _ _ w.if-left-i.true (rw (← w.least_alike.ensures.0) w.left-is)
      | else-left-i w ↦ falls _ _ _ w.if-left-i.false w.left-is
    ])
