-- `machine::run_block` meets its contract: a law for each way out.
use mathlib.Core.Path.{◌≡◌, sym, ◌∙◌}
use Prim.Native.Nat.{ℕ, ◌+◌, ◌-◌, ◌<◌}
use native.Mathlib.Omega.{arith}
use native.Mathlib.Nat.{add_assoc}
use lib.ListN.{length, length-take}
use Rattle.std.proofs.Common.{get_or-take}
use Rattle.std.proofs.lemmas.Result.{err_from_is_err_and}
use Rattle.machine.proofs.Blocks.{ends, goes_on, stops, located-ok, located-no, exit-located, offset-located}
use Rattle.machine.proofs.run_block.Goals as goal

pub returns-in_err-located-clause-steps : goal.returns-in_err-located-clause-steps
returns-in_err-located-clause-steps c =
    let i = c.loop-i.i in
    let h : i < length c.args.part.now - 1 = omega (arith, length-take {A = ℕ}) in
    let p = err_from_is_err_and c.from_residual.result c.from_residual.ensures.1 in
    let q = located-no i c.advance.result c.in_err-located.field-0.0 (sym c.in_err-located.ensures) in
    λ P f n ec C.
    let s = rw (q.1, get_or-take) at (c.advance.ensures P c.args.b i f (n + i) (λ z. omega (arith, C.long))) in
    rw (p.1, p.2, q.0) (stops P _ _ f C i (n + i) _ _ _ _ (omega arith) _ s ∙ sym (c.loop-i.invariant P f n C))

pub loop-i-preserved : goal.loop-i-preserved
loop-i-preserved c =
    let i = c.loop-i.i in
    let h : i < length c.args.part.now - 1 = omega (arith, length-take {A = ℕ}) in
    let q = located-ok i c.advance.result _ (sym c.in_ok-located.ensures) in
    λ P f n C.
    let s = rw (q, get_or-take) at (c.advance.ensures P c.args.b i f (n + i) (λ z. omega (arith, C.long))) in
    c.loop-i.invariant P f n C ∙ goes_on P _ _ f C i (n + i) _ _ _ _ (omega arith) s ∙ rw (add_assoc n i 1)

pub returns-clause-steps : goal.returns-clause-steps
returns-clause-steps c =
    let part = c.args.part.now in
    let e : c.loop-i.i ≡ length part - 1 = omega (arith, length-take {A = ℕ}) in
    λ P f n ec C.
    rw (c.located-2.ensures, exit-located, offset-located)
    (ends P _ _ f C (length part - 1) (n + (length part - 1)) _ _ (omega arith) _
    (rw c.requires.3 at (c.leave.ensures P (length part - 1) f (n + (length part - 1)) c.loop-i.memory ec (omega (arith, C.long))))
    ∙ sym (rw e at (c.loop-i.invariant P f n C)))
