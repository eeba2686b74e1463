-- `choice::choose` meets its contract: nothing is offered, the first choice is accepted, none is, or a later one.
use mathlib.Core.Path.{◌∙◌}
use native.Mathlib.Omega.{arith}
use Rattle.choice.proofs.Numbers.{first-choice}
use Rattle.choice.proofs.Answering.{list-opened, offers-opened, of-choice, routines, none-answer, empty-answer, first-answers, choice-answer}
use Rattle.choice.proofs.choose.Goals as goal

pub at-none-requires : goal.at-none-requires
at-none-requires c = omega (arith, c.requires.some)

pub returns-then-offers-eq0 : goal.returns-then-offers-eq0
returns-then-offers-eq0 c =
    let O = c.requires in
    rw c.at-none.ensures (empty-answer _ _ _ _ _ c.args.routine.now.tabled.most (list-opened _ c.args.routine.now.tags.now _ _ _ O) O c.if-offers-eq0.true)

pub invariant_of-offer : goal.invariant_of-offer
invariant_of-offer c = record { offers = offers-opened c.requires c.mosts.ensures c.if-offers-eq0.false }

pub with_choice-first-requires : goal.with_choice-first-requires
with_choice-first-requires c = (omega arith, first-choice (offers-opened c.requires c.mosts.ensures c.if-offers-eq0.false))

pub returns-then-first-eq-PASSED : goal.returns-then-first-eq-PASSED
returns-then-first-eq-PASSED c =
    let r = c.args.routine.now in
    let O = c.requires in
    let few = list-opened _ r.tags.now _ _ _ O in
    let zero = rw c.mosts.ensures at (first-choice (offers-opened O c.mosts.ensures c.if-offers-eq0.false)) in
    let (A, D) = of-choice _ _ _ _ _ r.tabled.most few O 0 zero in
    first-answers _ _ _ _ _ r.tabled.most few O zero _ (c.with_choice-first.ensures _ A D) c.if-first-eq-PASSED.true

-- what the search found is a choice
pub with_choice-requires : goal.with_choice-requires
with_choice-requires c =
    let r = c.args.routine.now in
    let O = c.requires in
    let few = list-opened _ r.tags.now _ _ _ O in
    let F = c.in-Some.ensures _ (routines _ _ _ _ _ r.tabled.most few O _ c.mosts.ensures) in
    (F.within, F.is)

pub returns-in-Some : goal.returns-in-Some
returns-in-Some c =
    let r = c.args.routine.now in
    let O = c.requires in
    let few = list-opened _ r.tags.now _ _ _ O in
    let F = rw c.mosts.ensures at (c.in-Some.ensures _ (routines _ _ _ _ _ r.tabled.most few O _ c.mosts.ensures)) in
    let (A, D) = of-choice _ _ _ _ _ r.tabled.most few O _ F.is in
    c.with_choice.ensures _ A D ∙ choice-answer _ _ _ _ _ r.tabled.most few O _ F

pub returns-in-None : goal.returns-in-None
returns-in-None c =
    let r = c.args.routine.now in
    let O = c.requires in
    let few = list-opened _ r.tags.now _ _ _ O in
    let none = rw c.mosts.ensures at (c.in-None.ensures _ (routines _ _ _ _ _ r.tabled.most few O _ c.mosts.ensures)) in
    rw c.at-none.ensures (none-answer _ _ _ _ _ r.tabled.most few O none)
