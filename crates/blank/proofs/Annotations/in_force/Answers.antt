-- `blank::Annotations::in_force` meets its contract: the offered row of the first blank block that b is, else the row of the table.
use mathlib.Core.Path.{◌≡◌, sym, ◌∙◌}
use native.Mathlib.Omega.{arith}
use borrow.Author.Rules.{rules}
use borrow.Author.Tests.{tests}
use Rattle.std.specs.Prelude.{Some, None}
use Rattle.std.proofs.lemmas.Iterator.{YieldsList-from_slice, IsFirst-from_position}
use Rattle.blank.proofs.Laws.{row_of, force-found, force-own}
use Rattle.blank.proofs.Annotations.in_force.Goals as goal

pub returns-in-Some : goal.returns-in-Some
returns-in-Some c =
    let s = c.args.self.now in
    let (l, here, before) = IsFirst-from_position _ _ (Some c.in-Some.k) (λ d. d ≡ c.args.b) (λ d. d ≡ c.args.b → ⊥)
    c.in-Some.ensures.ran (YieldsList-from_slice s.filling.blanks cc) (λ x q k. search (rules, tests)) (λ x q k. search (rules, tests)) in
    let long = s.fits.blanks ∙ sym s.fits.places in
    row_of _ _ _ _ c.nearer.ensures c.offered_row.ensures
    ∙ sym (force-found _ _ c.args.b s.filling.blanks s.filling.places c.in-Some.k long l (here 0) (λ j h. before j 0 (omega arith) h))

pub returns-in-None : goal.returns-in-None
returns-in-None c =
    let s = c.args.self.now in
    let none = IsFirst-from_position _ _ None (λ d. d ≡ c.args.b) (λ d. d ≡ c.args.b → ⊥)
    c.in-None.ensures.ran (YieldsList-from_slice s.filling.blanks cc) (λ x q k. search (rules, tests)) (λ x q k. search (rules, tests)) in
    c.type_words.ensures ∙ sym (force-own _ _ c.args.b s.filling.blanks s.filling.places (λ j h. none j 0 (omega arith) h))
