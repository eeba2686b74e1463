-- `instruction::form` meets its contract: the first of Q7, Q8 and Q9 that has a no.
use mathlib.Core.Path.{◌≡◌, sym, ◌∙◌}
use mathlib.Core.Bool.{true}
use native.Mathlib.Omega.{arith}
use Rattle.model.specs.Machine.{well_formed}
use Rattle.instruction.proofs.Rows.{formed-by-words}
use Rattle.instruction.proofs.Laws.{form-malformed, form-plain-last, form-plain, form-early, form-halt, form-nowhere, form-end}
use Rattle.instruction.proofs.form.Goals as goal
use Rattle.instruction.proofs.form.Goals.{Else-not-well_formed}

-- past Q7: the rows are those of the code, so Q7 by them is document 01's
formed : (c : Else-not-well_formed) → well_formed c.args.w ≡ true
formed c = sym (c.well_formed-2.ensures ∙ formed-by-words c.args.w c.args.rows.now c.requires.0) ∙ c.if-not-well_formed.false

pub returns-then-not-well_formed : goal.returns-then-not-well_formed
returns-then-not-well_formed c =
    form-malformed _ _ _ _ (sym (c.well_formed-2.ensures ∙ formed-by-words c.args.w c.args.rows.now c.requires.0) ∙ c.if-not-well_formed.true)

pub returns-then-last : goal.returns-then-last
returns-then-last c = form-halt _ _ _ _ (formed (goal.at.returns-then-last c).Else-not-well_formed) (omega arith) c.if-last.true

pub returns-then-op-eq-HALT : goal.returns-then-op-eq-HALT
returns-then-op-eq-HALT c = form-early _ _ _ _ (formed (goal.at.returns-then-op-eq-HALT c).Else-not-well_formed) (λ l. omega arith) c.if-last.false

pub returns-then-last-2 : goal.returns-then-last-2
returns-then-last-2 c =
    form-plain-last _ _ _ _ (formed (goal.at.returns-then-last-2 c).Else-not-well_formed) (omega arith) (omega arith) c.if-last-2.true

pub returns-then-op-lt-JUMP : goal.returns-then-op-lt-JUMP
returns-then-op-lt-JUMP c =
    form-plain _ _ _ _ (formed (goal.at.returns-then-op-lt-JUMP c).Else-not-well_formed) (omega arith) (omega arith) c.if-last-2.false

pub returns-then-not-last : goal.returns-then-not-last
returns-then-not-last c = form-early _ _ _ _ (formed (goal.at.returns-then-not-last c).Else-not-well_formed) (λ l. omega arith) c.if-not-last.true

pub targets_exist-requires : goal.targets_exist-requires
targets_exist-requires c = (omega arith, omega arith, formed (goal.at.targets_exist-requires c).Else-not-well_formed)

pub returns-then-not-targets_exist : goal.returns-then-not-targets_exist
returns-then-not-targets_exist c =
    form-nowhere _ _ _ _ (formed (goal.at.returns-then-not-targets_exist c).Else-not-well_formed) (λ l. omega arith) c.if-not-last.false
    (sym c.targets_exist.ensures ∙ c.if-not-targets_exist.true)

pub returns : goal.returns
returns c =
    form-end _ _ _ _ (formed (goal.at.returns c).Else-not-well_formed) (λ l. omega arith) c.if-not-last.false
    (sym c.targets_exist.ensures ∙ c.if-not-targets_exist.false)
