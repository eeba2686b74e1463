-- `Parts::part` meets its contract.
use Rattle.std.proofs.Common.{◌≡◌, ◌∷◌, slice_index_or, ap, sym, ◌∙◌}
use Rattle.calls.proofs.Cut.{cut_at, one-before}
use Rattle.calls.proofs.parts.Parts.part.Goals.{then-i-eq0, else-i-eq0}
use Rattle.calls.proofs.parts.Parts.part.Goals as goal

pub returns-clause-place : goal.returns-clause-place
returns-clause-place c =
    let ends = c.self.inside.ends.now in
    let from : c.if-i-eq0.from ≡ slice_index_or (0 ∷ ends) c.args.i 0
    = elim c.if-i-eq0.branch [
      | then-i-eq0 w ↦ w.from-is ∙ sym (ap (λ k. slice_index_or (0 ∷ ends) k 0) w.if-i-eq0.true)
      | else-i-eq0 w ↦ w.from-is ∙ w.end_of-from.ensures ∙ one-before 0 ends c.args.i w.if-i-eq0.false
    ] in
    c.between.ensures ∙ rw (from, c.end_of-to.ensures, cut_at 0 ends c.self.inside.words.now c.args.i, c.self.view_is)
