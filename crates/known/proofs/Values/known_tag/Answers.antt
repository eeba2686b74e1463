-- `known::Values::known_tag` meets its contract.
use mathlib.Core.Path.{sym, ◌∙◌}
use Rattle.known.proofs.Answers.{passes-stand, passes-partner}
use Rattle.known.proofs.Values.known_tag.Goals as goal

pub returns-then-is_tag : goal.returns-then-is_tag
returns-then-is_tag c =
    λ types tested equal paired. c.if-is_tag.true
    ∙ passes-stand _ _ _ _ _ _ paired _ (c.stand-r.ensures tested equal) (sym (c.is_tag.ensures types) ∙ c.if-is_tag.true)

pub returns-else-is_tag : goal.returns-else-is_tag
returns-else-is_tag c =
    λ types tested equal paired. passes-partner _ _ _ _ _ _ paired _ (c.stand-r.ensures tested equal)
    (sym (c.is_tag.ensures types) ∙ c.if-is_tag.false) _ c.partner.ensures _ (c.is_tag-else-is_tag.ensures types)
