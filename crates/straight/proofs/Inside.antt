-- Laws of Q7 and Q8 inside a block.
use mathlib.Core.Path.{◌≡◌, ◌∙◌}
use mathlib.Core.Bool.{false}
use Prim.Native.Nat.{ℕ}
use Rattle.model.specs.Question.{refused}
use Rattle.model.specs.declared.questions.Question.{Question}
use Rattle.model.specs.declared.questions.Refusal.{Refusal}
use Rattle.model.specs.Table.{Tables, Routine}
use Rattle.model.specs.Machine.{decode}
use Rattle.model.specs.Reading.{Reading}
use Rattle.model.specs.Check.{read_plain, read_instruction}
use Rattle.model.specs.Cost.{plain_asked, instruction_asked}
use Rattle.instruction.specs.Form.{form_no, plain_of, Inside}
use Rattle.instruction.proofs.Laws.{form-refuses, form-inside, form-anywhere}
use Rattle.access.specs.State.{placing}

module _ (𝒯 : Tables) (P : Routine) (place : Question → Refusal) (b g w : ℕ) (st : Reading) where
  -- a no of the form, asked as in any block
  pub inside-refuses : (q : Question) (b' count : ℕ) → refused q ≡ form_no (decode w) false b' count → (st' : Reading)
      → placing place (refused q) st' ≡ read_instruction 𝒯 P place b g false (decode w) st
  unfolding read_instruction placing
  inside-refuses q b' count e st' = form-refuses _ P.count b _ _ false (decode w) q (e ∙ form-anywhere (decode w) b' count b P.count)

  pub inside-reads : Inside 1 w → read_plain 𝒯 place g (plain_of w) st ≡ read_instruction 𝒯 P place b g false (decode w) st
  unfolding read_instruction
  inside-reads f = form-inside _ P.count b _ _ w f

-- the fit questions: none where the form has a no, else those of the instruction
module _ (𝒯 : Tables) (P : Routine) (b w : ℕ) (st : Reading) where
  pub form-unasked : (q : Question) (b' count : ℕ) → refused q ≡ form_no (decode w) false b' count → 0 ≡ instruction_asked 𝒯 P b false (decode w) st
  unfolding instruction_asked
  form-unasked q b' count e = form-refuses _ P.count b _ _ false (decode w) q (e ∙ form-anywhere (decode w) b' count b P.count)

  pub inside-asked : Inside 1 w → plain_asked 𝒯 (plain_of w) st ≡ instruction_asked 𝒯 P b false (decode w) st
  unfolding instruction_asked
  inside-asked f = form-inside _ P.count b _ _ w f
