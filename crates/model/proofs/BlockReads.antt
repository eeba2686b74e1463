-- Judging a block reads its own annotation and those of the blocks that its end leads to, and no other.
use mathlib.Core.Path.{◌≡◌, refl, ap, ◌∙◌}
use mathlib.Core.Logic.{◌⊎◌, inl, inr}
use mathlib.Core.Bool.{Bool, true, false}
use Prim.Native.Nat.{ℕ, zero, suc, ◌+◌, ◌-◌}
use native.Mathlib.Omega.{arith}
use borrow.Author.Tests.{eqb-true}
use Rattle.model.specs.Question.{Question, q9, Refusal, refusal, Outcome, ok, refused, provided, then}
use Rattle.model.specs.Table.{Tables, Routine, last_at}
use Rattle.model.specs.Machine.{End, halt, jump, if_equal, if_less, Instruction, plain, end, malformed, instruction_at, targets_exist, form_ask}
use Rattle.model.specs.Reading.{Reading, entry}
use Rattle.model.specs.Check.{read_edges, no_at, read_end, read_instruction, read_at, read_on, block_ask}

-- two routines with the same block b, annotations apart
pub record AlikeAt (P Q : Routine) (b : ℕ) : Type 0 where
  pub count : P.count ≡ Q.count
  pub long : P.long b ≡ Q.long b
  pub start : P.start b ≡ Q.start b
  pub part : P.part b ≡ Q.part b

-- t is a block that such an end of block b leads to
abbrev pub LeadsTo : End → ℕ → ℕ → Type 0
LeadsTo halt b t = ⊥
LeadsTo (jump c) b t = t ≡ c
LeadsTo (if_equal x k c) b t = (t ≡ c) ⊎ (t ≡ suc b)
LeadsTo (if_less x y c) b t = (t ≡ c) ⊎ (t ≡ suc b)

provided-same : {A : Type 0} (b : Bool) (x : A) (k l : Unit {0} → A) → (b ≡ true → k tt ≡ l tt) → provided b x k ≡ provided b x l
unfolding provided
provided-same true x k l h = h refl
provided-same false x k l h = refl

then_same : {A B : Type 0} (o : Outcome A) (k l : A → Outcome B) → ((a : A) → k a ≡ l a) → then o k ≡ then o l
unfolding then
then_same (ok a) k l h = h a
then_same (refused r) k l h = refl

module _ (𝒯 : Tables) (P Q : Routine) (b : ℕ) (alike : AlikeAt P Q b) where
  -- both have the same annotation of block t
  abbrev Agree : ℕ → Type 0
  Agree t = P.annotation t ≡ Q.annotation t

  edges-same : (place : Question → Refusal) (e : End) (st : Reading) → ((t : ℕ) → LeadsTo e b t → Agree t)
      → read_edges 𝒯 P place (suc b) e st ≡ read_edges 𝒯 Q place (suc b) e st
  unfolding read_edges
  edges-same place halt st h = refl
  edges-same place (jump t) st h = rw (h t refl)
  edges-same place (if_equal x k t) st h = rw (h t (inl refl), h (suc b) (inr refl))
  edges-same place (if_less x y t) st h = rw (h t (inl refl), h (suc b) (inr refl))

  end_same : (place : Question → Refusal) (e : End) (st : Reading) → ((t : ℕ) → LeadsTo e b t → Agree t)
      → read_end 𝒯 P place b e st ≡ read_end 𝒯 Q place b e st
  unfolding read_end
  end_same place e st h = rw (edges-same place e st h)

  instruction-same : (place : Question → Refusal) (g : ℕ) (last : Bool) (x : Instruction) (st : Reading)
      → (last ≡ true → (e : End) → x ≡ end e → targets_exist P.count b e ≡ true → (t : ℕ) → LeadsTo e b t → Agree t)
      → read_instruction 𝒯 P place b g last x st ≡ read_instruction 𝒯 Q place b g last x st
  unfolding read_instruction form_ask
  instruction-same place g last malformed st h = refl
  instruction-same place g last (plain x) st h = refl
  instruction-same place g last (end e) st h =
      provided-same last _ _ _ (λ l.
      provided-same (targets_exist P.count b e) _ _ _ (λ x. end_same place e st (h l e refl x))
      ∙ ap (λ (n : ℕ). provided (targets_exist n b e) (refused (place q9)) (λ _. read_end 𝒯 Q place b e st)) alike.count)

  module _ (own : Agree b)
      (led : (e : End) → instruction_at P b (P.long b - 1) ≡ end e → targets_exist P.count b e ≡ true → (t : ℕ) → LeadsTo e b t → Agree t) where
    at_same : (j : ℕ) (st : Reading) → read_at 𝒯 P b j st ≡ read_at 𝒯 Q b j st
    at_same j st =
        let x = instruction_at P b j in
        let is_last : last_at P b j ≡ true → j ≡ P.long b - 1 = λ l. omega (arith, eqb-true (suc j) (P.long b) l) in
        instruction-same (no_at 𝒯 P b j) (suc j) (last_at P b j) x st (λ l e i x t. led e (rw (← is_last l) i) x t)
        ∙ ap (λ (s : ℕ). read_instruction 𝒯 Q (λ q. refusal q b (s + j)) b (suc j) (last_at P b j) x st) alike.start
        ∙ rw (alike.long, alike.part)

    on_same : (n j : ℕ) (st : Reading) → read_on 𝒯 P b n j st ≡ read_on 𝒯 Q b n j st
    unfolding read_on
    on_same zero j st = refl
    on_same (suc n) j st = rw (at_same j st) (then_same (read_at 𝒯 Q b j st) _ _ (λ st'. on_same n (suc j) st'))

    pub block_reads : block_ask 𝒯 P b ≡ block_ask 𝒯 Q b
    unfolding block_ask
    block_reads = rw (own, alike.long) (on_same (Q.long b) 0 (entry (Q.annotation b)))
