-- Laws of filling: what an accepted answer gives, and the chosen rows laid one after another.
use mathlib.Core.Path.{◌≡◌, refl, sym, ap, ◌∙◌}
use mathlib.Core.List.{List, [], ◌∷◌}
use Prim.Native.Nat.{ℕ, zero, suc, ◌+◌, ◌*◌, ◌<◌, ◌≤◌}
use native.Mathlib.Numerals.{add-one}
use native.Mathlib.Omega.{arith}
use lib.Dec.{ltb}
use lib.ListN.{length, get_or, get_or-eq_default}
use borrow.Author.Tests.{lt-ltb, eq-eqb, ne_eqb, leb-true}
use Rattle.model.specs.declared.CheckAnswer.{CheckAnswer}
use Rattle.model.specs.declared.OfferedAnswer.{OfferedAnswer}
use Rattle.model.specs.Question.{pick, ok}
use Rattle.model.specs.Table.{Code, code_lengths_ask, table_questions, tables_ask}
use Rattle.model.specs.Reading.{laid_at}
use Rattle.model.specs.Check.{check_ask, check}
use Rattle.model.specs.Cost.{check_answer}
use Rattle.model.specs.Blank.{blanks_of, blanks_ask, offers, offered_row, Choice, none, more, filled, choosing, offered_check, filled_after}
use Rattle.model.proofs.Logic.{by_less, ask-ok, then_ok, all-passed, verdict-ok, ok-verdict}
use Rattle.model.proofs.Choice.{least-choices}
use Rattle.table.proofs.Laws.{code-lengths-passed}
use Rattle.blank.specs.declared.Blanks.{Blanks}
use Rattle.blank.specs.Force.{Lists}
use Rattle.blank.proofs.Laws.{blanks-below}
use Rattle.choice.proofs.Lists.{Shape, no-blank, one-blank, two-blank, three-blank, shape, three-listed}

-- ---- the chosen rows

-- as a call lays them, where there is such a block
abbrev pub laid_over : List ℕ → List ℕ → ℕ → ℕ → List ℕ
laid_over blocks offered b k = pick (ltb b 256) (laid_at blocks (b * 9 + 1) (offered_row offered k)) blocks

-- the first n rows laid
pub laid_first : List ℕ → List ℕ → List ℕ → List ℕ → ℕ → List ℕ
laid_first blocks offered bs ks zero = blocks
laid_first blocks offered bs ks (suc n) = laid_over (laid_first blocks offered bs ks n) offered (get_or bs n 0) (get_or ks n 0)

pub laid-none : (blocks offered bs ks : List ℕ) → blocks ≡ laid_first blocks offered bs ks 0
unfolding laid_first
laid-none blocks offered bs ks = refl

pub laid-more : (blocks offered bs ks : List ℕ) (n : ℕ) {one two : List ℕ} → one ≡ laid_first blocks offered bs ks n
    → two ≡ laid_over one offered (get_or bs n 0) (get_or ks n 0) → two ≡ laid_first blocks offered bs ks (n + 1)
unfolding laid_first
laid-more blocks offered bs ks n e₁ e₂ = rw (add-one, ← e₁) e₂

module _ (blocks offered : List ℕ) (k₁ k₂ k₃ : ℕ) where
  pub laid-three : (blanks : List ℕ) {l : List ℕ} → Shape blanks l
      → laid_first blocks offered blanks (k₁ ∷ k₂ ∷ k₃ ∷ []) 3 ≡ filled blocks offered l (k₁ ∷ k₂ ∷ k₃ ∷ [])
  unfolding filled laid_first
  laid-three blanks (no-blank e) = rw e
  laid-three blanks (one-blank e u) = rw (e, lt-ltb _ 256 u)
  laid-three blanks (two-blank e u v) = rw (e, lt-ltb _ 256 u, lt-ltb _ 256 v)
  laid-three blanks (three-blank e u v t) = rw (e, lt-ltb _ 256 u, lt-ltb _ 256 v, lt-ltb _ 256 t)

-- ---- what an accepted answer gives

-- its places are a choice for the blank blocks
pub record Fillable (C : Code) (offered : List ℕ) (a : OfferedAnswer) (blanks : List ℕ) : Type 0 where
  pub check : CheckAnswer
  pub chosen : List ℕ
  pub is : a ≡ choosing check chosen
  pub blocks : Shape blanks (blanks_of C.blocks)
  pub places : Choice (offers offered) (length (blanks_of C.blocks)) chosen

module _ (types tags : List ℕ) (C : Code) (offered : List ℕ) (a : OfferedAnswer) (e : a ≡ offered_check types tags C offered) (z : a.number ≡ 0) where
  accepted : (offered_check types tags C offered).number ≡ 0
  accepted = sym (ap (λ (x : OfferedAnswer). x.number) e) ∙ z

  -- with no blank row the check accepts it
  plain : blanks_of C.blocks ≡ [] → (check types tags C).number ≡ 0
  unfolding check_answer
  plain n = sym (ap (λ (x : OfferedAnswer). x.number) ((least-choices types tags C offered).unread n)) ∙ accepted

  lengths-ok : code_lengths_ask (length C.blocks) (length C.code) ≡ ok tt
  unfolding check check_ask tables_ask
  lengths-ok = go (blanks_of C.blocks) refl
    where
      go : (l : List ℕ) → blanks_of C.blocks ≡ l → code_lengths_ask (length C.blocks) (length C.code) ≡ ok tt
      go [] n =
          let (u, t, j) = then_ok _ _ (verdict-ok (check_ask types tags C) (plain n)) in
          (all-passed (table_questions types tags C) t).1.0
      go (b ∷ bs) n = (((least-choices types tags C offered).passed b bs n).0 accepted).0.1.0

  pub accepted-most : length C.blocks ≤ 2304
  accepted-most = (code-lengths-passed (length C.blocks) (length C.code) lengths-ok).most

  few : (b : ℕ) (bs : List ℕ) → blanks_of C.blocks ≡ b ∷ bs → length (blanks_of C.blocks) ≤ 3
  unfolding blanks_ask
  few b bs n = leb-true _ _ (ask-ok _ _ _ (((least-choices types tags C offered).passed b bs n).0 accepted).0.1.1.1.1.1.0).0

  pub fillable : (r : Blanks) → Lists (blanks_of C.blocks) r → Fillable C offered a r.three
  fillable r L = go (blanks_of C.blocks) refl
    where
      blanks-shape : length (blanks_of C.blocks) ≤ 3 → Shape r.three (blanks_of C.blocks)
      blanks-shape h =
          shape (blanks_of C.blocks) r.three (record {
            lists = three-listed _ r L h;
            below = λ j k. omega (arith, blanks-below C.blocks j k, accepted-most);
            few = h;
          })

      go : (l : List ℕ) → blanks_of C.blocks ≡ l → Fillable C offered a r.three
      go [] n =
          let none-long : length (blanks_of C.blocks) ≡ 0 = ap length n in
          record {
            check = check_answer types tags C;
            chosen = [];
            is = e ∙ (least-choices types tags C offered).unread n;
            blocks = blanks-shape (omega arith);
            places = rw n none;
          }
      go (b ∷ bs) n =
          let K = (least-choices types tags C offered).chosen b bs n accepted in
          record { check = _; chosen = K.choice; is = e ∙ K.answer; blocks = blanks-shape (few b bs n); places = K.is.places }

-- each blank block is one, and has a row in the list
module _ (C : Code) (offered : List ℕ) (a : OfferedAnswer) (r : Blanks) (L : Lists (blanks_of C.blocks) r) (F : Fillable C offered a r.three) where
  exists : (b k : ℕ) → b ≡ get_or (blanks_of C.blocks) k 256 → b < 256 → b * 9 + 9 ≤ length C.blocks
  exists b k e h =
      by_less k (length (blanks_of C.blocks)) (λ l. omega (arith, blanks-below C.blocks k l))
      (λ l. absurd (omega (arith, get_or-eq_default (blanks_of C.blocks) 256 {n = k} l)))

  row_is : (k : ℕ) → k < offers offered → k * 8 + 8 ≤ length offered
  row_is k h = omega arith

  rows_fit : {l c : List ℕ} → Shape r.three l → Choice (offers offered) (length l) c
      → (k : ℕ) → k < 3 → get_or r.three k 0 < 256 → get_or c k 0 * 8 + 8 ≤ length offered
  rows_fit S D k l h = go S D k l h
    where
      go : {bs l c : List ℕ} → Shape bs l → Choice (offers offered) (length l) c
          → (k : ℕ) → k < 3 → get_or bs k 0 < 256 → get_or c k 0 * 8 + 8 ≤ length offered
      go (no-blank e) none zero l h = absurd (let s = rw e at h in omega arith)
      go (no-blank e) none (suc zero) l h = absurd (let s = rw e at h in omega arith)
      go (no-blank e) none (suc (suc zero)) l h = absurd (let s = rw e at h in omega arith)
      go (no-blank e) none (suc (suc (suc k))) l h = absurd (omega arith)
      go (one-blank e u) (more p none) zero l h = row_is _ p
      go (one-blank e u) (more p none) (suc zero) l h = absurd (let s = rw e at h in omega arith)
      go (one-blank e u) (more p none) (suc (suc zero)) l h = absurd (let s = rw e at h in omega arith)
      go (one-blank e u) (more p none) (suc (suc (suc k))) l h = absurd (omega arith)
      go (two-blank e u v) (more p (more q none)) zero l h = row_is _ p
      go (two-blank e u v) (more p (more q none)) (suc zero) l h = row_is _ q
      go (two-blank e u v) (more p (more q none)) (suc (suc zero)) l h = absurd (let s = rw e at h in omega arith)
      go (two-blank e u v) (more p (more q none)) (suc (suc (suc k))) l h = absurd (omega arith)
      go (three-blank e u v t) (more p (more q (more s none))) zero l h = row_is _ p
      go (three-blank e u v t) (more p (more q (more s none))) (suc zero) l h = row_is _ q
      go (three-blank e u v t) (more p (more q (more s none))) (suc (suc zero)) l h = row_is _ s
      go (three-blank e u v t) (more p (more q (more s none))) (suc (suc (suc k))) l h = absurd (omega arith)

  listed : (k : ℕ) → k < 3 → get_or r.three k 0 ≡ get_or (blanks_of C.blocks) k 256
  listed zero l = ap (λ (t : List ℕ). get_or t 0 0) L.three
  listed (suc zero) l = ap (λ (t : List ℕ). get_or t 1 0) L.three
  listed (suc (suc zero)) l = ap (λ (t : List ℕ). get_or t 2 0) L.three
  listed (suc (suc (suc k))) l = absurd (omega arith)

  place : (j : ℕ) → get_or a.choice j 0 ≡ get_or (choosing F.check F.chosen).choice j 0
  place j = ap (λ (x : OfferedAnswer). get_or x.choice j 0) F.is

  -- the choice of an answer has three places
  at_place : (k : ℕ) → k < 3 → get_or (choosing F.check F.chosen).choice k 0 ≡ get_or F.chosen k 0
  at_place zero l = refl
  at_place (suc zero) l = refl
  at_place (suc (suc zero)) l = refl
  at_place (suc (suc (suc k))) l = absurd (omega arith)

  -- a block and a row of such numbers are there
  pub may-lay : (k : ℕ) → k < 3 → get_or r.three k 0 < 256
      → (get_or r.three k 0 * 9 + 9 ≤ length C.blocks) × (get_or a.choice k 0 * 8 + 8 ≤ length offered)
  may-lay k l h = (exists (get_or r.three k 0) k (listed k l) h, rw (place k, at_place k l) (rows_fit F.blocks F.places k l h))

  pub all_laid : laid_first C.blocks offered r.three a.choice 3 ≡ filled C.blocks offered (blanks_of C.blocks) a.choice
  all_laid =
      let same : get_or a.choice 0 0 ∷ get_or a.choice 1 0 ∷ get_or a.choice 2 0 ∷ [] ≡ a.choice = rw F.is in
      rw (← same) (laid-three C.blocks offered (get_or a.choice 0 0) (get_or a.choice 1 0) (get_or a.choice 2 0) r.three F.blocks)

-- a refused routine's table is as it was, an accepted one's is filled
module _ (blocks offered : List ℕ) (a : OfferedAnswer) where
  pub left-as-is : (a.number ≡ 0 → ⊥) → blocks ≡ filled_after a blocks offered
  left-as-is n = rw (ne_eqb a.number 0 n)

  pub filled_is : a.number ≡ 0 → (left : List ℕ) → left ≡ filled blocks offered (blanks_of blocks) a.choice → left ≡ filled_after a blocks offered
  filled_is z left e = rw (eq-eqb a.number 0 z) e
