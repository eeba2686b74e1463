-- Laws of questions as a loop asks them, and a list of them in order: what the whole comes to one step on, at a no and at the end.
use mathlib.Core.Path.{◌≡◌, refl, ap, sym, ◌∙◌}
use mathlib.Core.Bool.{Bool, true, false}
use mathlib.Core.List.{List, [], ◌∷◌}
use Prim.Native.Nat.{ℕ, suc, ◌+◌, ◌-◌, ◌<◌, ◌≤◌}
use native.Mathlib.Nat.{sub-zero, sub-eq-zero_of_le}
use native.Mathlib.Numerals.{add-one}
use native.Mathlib.Omega.{arith}
use lib.Dec.{leb}
use borrow.Author.Tests.{le-leb, lt-leb}
use Rattle.model.specs.declared.Verdict.{Verdict}
use Rattle.model.proofs.Logic.{verdict-ok}
pub use Rattle.model.proofs.Logic.{test-false, test-true}
use Rattle.model.specs.declared.questions.Refusal.{Refusal}
use Rattle.model.specs.Question.{◌and◌, every, Outcome, ok, refused, ask, asked, then, first_no, passed, refusing, verdict_of, in_order}
use Rattle.model.specs.Question.{provided}

-- ---- tests

-- one less is left after each step
pub left : (n i : ℕ) → i < n → n - i ≡ suc (n - (i + 1))
left n i h = omega arith

-- whole is what the tests from i on come to
module _ (f : ℕ → Bool) (n i : ℕ) (whole : Bool) (e : whole ≡ every (n - i) i f) where
  pub every-on : i < n → f i ≡ true → whole ≡ every (n - (i + 1)) (i + 1) f
  unfolding every ◌and◌
  every-on h l = rw (e, left n i h, l, add-one i)

  pub every-stops : i < n → f i ≡ false → false ≡ whole
  unfolding every ◌and◌
  every-stops h l = rw (e, left n i h, l)

  pub every-end : n ≤ i → true ≡ whole
  unfolding every
  every-end h = rw (e, sub-eq-zero_of_le h)

-- a number within bounds, and one on either side of them
module _ (low high n : ℕ) where
  pub too-low : n < low → leb low n and leb n high ≡ false
  unfolding ◌and◌
  too-low h = rw (lt-leb low n h)

  pub too-high : low ≤ n → high < n → leb low n and leb n high ≡ false
  unfolding ◌and◌
  too-high h l = rw (le-leb low n h, lt-leb n high l)

  pub in_bounds : low ≤ n → n ≤ high → leb low n and leb n high ≡ true
  unfolding ◌and◌
  in_bounds h l = rw (le-leb low n h, le-leb n high l)

-- ---- verdicts

-- number 0 is given only where no question had a no
pub no-refusal : (o : Outcome (Unit {0})) (v : Verdict) → v ≡ verdict_of o → v.number ≡ 0 → o ≡ ok tt
no-refusal o v e z = verdict-ok o (sym (ap (λ (u : Verdict). u.number) e) ∙ z)

-- ---- one question, then those that follow

module _ {A : Type 0} (b : Bool) (r : Refusal) (k : Unit {0} → Outcome A) where
  pub ask-no : b ≡ false → refusing r ≡ verdict_of (ask b r k)
  unfolding provided verdict_of
  ask-no h = rw h

  pub ask-yes : {v : Verdict} → b ≡ true → v ≡ verdict_of (k tt) → v ≡ verdict_of (ask b r k)
  unfolding provided
  ask-yes h e = rw h e

-- and the last
pub asked-yes : (b : Bool) (r : Refusal) → b ≡ true → passed ≡ verdict_of (asked b r)
unfolding provided verdict_of
asked-yes b r h = rw h

stops : {B : Type 0} (o : Outcome (Unit {0})) (k : Unit {0} → Outcome B) → ((verdict_of o).number ≡ 0 → ⊥) → verdict_of o ≡ verdict_of (then o k)
unfolding verdict_of then
stops (ok a) k h = absurd (h refl)
stops (refused r) k h = refl

module _ {B : Type 0} (o : Outcome (Unit {0})) (k : Unit {0} → Outcome B) (v : Verdict) (e : v ≡ verdict_of o) where
  pub then-on : v.number ≡ 0 → verdict_of (then o k) ≡ verdict_of (k tt)
  unfolding then
  then-on z = rw (no-refusal o v e z)

  pub then-stops : (v.number ≡ 0 → ⊥) → v ≡ verdict_of (then o k)
  then-stops h = e ∙ stops o k (λ z. h (ap (λ (u : Verdict). u.number) e ∙ z))

-- ---- a list of questions

-- whole is what the questions that are left to ask come to
pub record ComesTo (whole : Verdict) (rest : List (Outcome (Unit {0}))) : Type 0 where
  pub asked : whole ≡ verdict_of (in_order rest)

pub after-yes : {whole v : Verdict} {q : Outcome (Unit {0})} {rest : List (Outcome (Unit {0}))}
    → ComesTo whole (q ∷ rest) → v ≡ verdict_of q → v.number ≡ 0 → ComesTo whole rest
unfolding in_order
after-yes c e z = record { asked = c.asked ∙ then-on _ _ _ e z }

pub at-no : {whole v : Verdict} {q : Outcome (Unit {0})} {rest : List (Outcome (Unit {0}))}
    → ComesTo whole (q ∷ rest) → v ≡ verdict_of q → (v.number ≡ 0 → ⊥) → v ≡ whole
unfolding in_order
at-no c e n = then-stops _ _ _ e n ∙ sym c.asked

-- one question, and nothing after it
alone : (q : Outcome (Unit {0})) → verdict_of q ≡ verdict_of (in_order (q ∷ []))
unfolding in_order then verdict_of
alone (ok u) = refl
alone (refused r) = refl

pub at_last : {whole v : Verdict} {q : Outcome (Unit {0})} → ComesTo whole (q ∷ []) → v ≡ verdict_of q → v ≡ whole
at_last c e = e ∙ alone _ ∙ sym c.asked

-- ---- the same question of each row

pub first-start : (f : ℕ → Outcome (Unit {0})) (n : ℕ) → first_no n 0 f ≡ first_no (n - 0) 0 f
first-start f n = rw sub-zero

-- whole is what the rows from t on come to
module _ (f : ℕ → Outcome (Unit {0})) (n t : ℕ) (whole : Outcome (Unit {0})) (e : whole ≡ first_no (n - t) t f) where
  pub first_on : t < n → f t ≡ ok tt → whole ≡ first_no (n - (t + 1)) (t + 1) f
  unfolding first_no then
  first_on h l = rw (e, left n t h, l, add-one t)

  pub first-no : t < n → (v : Verdict) → v ≡ verdict_of (f t) → (v.number ≡ 0 → ⊥) → v ≡ verdict_of whole
  unfolding first_no
  first-no h v ev z = rw (e, left n t h) (then-stops _ _ v ev z)

  pub first-end : n ≤ t → passed ≡ verdict_of whole
  unfolding first_no verdict_of
  first-end h = rw (e, sub-eq-zero_of_le h)

-- the same question of each of n rows, as a loop asks it, whatever X leaves open: those from t on come to what all come to
pub record RowsLeft {X : Type 0} (whole : X → Outcome (Unit {0})) (f : X → ℕ → Outcome (Unit {0})) (n t : ℕ) : Type 0 where
  pub rest : (x : X) → whole x ≡ first_no (n - t) t (f x)
  pub within : t ≤ n

pub rows-begin : {X : Type 0} {whole : X → Outcome (Unit {0})} {f : X → ℕ → Outcome (Unit {0})} {n : ℕ}
    → ((x : X) → whole x ≡ first_no n 0 (f x)) → RowsLeft whole f n 0
rows-begin e = record { rest = λ x. e x ∙ first-start _ _; within = omega arith }

module _ {X : Type 0} {whole : X → Outcome (Unit {0})} {f : X → ℕ → Outcome (Unit {0})} {n t : ℕ} (l : RowsLeft whole f n t) where
  pub row-yes : t < n → ((x : X) → f x t ≡ ok tt) → RowsLeft whole f n (t + 1)
  row-yes h y = record { rest = λ x. first_on (f x) n t (whole x) (l.rest x) h (y x); within = omega arith }

  pub row-no : (x : X) {r : Refusal} → t < n → f x t ≡ refused r → refusing r ≡ verdict_of (whole x)
  unfolding first_no then verdict_of
  row-no x h y = rw (l.rest x, left n t h, y)

  pub rows_end : (x : X) → n ≤ t → passed ≡ verdict_of (whole x)
  rows_end x h = first-end (f x) n t (whole x) (l.rest x) h

  pub row-refused : (x : X) {r : Refusal} → t < n → f x t ≡ refused r → refused r ≡ whole x
  unfolding first_no then
  row-refused x h y = rw (l.rest x, left n t h, y)

  pub rows-passed : (x : X) → n ≤ t → ok tt ≡ whole x
  unfolding first_no
  rows-passed x h = rw (l.rest x, sub-eq-zero_of_le h)
