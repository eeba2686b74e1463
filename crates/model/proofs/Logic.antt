-- Case analysis, and what a passed question, or a refused one, says.
use mathlib.Core.Path.{◌≡◌, refl, sym, ap, ◌∙◌}
use mathlib.Core.Logic.{◌⊎◌, inl, inr, ◌↔◌}
use mathlib.Core.Bool.{Bool, true, false, not, false≢true}
use mathlib.Core.List.{List, [], ◌∷◌, ◌++◌}
use Prim.Native.Nat.{ℕ, zero, suc, ◌+◌, ◌≤◌, ◌<◌}
use native.Mathlib.Omega.{arith}
use lib.Dec.{ltb, eqb}
use borrow.Author.Tests.{eqb-true, eqb-false, eq-eqb, ne_eqb, ltb-true, ltb-false}
use Rattle.model.specs.declared.Verdict.{Verdict}
use Rattle.model.specs.Question.{◌and◌, ◌or◌, pick, every, Question, number_of, questions, with_number, question_of, is_number, is_answer, q1, q2}
use Rattle.model.specs.Question.{q3, q4, q5, q6, q7, q8, q9, q10, q11, q12, q13, q14, q15, q16, q17, q18, q19, q20, q21, q23, q32, q33, Refusal, Outcome}
use Rattle.model.specs.Question.{ok, refused, ask, then, first_no, verdict_of, provided, in_order, AllPassed, FirstRefused, at_once, further}
use Rattle.model.specs.Question.{FirstNo, refusing}

-- ---- tests

pub by_test {ℓ} : {A : Type ℓ} (b : Bool) → (b ≡ true → A) → (b ≡ false → A) → A
by_test true f g = f refl
by_test false f g = g refl

pub either {ℓ} : {A B : Type 0} {C : Type ℓ} → A ⊎ B → (A → C) → (B → C) → C
either (inl a) f g = f a
either (inr b) f g = g b

-- decided: two numbers are equal or not
pub by_equality {ℓ} : {A : Type ℓ} (a b : ℕ) → (a ≡ b → A) → ((a ≡ b → ⊥) → A) → A
by_equality a b f g = by_test (eqb a b) (λ q. f (eqb-true a b q)) (λ q. g (eqb-false a b q))

pub by_less {ℓ} : {A : Type ℓ} (a b : ℕ) → (a < b → A) → (b ≤ a → A) → A
by_less a b f g = by_test (ltb a b) (λ q. f (ltb-true a b q)) (λ q. g (ltb-false a b q))

pub and-true : (a b : Bool) → a and b ≡ true → (a ≡ true) × (b ≡ true)
unfolding ◌and◌
and-true true b e = (refl, e)
and-true false b e = absurd (false≢true e)

pub true-and : (a b : Bool) → a ≡ true → b ≡ true → a and b ≡ true
unfolding ◌and◌
true-and a b p q = rw (p, q)

pub and_no : (a b : Bool) → (a ≡ true → b ≡ false) → a and b ≡ false
unfolding ◌and◌
and_no true b h = h refl
and_no false b h = refl

pub and_yes : (a b : Bool) → a ≡ true → a and b ≡ b
unfolding ◌and◌
and_yes a b h = rw h

pub yes_and : (a b : Bool) → b ≡ true → a and b ≡ a
unfolding ◌and◌
yes_and true b h = h
yes_and false b h = refl

pub or-true : (a b : Bool) → a or b ≡ true → (a ≡ true) ⊎ (b ≡ true)
unfolding ◌or◌
or-true true b e = inl refl
or-true false b e = inr e

pub true-or : (a b : Bool) → a ≡ true → a or b ≡ true
unfolding ◌or◌
true-or a b p = rw p

pub or-of-true : (a b : Bool) → b ≡ true → a or b ≡ true
unfolding ◌or◌
or-of-true true b p = refl
or-of-true false b p = p

pub not-true : (b : Bool) → not b ≡ true → b ≡ false
not-true true e = absurd (false≢true e)
not-true false e = refl

pub not-false : (b : Bool) → not b ≡ false → b ≡ true
not-false true e = refl
not-false false e = absurd (false≢true (sym e))

-- what an answer b tells of the test t that it stands for, past `not b`
pub test-false : {t b : Bool} → b ≡ t → not b ≡ true → t ≡ false
test-false {b = b} e h = sym e ∙ not-true b h

pub test-true : {t b : Bool} → b ≡ t → not b ≡ false → t ≡ true
test-true {b = true} e h = sym e
test-true {b = false} e h = absurd (false≢true (sym h))

pub pick_true {ℓ} : {A : Type ℓ} (b : Bool) (x y : A) → b ≡ true → pick b x y ≡ x
pick_true b x y e = rw e

pub pick-false {ℓ} : {A : Type ℓ} (b : Bool) (x y : A) → b ≡ false → pick b x y ≡ y
pick-false b x y e = rw e

-- what holds of both branches holds of the choice
pub pick-both {ℓ} : {A : Type 0} (C : A → Type ℓ) (b : Bool) (x y : A) → (b ≡ true → C x) → (b ≡ false → C y) → C (pick b x y)
pick-both C true x y f g = f refl
pick-both C false x y f g = g refl

pub every_true : (n i : ℕ) (f : ℕ → Bool) → every n i f ≡ true → (j : ℕ) → i ≤ j → j < i + n → f j ≡ true
unfolding every
every_true zero i f e j lo hi = absurd (omega arith)
every_true (suc n) i f e j lo hi =
    let (p, q) = and-true (f i) (every n (suc i) f) e in
    by_equality j i (λ s. rw s p) (λ d. every_true n (suc i) f q j (omega arith) (omega arith))

pub true-every : (n i : ℕ) (f : ℕ → Bool) → ((j : ℕ) → i ≤ j → j < i + n → f j ≡ true) → every n i f ≡ true
unfolding every
true-every zero i f h = refl
true-every (suc n) i f h = true-and _ _ (h i (omega arith) (omega arith)) (true-every n (suc i) f (λ j lo hi. h j (omega arith) (omega arith)))

-- ---- questions

pub not-ok : {A : Type 0} {r : Refusal} {x : A} → refused r ≡ ok x → ⊥
not-ok e = let z : ◌≡◌ {A = ℕ} 0 1 = cc in omega arith

pub ok_same : {A : Type 0} {x y : A} → ◌≡◌ {A = Outcome A} (ok x) (ok y) → x ≡ y
ok_same e = cc

pub refused-same : {A : Type 0} {r s : Refusal} → ◌≡◌ {A = Outcome A} (refused r) (refused s) → r ≡ s
refused-same e = cc

pub ask-ok : {A : Type 0} (b : Bool) (r : Refusal) (k : Unit {0} → Outcome A) {x : A} → ask b r k ≡ ok x → (b ≡ true) × (k tt ≡ ok x)
unfolding provided
ask-ok true r k e = (refl, e)
ask-ok false r k e = absurd (not-ok e)

pub ok-ask : {A : Type 0} (b : Bool) (r : Refusal) (k : Unit {0} → Outcome A) → b ≡ true → ask b r k ≡ k tt
unfolding provided
ok-ask b r k e = rw e

pub then_ok : {A B : Type 0} (o : Outcome A) (k : A → Outcome B) {x : B} → then o k ≡ ok x → (a : A) × (o ≡ ok a) × (k a ≡ ok x)
unfolding then
then_ok (ok a) k e = (a, refl, e)
then_ok (refused r) k e = absurd (not-ok e)

pub ok-then : {A B : Type 0} (o : Outcome A) (k : A → Outcome B) (a : A) → o ≡ ok a → then o k ≡ k a
unfolding then
ok-then o k a e = rw e

-- a passed row of questions, of the kind that has no result
pub passed_then : {B : Type 0} (o : Outcome (Unit {0})) (k : Unit {0} → Outcome B) {x : B} → then o k ≡ ok x → (o ≡ ok tt) × (k tt ≡ ok x)
unfolding then
passed_then (ok u) k e = (refl, e)
passed_then (refused r) k e = absurd (not-ok e)

-- a refusal is that of the first row of questions, or comes after it has passed
pub then-refused : {B : Type 0} (o : Outcome (Unit {0})) (k : Unit {0} → Outcome B) (r : Refusal) → then o k ≡ refused r
    → (o ≡ refused r) ⊎ ((o ≡ ok tt) × (k tt ≡ refused r))
unfolding then
then-refused (ok u) k r e = inr (refl, e)
then-refused (refused s) k r e = inl (ap {B = Outcome (Unit {0})} refused (refused-same e))

pub all-passed : (qs : List (Outcome (Unit {0}))) → in_order qs ≡ ok tt → AllPassed qs
unfolding in_order
all-passed [] e = tt
all-passed (q ∷ rest) e = let (p, r) = passed_then q _ e in (p, all-passed rest r)

pub passed-all : (qs : List (Outcome (Unit {0}))) → AllPassed qs → in_order qs ≡ ok tt
unfolding in_order
passed-all [] h = refl
passed-all (q ∷ rest) h = ok-then q _ tt h.0 ∙ passed-all rest h.1

pub first-refused : (qs : List (Outcome (Unit {0}))) (r : Refusal) → in_order qs ≡ refused r → FirstRefused r qs
unfolding in_order
first-refused [] r e = absurd (not-ok (sym e))
first-refused (q ∷ rest) r e = either (then-refused q _ r e) at_once (λ (p, e'). further p (first-refused rest r e'))

pub first_no-ok : (n i : ℕ) (f : ℕ → Outcome (Unit {0})) → first_no n i f ≡ ok tt → (j : ℕ) → i ≤ j → j < i + n → f j ≡ ok tt
unfolding first_no
first_no-ok zero i f e j lo hi = absurd (omega arith)
first_no-ok (suc n) i f e j lo hi =
    let (p, q) = passed_then (f i) _ e in
    by_equality j i (λ s. rw s p) (λ d. first_no-ok n (suc i) f q j (omega arith) (omega arith))

pub ok-first_no : (n i : ℕ) (f : ℕ → Outcome (Unit {0})) → ((j : ℕ) → i ≤ j → j < i + n → f j ≡ ok tt) → first_no n i f ≡ ok tt
unfolding first_no
ok-first_no zero i f h = refl
ok-first_no (suc n) i f h = ok-then (f i) _ tt (h i (omega arith) (omega arith)) ∙ ok-first_no n (suc i) f (λ j lo hi. h j (omega arith) (omega arith))

pub first_no-refused : (n i : ℕ) (f : ℕ → Outcome (Unit {0})) (r : Refusal) → first_no n i f ≡ refused r → FirstNo n i f r
unfolding first_no then
first_no-refused zero i f r e = absurd (not-ok (sym e))
first_no-refused (suc n) i f r e = go (f i) refl (λ k. first_no-refused n (suc i) f r k) e
  where
    go : (o : Outcome (Unit {0})) → f i ≡ o → (first_no n (suc i) f ≡ refused r → FirstNo n (suc i) f r)
        → then o (λ _. first_no n (suc i) f) ≡ refused r → FirstNo (suc n) i f r
    go (ok u) h rest e =
        let F = rest e in
        record {
          row = F.row;
          low = omega (arith, F.low);
          high = omega (arith, F.high);
          here = F.here;
          before = λ j lo hi. by_equality j i (λ s. rw s h) (λ d. F.before j (omega arith) hi);
        }
    go (refused s) h rest e = record { row = i; low = omega arith; high = omega arith; here = h ∙ e; before = λ j lo hi. absurd (omega arith) }

-- and back: the first no is what the rows of questions come to
pub refused-then : {A B : Type 0} (o : Outcome A) (k : A → Outcome B) (r : Refusal) → o ≡ refused r → then o k ≡ refused r
unfolding then
refused-then o k r e = rw e

pub no-then : (o p : Outcome (Unit {0})) (r : Refusal) → (then o (λ _. p) ≡ refused r) ↔ ((o ≡ refused r) ⊎ ((o ≡ ok tt) × (p ≡ refused r)))
no-then o p r = (then-refused o _ r, λ h. either h (refused-then o _ r) (λ (e, q). ok-then o _ tt e ∙ q))

-- rows of questions within rows of questions
pub in-order-append : (qs more : List (Outcome (Unit {0}))) → in_order (qs ++ more) ≡ then (in_order qs) (λ _. in_order more)
unfolding in_order then
in-order-append [] more = refl
in-order-append (q ∷ qs) more = go q (in-order-append qs more)
  where
    go : (o : Outcome (Unit {0})) → in_order (qs ++ more) ≡ then (in_order qs) (λ _. in_order more)
        → then o (λ _. in_order (qs ++ more)) ≡ then (then o (λ _. in_order qs)) (λ _. in_order more)
    go (ok u) e = e
    go (refused r) e = refl

pub refused-first : (qs : List (Outcome (Unit {0}))) (r : Refusal) → FirstRefused r qs → in_order qs ≡ refused r
unfolding in_order
refused-first qs r F = go qs F
  where
    go : (qs : List (Outcome (Unit {0}))) → FirstRefused r qs → in_order qs ≡ refused r
    go qs (at_once {q = q} e) = refused-then q _ r e
    go qs (further {q = q} {rest = rest} p F) = ok-then q _ tt p ∙ go rest F

pub no-first_no : (n i : ℕ) (f : ℕ → Outcome (Unit {0})) (r : Refusal) → FirstNo n i f r → first_no n i f ≡ refused r
unfolding first_no
no-first_no zero i f r F = absurd (omega (arith, F.low, F.high))
no-first_no (suc n) i f r F =
    by_equality F.row i (λ s. refused-then (f i) _ r (rw s at F.here))
    (λ d. ok-then (f i) _ tt (F.before i (omega arith) (omega (arith, F.low)))
    ∙ no-first_no n (suc i) f r (record {
      row = F.row;
      low = omega (arith, F.low);
      high = omega (arith, F.high);
      here = F.here;
      before = λ j lo hi. F.before j (omega arith) hi;
    }))

-- ---- numbers of questions

pub number-of : (n : ℕ) → is_number n ≡ true → number_of (question_of n) ≡ n
number-of n e = eqb-true _ _ e

pub answer-number : (n : ℕ) → is_answer n ≡ true → (n ≡ 0 → ⊥) → is_number n ≡ true
answer-number n e z = rw (ne_eqb n 0 z) at e

pub answer-none : (n : ℕ) → n ≡ 0 → is_answer n ≡ true
answer-none n e = rw e

-- what is found has the number, or is q1 for want of it
found : (n : ℕ) (qs : List Question) → (with_number n qs ≡ q1 → ⊥) → number_of (with_number n qs) ≡ n
found n [] d = absurd (d refl)
found n (q ∷ qs) d =
    by_test (eqb (number_of q) n) (λ e. rw e (eqb-true _ _ e))
    (λ e. rw e (found n qs (λ h. d (rw e h))))

pub number-unless : (n : ℕ) → (question_of n ≡ q1 → ⊥) → number_of (question_of n) ≡ n
unfolding question_of
number-unless n d = found n questions d

-- every question is in the list, and is that of its number
listed : (q : Question) → question_of (number_of q) ≡ q
unfolding question_of
listed q1 = refl
listed q2 = refl
listed q3 = refl
listed q4 = refl
listed q5 = refl
listed q6 = refl
listed q7 = refl
listed q8 = refl
listed q9 = refl
listed q10 = refl
listed q11 = refl
listed q12 = refl
listed q13 = refl
listed q14 = refl
listed q15 = refl
listed q16 = refl
listed q17 = refl
listed q18 = refl
listed q19 = refl
listed q20 = refl
listed q21 = refl
listed q23 = refl
listed q32 = refl
listed q33 = refl

pub answer-of : (n : ℕ) (q : Question) → n ≡ number_of q → is_answer n ≡ true
answer-of n q e =
    let i : is_number (number_of q) ≡ true = rw (listed q) (eq-eqb (number_of q) (number_of q) refl) in
    rw e (by_test (eqb (number_of q) 0) (λ z. rw z) (λ z. rw z i))

-- a number of no question is that of none
pub no_number : (n : ℕ) → is_number n ≡ false → (q : Question) → number_of q ≡ n → ⊥
no_number n e q h = eqb-false _ _ e (rw h at (ap number_of (listed q)))

-- ---- verdicts

none-zero : is_number 0 ≡ false
unfolding question_of
none-zero = refl

-- the number 0 means that no question had a no
pub verdict-ok : (o : Outcome (Unit {0})) → (verdict_of o).number ≡ 0 → o ≡ ok tt
unfolding verdict_of
verdict-ok (ok u) e = refl
verdict-ok (refused r) e = absurd (no_number 0 none-zero r.question e)

pub ok-verdict : (o : Outcome (Unit {0})) → o ≡ ok tt → (verdict_of o).number ≡ 0
unfolding verdict_of
ok-verdict o e = rw e

pub number_same : {q q' : Question} → number_of q ≡ number_of q' → q ≡ q'
number_same {q = q} {q' = q'} e = sym (listed q) ∙ ap question_of e ∙ listed q'

-- a verdict is that of one refusal alone
refusing-same : (r s : Refusal) → refusing r ≡ refusing s → r ≡ s
refusing-same r s e =
    let q : r.question ≡ s.question = number_same (ap (λ (v : Verdict). v.number) e) in
    let a : r.first ≡ s.first = ap (λ (v : Verdict). v.first) e in
    let b : r.second ≡ s.second = ap (λ (v : Verdict). v.second) e in
    rw (q, a, b) refl

-- a verdict names a refusal exactly when the questions come to it
pub verdict-refused : (o : Outcome (Unit {0})) (r : Refusal) → (verdict_of o ≡ refusing r) ↔ (o ≡ refused r)
unfolding verdict_of
verdict-refused (ok u) r = (
  λ e. absurd (no_number 0 none-zero r.question (sym (ap (λ (v : Verdict). v.number) e))),
  λ e. absurd (not-ok (sym e)),
)
verdict-refused (refused s) r = (λ e. ap {B = Outcome (Unit {0})} refused (refusing-same s r e), λ e. ap refusing (refused-same e))
