-- The search finds the least choice that passes a test, or nothing where none does; so the check that chooses answers as LeastChoice says.
use mathlib.Core.Path.{◌≡◌, refl, sym, ap, ◌∙◌}
use mathlib.Core.Logic.{◌⊎◌, inl, inr}
use mathlib.Core.Bool.{Bool, true, false}
use mathlib.Core.List.{List, [], ◌∷◌}
use Prim.Native.Nat.{ℕ, zero, suc, ◌+◌, ◌≤◌, ◌<◌}
use native.Mathlib.Omega.{arith}
use lib.ListN.{length}
use borrow.Author.Tests.{eqb-true, eq-eqb}
use Rattle.model.specs.declared.OfferedAnswer.{OfferedAnswer}
use Rattle.model.specs.Question.{number_of, q33, Refusal, refusal, Outcome, ok, refused, provided, ask, asked, in_order, first_no, AllPassed}
use Rattle.model.specs.Question.{FirstRefused, at_once, further, verdict_of}
use Rattle.model.specs.Table.{Code, type_lengths_ask, code_lengths_ask, count_ask, fields_ask, tag_ask, types_ask, blocks_ask, lengths_ask, annotation_ask}
use Rattle.model.specs.Cost.{check_answer}
use Rattle.model.specs.Blank.{is_blank, blanks_of, offers, Choice, none, more, Before, here, there, Found, nowhere, found, or_else, with, try_from, search}
use Rattle.model.specs.Blank.{open_annotations_ask, blanks_ask, offered_length_ask, offered_rows_ask, open_questions, choosing, refused_by, filled_with, accepts}
use Rattle.model.specs.Blank.{chosen, choose, by_blanks, offered_check, AcceptedChoice, Chosen, LeastChoices}
use Rattle.model.proofs.Logic.{by_test, by_equality, by_less, either, pick-both, not-ok, refused-same, all-passed, passed-all, first-refused}
use Rattle.model.proofs.Logic.{refused-first, first_no-refused, verdict-ok}
use Rattle.model.proofs.Lists.{Each, none, more}
use Rattle.model.proofs.Cost.{costs}

-- ---- the first place that leads to something

found-not : {c : List ℕ} → nowhere ≡ found c → ⊥
found-not e = let z : ◌≡◌ {A = ℕ} 0 1 = cc in omega arith

found-same : {c d : List ℕ} → found c ≡ found d → c ≡ d
found-same e = cc

-- of the m places from k on, the first that leads to something leads to c
record First (g : ℕ → Found) (m k : ℕ) (c : List ℕ) : Type 0 where
  place : ℕ
  low : k ≤ place
  high : place < k + m
  is : g place ≡ found c
  before : (j : ℕ) → k ≤ j → j < place → g j ≡ nowhere

try-found : (m k : ℕ) (g : ℕ → Found) (c : List ℕ) → try_from m k g ≡ found c → First g m k c
unfolding try_from or_else
try-found zero k g c e = absurd (found-not e)
try-found (suc m) k g c e = go (g k) refl e (λ h. try-found m (suc k) g c h)
  where
    go : (x : Found) → g k ≡ x → or_else x (try_from m (suc k) g) ≡ found c → (try_from m (suc k) g ≡ found c → First g m (suc k) c)
        → First g (suc m) k c
    go nowhere h e rest =
        let F = rest e in
        record {
          place = F.place;
          low = omega (arith, F.low);
          high = omega (arith, F.high);
          is = F.is;
          before = λ j l u. by_equality j k (λ q. rw q h) (λ d. F.before j (omega arith) u);
        }
    go (found x) h e rest = record { place = k; low = omega arith; high = omega arith; is = h ∙ e; before = λ j l u. absurd (omega arith) }

try-nowhere : (m k : ℕ) (g : ℕ → Found) → try_from m k g ≡ nowhere → (j : ℕ) → k ≤ j → j < k + m → g j ≡ nowhere
unfolding try_from or_else
try-nowhere zero k g e j l u = absurd (omega arith)
try-nowhere (suc m) k g e j l u = go (g k) refl e (λ h d. try-nowhere m (suc k) g h j d (omega arith))
  where
    go : (x : Found) → g k ≡ x → or_else x (try_from m (suc k) g) ≡ nowhere → (try_from m (suc k) g ≡ nowhere → suc k ≤ j → g j ≡ nowhere)
        → g j ≡ nowhere
    go nowhere h e rest = by_equality j k (λ q. rw q h) (λ d. rest e (omega arith))
    go (found x) h e rest = absurd (found-not (sym e))

with-found : (k : ℕ) (x : Found) (c : List ℕ) → with k x ≡ found c → (d : List ℕ) × (x ≡ found d) × (c ≡ k ∷ d)
with-found k nowhere c e = absurd (found-not e)
with-found k (found d) c e = (d, refl, sym (found-same e))

with-nowhere : (k : ℕ) (x : Found) → with k x ≡ nowhere → x ≡ nowhere
with-nowhere k nowhere e = refl
with-nowhere k (found d) e = absurd (found-not (sym e))

-- ---- the search

-- where it finds nothing, no choice passes
pub search-nowhere : (test : List ℕ → Bool) (most n : ℕ) → search test most n ≡ nowhere → (d : List ℕ) → Choice most n d → test d ≡ true → ⊥
unfolding search
search-nowhere test most zero e (k ∷ ks) C t = elim C [ ]
search-nowhere test most (suc n) e [] C t = elim C [ ]
search-nowhere test most zero e [] none t = found-not (sym (rw t at e))
search-nowhere test most (suc n) e (k ∷ ks) (more l C) t =
    search-nowhere (λ c. test (k ∷ c)) most n (with-nowhere k _ (try-nowhere most 0 _ e k (omega arith) (omega arith))) ks C t

-- c passes, and no choice before it does
pub record Least (test : List ℕ → Bool) (most n : ℕ) (c : List ℕ) : Type 0 where
  pub choice : Choice most n c
  pub passes : test c ≡ true
  pub least : (d : List ℕ) → Choice most n d → Before d c → test d ≡ true → ⊥

-- no choice stands before that of no block
pub before-none : {d c : List ℕ} → Before d c → c ≡ [] → ⊥
before-none (here l) e = let z : ◌≡◌ {A = ℕ} 0 1 = cc in omega arith
before-none (there b) e = let z : ◌≡◌ {A = ℕ} 0 1 = cc in omega arith

-- a choice before k ∷ ks has an earlier first place, or the same and an earlier rest
pub before_more : {d c : List ℕ} → Before d c → (k : ℕ) (ks : List ℕ) → c ≡ k ∷ ks → (j : ℕ) (js : List ℕ) → d ≡ j ∷ js
    → (j < k) ⊎ ((j ≡ k) × Before js ks)
before_more (here {j = a} {k = b} l) k ks e j js q = let x : a ≡ j = cc in let y : b ≡ k = cc in inl (omega arith)
before_more (there {k = a} {js = ps} {ks = qs} b) k ks e j js q =
    let x : j ≡ k = cc in
    let z : ps ≡ js = cc in
    let w : qs ≡ ks = cc in
    inr (x, rw (← z, ← w) b)

-- what it finds is the least choice that passes
pub search-found : (test : List ℕ → Bool) (most n : ℕ) (c : List ℕ) → search test most n ≡ found c → Least test most n c
unfolding search
search-found test most zero c e =
    by_test (test [])
    (λ q. let z : [] ≡ c = found-same (rw q at e) in
    rw (← z) (record { choice = none; passes = q; least = λ d C b t. before-none b refl }))
    (λ q. absurd (found-not (rw q at e)))
search-found test most (suc n) c e =
    let F = try-found most 0 _ c e in
    let (ks, q, z) = with-found F.place _ c F.is in
    let L = search-found (λ x. test (F.place ∷ x)) most n ks q in
    rw z (record {
      choice = more {k = F.place} (let u = F.high in omega arith) L.choice;
      passes = L.passes;
      least = λ d C b t. first-least F.place ks F.before L d C b t;
    })
  where
    first-least : (k : ℕ) (ks : List ℕ) → ((j : ℕ) → 0 ≤ j → j < k → with j (search (λ x. test (j ∷ x)) most n) ≡ nowhere)
        → Least (λ x. test (k ∷ x)) most n ks → (d : List ℕ) → Choice most (suc n) d → Before d (k ∷ ks) → test d ≡ true → ⊥
    first-least k ks h L [] C b t = elim C [ ]
    first-least k ks h L (j ∷ js) (more l C) b t =
        either (before_more b k ks refl j js refl)
        (λ u. search-nowhere (λ x. test (j ∷ x)) most n (with-nowhere j _ (h j (omega arith) u)) js C t)
        (λ p. L.least js C p.1 (rw (← p.0) t))

-- of two choices for the same blocks one is before the other, or they are one
before-either : (most n : ℕ) (c d : List ℕ) → Choice most n c → Choice most n d → Before c d ⊎ ((c ≡ d) ⊎ Before d c)
before-either most zero [] (k ∷ ks) _ D = elim D [ ]
before-either most zero (j ∷ js) d C _ = elim C [ ]
before-either most (suc n) [] d C _ = elim C [ ]
before-either most (suc n) (j ∷ js) [] _ D = elim D [ ]
before-either most zero [] [] none none = inr (inl refl)
before-either most (suc n) (j ∷ js) (k ∷ ks) (more l C) (more m D) =
    by_less j k (λ h. inl (here h)) (λ h.
    by_less k j (λ u. inr (inr (here u))) (λ u.
    let e : j ≡ k = omega arith in
    rw e (either (before-either most n js ks C D) (λ b. inl (there b)) (λ r.
    either r (λ q. inr (inl (ap {B = List ℕ} (λ (x : List ℕ). k ∷ x) q))) (λ b. inr (inr (there b)))))))

-- and back: the least choice that passes is found
pub least-found : (test : List ℕ → Bool) (most n : ℕ) (c : List ℕ) → Least test most n c → search test most n ≡ found c
least-found test most n c L = go (search test most n) refl
  where
    go : (x : Found) → search test most n ≡ x → x ≡ found c
    go nowhere e = absurd (search-nowhere test most n e c L.choice L.passes)
    go (found d) e =
        let M = search-found test most n d e in
        either (before-either most n d c M.choice L.choice) (λ b. absurd (L.least d M.choice b M.passes))
        (λ r. either r (λ q. ap found q) (λ b. absurd (M.least c L.choice b L.passes)))

-- where no choice passes, nothing is found
pub none-nowhere : (test : List ℕ → Bool) (most n : ℕ) → ((d : List ℕ) → Choice most n d → test d ≡ true → ⊥) → search test most n ≡ nowhere
none-nowhere test most n h = go (search test most n) refl
  where
    go : (x : Found) → search test most n ≡ x → x ≡ nowhere
    go nowhere e = refl
    go (found c) e = let L = search-found test most n c e in absurd (h c L.choice L.passes)

-- ---- a no of the questions before the choice is not 33

-- every no is of a question up to 32
abbrev Below33 : Outcome (Unit {0}) → Type 0
Below33 o = (r : Refusal) → o ≡ refused r → number_of r.question ≤ 32

ask-below : (b : Bool) (x : Refusal) (k : Unit {0} → Outcome (Unit {0})) → number_of x.question ≤ 32 → Below33 (k tt) → Below33 (ask b x k)
unfolding provided
ask-below true x k h rest = rest
ask-below false x k h rest = λ r e. let z : x ≡ r = refused-same e in rw (← z) h

ok-below : Below33 (ok tt)
ok-below r e = absurd (not-ok (sym e))

asked-below : (b : Bool) (x : Refusal) → number_of x.question ≤ 32 → Below33 (asked b x)
asked-below b x h = ask-below b x _ h ok-below

rows-below : (n : ℕ) (f : ℕ → Outcome (Unit {0})) → ((k : ℕ) → Below33 (f k)) → Below33 (first_no n 0 f)
rows-below n f h r e = let F = first_no-refused n 0 f r e in h F.row r F.here

order_below : (qs : List (Outcome (Unit {0}))) → Each Below33 qs → Below33 (in_order qs)
order_below qs E r e = go E (first-refused qs r e)
  where
    go : {qs : List (Outcome (Unit {0}))} → Each Below33 qs → FirstRefused r qs → number_of r.question ≤ 32
    go none F = elim F [ ]
    go (more h E) (at_once e) = h r e
    go (more h E) (further p F) = go E F

blocks-below : (blocks : List ℕ) (total n b i : ℕ) → Below33 (blocks_ask blocks total n b i)
unfolding blocks_ask
blocks-below blocks total zero b i = asked-below _ _ (omega arith)
blocks-below blocks total (suc n) b i = ask-below _ _ _ (omega arith) (blocks-below blocks total n (suc b) _)

types-below : (types tags : List ℕ) → Below33 (types_ask types tags)
unfolding types_ask count_ask fields_ask tag_ask
types-below types tags =
    order_below _ (
    more (rows-below _ _ (λ t. asked-below _ _ (omega arith)))
    (more (rows-below _ _ (λ t. asked-below _ _ (omega arith)))
    (more (rows-below _ _ (λ k. asked-below _ _ (omega arith))) none)))

open-below : (types tags : List ℕ) (C : Code) (offered : List ℕ) → Below33 (in_order (open_questions types tags C offered))
unfolding type_lengths_ask code_lengths_ask lengths_ask open_annotations_ask annotation_ask blanks_ask offered_length_ask offered_rows_ask
open-below types tags C offered =
    order_below _ (
    more (ask-below _ _ _ (omega arith) (asked-below _ _ (omega arith)))
    (more (ask-below _ _ _ (omega arith) (asked-below _ _ (omega arith)))
    (more (types-below types tags)
    (more (blocks-below _ _ _ 0 0)
    (more (rows-below _ _ (λ b. pick-both Below33 (is_blank C.blocks b) _ _ (λ q. ok-below) (λ q. asked-below _ _ (omega arith))))
    (more (asked-below _ _ (omega arith))
    (more (asked-below _ _ (omega arith))
    (more (rows-below _ _ (λ k. asked-below _ _ (omega arith))) none))))))))

-- ---- the check that chooses

module _ (types tags : List ℕ) (C : Code) (offered : List ℕ) where
  abbrev Q : List (Outcome (Unit {0}))
  Q = open_questions types tags C offered

  abbrev full : List ℕ → Code
  full = filled_with types tags C offered

  abbrev answer : OfferedAnswer
  answer = offered_check types tags C offered

  abbrev searched : Found
  searched = search (accepts types tags C offered) (offers offered) (length (blanks_of C.blocks))

  abbrev Accepted : List ℕ → Type 0
  Accepted = AcceptedChoice types tags C offered

  -- what the answer comes to where b is the lowest blank block
  data Comes (b : ℕ) : Type 0 where
    earlier : (r : Refusal) → in_order Q ≡ refused r → answer ≡ refused_by r → Comes b
    missing : in_order Q ≡ ok tt → searched ≡ nowhere → answer ≡ refused_by (refusal q33 b 0) → Comes b
    picked : (c : List ℕ) → in_order Q ≡ ok tt → searched ≡ found c → answer ≡ choosing (check_answer types tags (full c)) c → Comes b

  answer-is : (b : ℕ) (bs : List ℕ) → blanks_of C.blocks ≡ b ∷ bs → answer ≡ choose types tags C offered b (in_order Q)
  unfolding offered_check by_blanks
  answer-is b bs e = ap (by_blanks types tags C offered) e

  comes : (b : ℕ) (bs : List ℕ) → blanks_of C.blocks ≡ b ∷ bs → Comes b
  unfolding choose chosen
  comes b bs e = by-questions (in_order Q) refl (answer-is b bs e)
    where
      by-search : (x : Found) → searched ≡ x → in_order Q ≡ ok tt → answer ≡ chosen types tags C offered b x → Comes b
      by-search nowhere s q a = missing q s a
      by-search (found c) s q a = picked c q s a

      by-questions : (o : Outcome (Unit {0})) → in_order Q ≡ o → answer ≡ choose types tags C offered b o → Comes b
      by-questions (ok u) q a = by-search searched refl q a
      by-questions (refused r) q a = earlier r q a

  -- ---- 0, and 33

  number-of : {x y : OfferedAnswer} → x ≡ y → x.number ≡ y.number
  number-of e = ap (λ (x : OfferedAnswer). x.number) e

  refused-zero : (r : Refusal) → number_of r.question ≡ 0 → ⊥
  unfolding verdict_of
  refused-zero r e = not-ok (verdict-ok (refused r) e)

  abbrev none-accepted : searched ≡ nowhere → (c : List ℕ) → Accepted c → ⊥
  none-accepted s c K = search-nowhere _ _ _ s c K.places (eq-eqb _ _ K.accepted)

  accepted-is : (c : List ℕ) → searched ≡ found c → Accepted c
  accepted-is c s = let L = search-found _ _ _ c s in record { places = L.choice; accepted = eqb-true _ _ L.passes }

  picked-zero : (c : List ℕ) → searched ≡ found c → answer ≡ choosing (check_answer types tags (full c)) c → answer.number ≡ 0
  unfolding check_answer
  picked-zero c s a = number-of a ∙ (accepted-is c s).accepted

  -- 0 says that the questions before the choice passed, and that the answer is the least accepted choice
  zero-chosen : {b : ℕ} → Comes b → answer.number ≡ 0 → AllPassed Q × Chosen types tags C offered answer
  zero-chosen (earlier r q a) z = absurd (refused-zero r (sym (number-of a) ∙ z))
  zero-chosen (missing q s a) z = absurd (omega (arith, number-of a))
  zero-chosen (picked c q s a) z = (
    all-passed Q q,
    record {
      choice = c;
      is = accepted-is c s;
      least = λ d l K. (search-found _ _ _ c s).least d K.places l (eq-eqb _ _ K.accepted);
      answer = a;
      cost = costs types tags (full c);
    },
  )

  accepted-zero : {b : ℕ} → Comes b → AllPassed Q → (c : List ℕ) → Accepted c → answer.number ≡ 0
  accepted-zero (earlier r q a) A c K = absurd (not-ok (sym q ∙ passed-all Q A))
  accepted-zero (missing q s a) A c K = absurd (none-accepted s c K)
  accepted-zero (picked d q s a) A c K = picked-zero d s a

  -- 33 says that they passed and that no choice is accepted, and is at the lowest blank block
  missed-none : {b : ℕ} → Comes b → answer.number ≡ 33
      → AllPassed Q × ((c : List ℕ) → Accepted c → ⊥) × (answer ≡ refused_by (refusal q33 b 0))
  missed-none (earlier r q a) z = absurd (omega (arith, number-of a, open-below types tags C offered r q))
  missed-none (missing q s a) z = (all-passed Q q, none-accepted s, a)
  missed-none (picked c q s a) z = absurd (omega (arith, picked-zero c s a))

  none-missed : {b : ℕ} → Comes b → AllPassed Q → ((c : List ℕ) → Accepted c → ⊥) → answer.number ≡ 33
  none-missed (earlier r q a) A h = absurd (not-ok (sym q ∙ passed-all Q A))
  none-missed (missing q s a) A h = number-of a
  none-missed (picked c q s a) A h = absurd (h c (accepted-is c s))

-- the answer is the least accepted choice, or the first no
pub least-choices : LeastChoices
unfolding offered_check by_blanks choose
least-choices types tags C offered =
    record {
      unread = λ e. ap (by_blanks types tags C offered) e;
      before = λ b bs e r F. answer-is types tags C offered b bs e ∙ ap (choose types tags C offered b) (refused-first _ r F);
      passed = λ b bs e.
          let K = comes types tags C offered b bs e in (
            λ z. let (A, c) = zero-chosen types tags C offered K z in (A, c.choice, c.is),
            λ (A, c, k). accepted-zero types tags C offered K A c k,
          );
      chosen = λ b bs e z. (zero-chosen types tags C offered (comes types tags C offered b bs e) z).1;
      missed = λ b bs e.
          let K = comes types tags C offered b bs e in (
            λ z. let (A, h, a) = missed-none types tags C offered K z in (A, h),
            λ (A, h). none-missed types tags C offered K A h,
          );
      lowest = λ b bs e z. (missed-none types tags C offered (comes types tags C offered b bs e) z).2;
    }
