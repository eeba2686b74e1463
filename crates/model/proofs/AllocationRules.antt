-- Q19 has no no exactly when the list of allocations is laid as its rules have it, and else names the first row that is not; Q20 row by row.
use mathlib.Core.Path.{◌≡◌, refl, sym, ap, ◌∙◌}
use mathlib.Core.Logic.{◌↔◌}
use mathlib.Core.Bool.{Bool, true, false, false≢true}
use mathlib.Core.List.{List, [], ◌∷◌}
use Prim.Native.Nat.{ℕ, zero, suc, ◌+◌, ◌*◌, ◌%◌, ◌≤◌, ◌<◌}
use native.Mathlib.Omega.{arith}
use lib.Dec.{leb, eqb}
use lib.ListN.{length, drop, drop_of_length-le}
use lib.Seq.{drop-cons}
use borrow.Author.Tests.{eqb-true, eq-eqb, ltb-true, lt-ltb, leb-true, le-leb}
use Rattle.model.specs.Question.{◌and◌, q19, Refusal, refusal, Outcome, ok, refused, ask, asked, then, first_no, FirstNo, provided}
use Rattle.model.specs.Table.{Tables, allocations_most}
use Rattle.model.specs.Allocation.{laid, rows_ask, allocations_ask, start_at, type_at, pairs, WholePairs, end_at, RowLaid, AllLaid, FirstUnlaid}
use Rattle.model.specs.Allocation.{bad_length, bad_row}
use Rattle.model.specs.MemoryCheck.{field_ask, records_ask}
use Rattle.model.proofs.Logic.{by_test, and-true, true-and, ask-ok, ok-ask, not-ok, refused-same, first_no-refused, no-first_no}
use Rattle.model.proofs.TableRules.{each-exactly}

-- ---- one question

pub asked-no : (b : Bool) (r s : Refusal) → (asked b r ≡ refused s) ↔ ((b ≡ false) × (s ≡ r))
unfolding provided
asked-no true r s = (λ e. absurd (not-ok (sym e)), λ (b, e). absurd (false≢true (sym b)))
asked-no false r s = (λ e. (refl, sym (refused-same e)), λ (b, e). ap {B = Outcome (Unit {0})} refused (sym e))

-- a question and what follows it, as one of several rows
ask-first : (b : Bool) (r : Refusal) (x y : Outcome (Unit {0})) → x ≡ y → ask b r (λ _. x) ≡ then (asked b r) (λ _. y)
unfolding provided then
ask-first true r x y e = e
ask-first false r x y e = refl

-- ---- a list of pairs, from row k on

module _ (L : List ℕ) where
  abbrev from : ℕ → List ℕ
  from k = drop (2 * k) L

  from_row : (k : ℕ) → suc (2 * k) < length L → from k ≡ start_at L k ∷ type_at L k ∷ from (suc k)
  from_row k h =
      let e : 2 * suc k ≡ suc (suc (2 * k)) = omega arith in
      drop-cons L (2 * k) 0 (omega arith)
      ∙ ap {B = List ℕ} (λ (r : List ℕ). start_at L k ∷ r)
      (drop-cons L (suc (2 * k)) 0 h ∙ ap {B = List ℕ} (λ (n : ℕ). type_at L k ∷ drop n L) (sym e))

  from_end : (k : ℕ) → length L ≤ 2 * k → from k ≡ []
  from_end k h = drop_of_length-le L h

-- ---- Q19

module _ (𝒯 : Tables) (top : ℕ) (L : List ℕ) where
  -- the end of the record before row k, and 1 before the first
  abbrev low_at : ℕ → ℕ
  low_at zero = 1
  low_at (suc k) = end_at 𝒯 top L k

  abbrev is_laid : ℕ → Bool
  is_laid k = laid 𝒯 top (low_at k) (start_at L k) (type_at L k)

  abbrev row_ask : ℕ → Outcome (Unit {0})
  row_ask k = asked (is_laid k) (refusal q19 k 0)

  rows-first : (n k : ℕ) → length L ≡ 2 * (k + n) → rows_ask 𝒯 top (from L k) k (low_at k) ≡ first_no n k row_ask
  unfolding rows_ask first_no
  rows-first zero k e = rw (from_end L k (omega arith))
  rows-first (suc n) k e = rw (from_row L k (omega arith)) (ask-first (is_laid k) (refusal q19 k 0) _ _ (rows-first n (suc k) (omega arith)))

  rows_are : WholePairs L → rows_ask 𝒯 top L 0 1 ≡ first_no (pairs L) 0 row_ask
  rows_are w = let h = w.0 in rows-first (pairs L) 0 (omega arith)

  record Fits (k : ℕ) : Type 0 where
    exists : type_at L k < 𝒯.count
    above : low_at k ≤ start_at L k
    inside : end_at 𝒯 top L k ≤ top

  fits-exactly : (k : ℕ) → (is_laid k ≡ true) ↔ Fits k
  unfolding laid
  fits-exactly k = (
    λ e. let (a, e₁) = and-true _ _ e in let (b, c) = and-true _ _ e₁ in
        record { exists = ltb-true _ _ a; above = leb-true _ _ b; inside = leb-true _ _ c },
    λ F. true-and _ _ (lt-ltb _ _ F.exists) (true-and _ _ (le-leb _ _ F.above) (le-leb _ _ F.inside)),
  )

  low-positive : (k : ℕ) → ((j : ℕ) → j < k → low_at j ≤ start_at L j) → 1 ≤ low_at k
  low-positive zero h = omega arith
  low-positive (suc k) h = let p = low-positive k (λ j l. h j (omega arith)) in let a = h k (omega arith) in omega arith

  low-is : (k j : ℕ) → suc j ≡ k → low_at k ≡ end_at 𝒯 top L j
  low-is zero j e = absurd (omega arith)
  low-is (suc k) j e = let i : k ≡ j = omega arith in rw i refl

  fits-laid : (k : ℕ) → Fits k → 1 ≤ low_at k → RowLaid 𝒯 top L k
  fits-laid k F p =
      let a = F.above in
      record { exists = F.exists; start = omega arith; above = λ j e. let i = low-is k j e in omega arith; inside = F.inside }

  laid-low : (k : ℕ) → RowLaid 𝒯 top L k → low_at k ≤ start_at L k
  laid-low zero R = R.start
  laid-low (suc k) R = R.above k refl

  laid-fits : (k : ℕ) → RowLaid 𝒯 top L k → Fits k
  laid-fits k R = record { exists = R.exists; above = laid-low k R; inside = R.inside }

  -- rows before which every row passed
  fits_each : (n : ℕ) → ((k : ℕ) → k < n → Fits k) → (k : ℕ) → k < n → RowLaid 𝒯 top L k
  fits_each n h k l = fits-laid k (h k l) (low-positive k (λ j i. (h j (omega arith)).above))

  whole-exactly : (eqb (length L % 2) 0 and leb (length L) (2 * allocations_most) ≡ true) ↔ WholePairs L
  whole-exactly = (
    λ e. let (a, b) = and-true _ _ e in (eqb-true _ _ a, let l : length L ≤ 2 * allocations_most = leb-true _ _ b in omega arith),
    λ (a, b). true-and _ _ (eq-eqb _ _ a) (le-leb (length L) (2 * allocations_most) (omega arith)),
  )

  -- a row's question passes as its test does
  row-passes : (k : ℕ) → (row_ask k ≡ ok tt) ↔ Fits k
  row-passes k = (λ e. (fits-exactly k).0 (ask-ok _ _ _ e).0, λ F. ok-ask _ _ _ ((fits-exactly k).1 F))

  pub allocations-exactly : (allocations_ask 𝒯 top L ≡ ok tt) ↔ AllLaid 𝒯 top L
  unfolding allocations_ask
  allocations-exactly = (
    λ e. let (w, q) = ask-ok _ _ _ e in
        let whole = whole-exactly.0 w in
        let each = (each-exactly _ _).0 (sym (rows_are whole) ∙ q) in
        record { whole = whole; each = fits_each (pairs L) (λ k h. (row-passes k).0 (each k h)) },
    λ A. ok-ask _ _ _ (whole-exactly.1 A.whole)
        ∙ rows_are A.whole ∙ (each-exactly _ _).1 (λ k h. (row-passes k).1 (laid-fits k (A.each k h))),
  )

  first-unlaid : (r : Refusal) → WholePairs L → FirstNo (pairs L) 0 row_ask r → FirstUnlaid 𝒯 top L r
  first-unlaid r w F =
      let (b, e) = (asked-no _ _ _).0 F.here in
      let fits : (j : ℕ) → j < F.row → Fits j = λ j h. (row-passes j).0 (F.before j (omega arith) h) in
      bad_row F.row w (omega (arith, F.high)) (fits_each F.row fits)
      (λ R. false≢true (sym b ∙ (fits-exactly F.row).1 (laid-fits F.row R))) e

  no-unlaid : (r : Refusal) → allocations_ask 𝒯 top L ≡ refused r → FirstUnlaid 𝒯 top L r
  unfolding allocations_ask provided
  no-unlaid r e =
      by_test (eqb (length L % 2) 0 and leb (length L) (2 * allocations_most))
      (λ w. first-unlaid r (whole-exactly.0 w) (first_no-refused _ 0 _ r (sym (rows_are (whole-exactly.0 w)) ∙ sym (ok-ask _ _ _ w) ∙ e)))
      (λ w. bad_length (λ x. false≢true (sym w ∙ whole-exactly.1 x)) (sym (refused-same (rw w at e))))

  unlaid-no : (r : Refusal) → FirstUnlaid 𝒯 top L r → allocations_ask 𝒯 top L ≡ refused r
  unfolding allocations_ask provided
  unlaid-no r (bad_length n e) =
      by_test (eqb (length L % 2) 0 and leb (length L) (2 * allocations_most))
      (λ w. absurd (n (whole-exactly.0 w))) (λ w. rw (w, e) refl)
  unlaid-no r (bad_row k w h before n e) =
      let unlaid : is_laid k ≡ false =
      by_test (is_laid k) (λ y. absurd (n (fits-laid k ((fits-exactly k).0 y) (low-positive k (λ j l. laid-low j (before j l)))))) (λ y. y) in
      ok-ask _ _ _ (whole-exactly.1 w) ∙ rows_are w ∙ no-first_no (pairs L) 0 row_ask r (record {
        row = k;
        low = omega arith;
        high = omega arith;
        here = (asked-no _ _ _).1 (unlaid, e);
        before = λ j lo hi. (row-passes j).1 (laid-fits j (before j hi));
      })

  pub allocations-no : (r : Refusal) → (allocations_ask 𝒯 top L ≡ refused r) ↔ FirstUnlaid 𝒯 top L r
  allocations-no r = (no-unlaid r, unlaid-no r)

-- ---- Q20, row by row

module _ (𝒯 : Tables) (allocations memory L : List ℕ) where
  abbrev pub record_ask : ℕ → Outcome (Unit {0})
  record_ask k = first_no (𝒯.size (type_at L k)) 0 (field_ask 𝒯 allocations memory k (start_at L k) (type_at L k))

  records-first : (n k : ℕ) → length L ≡ 2 * (k + n) → records_ask 𝒯 allocations memory (from L k) k ≡ first_no n k record_ask
  unfolding records_ask first_no
  records-first zero k e = rw (from_end L k (omega arith))
  records-first (suc n) k e =
      rw (from_row L k (omega arith))
      (ap (λ (x : Outcome (Unit {0})). then (record_ask k) (λ _. x)) (records-first n (suc k) (omega arith)))

  pub records-are : length L % 2 ≡ 0 → records_ask 𝒯 allocations memory L 0 ≡ first_no (pairs L) 0 record_ask
  records-are h = records-first (pairs L) 0 (omega arith)
