-- Laws of choices by number: the places, the choices that there are, and the least of those that a block cannot tell apart.
use mathlib.Core.Path.{◌≡◌, refl, sym, ◌∙◌}
use mathlib.Core.Logic.{◌⊎◌, inl, inr}
use mathlib.Core.Bool.{true, false}
use mathlib.Core.List.{List, [], ◌∷◌}
use Prim.Native.Nat.{ℕ, zero, suc, ◌+◌, ◌*◌, ◌/◌, ◌%◌, ◌<◌, ◌≤◌}
use native.Mathlib.Omega.{arith}
use lib.Dec.{ltb}
use lib.ListN.{length, get_or}
use borrow.Author.Tests.{eq-eqb, ne_eqb, lt-ltb, le-ltb, ltb-true}
use Rattle.model.specs.Question.{◌and◌}
use Rattle.model.proofs.Logic.{by_equality, either, and-true}
use Rattle.blank.specs.Force.{Fits}
use Rattle.choice.specs.Choices.{places_of, filling_of, most_of, mosts_of, is_choice, weight_of, weights_of, alike, Offers, Weighs}

-- ---- the choices that there are

module _ (m : List ℕ) (i : ℕ) where
  pub no-first : get_or m 0 0 ≤ i / 64 → false ≡ is_choice m i
  unfolding is_choice ◌and◌
  no-first h = rw (le-ltb (i / 64) (get_or m 0 0) h)

  module _ (l : i / 64 < (get_or m 0 0)) where
    pub no_second : (get_or m 1 0) ≤ i / 8 % 8 → false ≡ is_choice m i
    unfolding is_choice ◌and◌
    no_second h = rw (lt-ltb (i / 64) (get_or m 0 0) l, le-ltb (i / 8 % 8) (get_or m 1 0) h)

    pub by-third : i / 8 % 8 < (get_or m 1 0) → ltb (i % 8) (get_or m 2 0) ≡ is_choice m i
    unfolding is_choice ◌and◌
    by-third h = rw (lt-ltb (i / 64) (get_or m 0 0) l, lt-ltb (i / 8 % 8) (get_or m 1 0) h)

    pub is-choice : i / 8 % 8 < (get_or m 1 0) → i % 8 < (get_or m 2 0) → is_choice m i ≡ true
    is-choice h k = sym (by-third h) ∙ lt-ltb (i % 8) (get_or m 2 0) k

-- each place of a choice is one to choose from
pub record Places (m : List ℕ) (i : ℕ) : Type 0 where
  pub first : i / 64 < (get_or m 0 0)
  pub second : i / 8 % 8 < (get_or m 1 0)
  pub third : i % 8 < (get_or m 2 0)

pub places-of : (m : List ℕ) (i : ℕ) → is_choice m i ≡ true → Places m i
unfolding is_choice
places-of m i h =
    let (a, q) = and-true _ _ h in
    let (b, c) = and-true _ _ q in
    record { first = ltb-true _ _ a; second = ltb-true _ _ b; third = ltb-true _ _ c }

-- ---- the offered rows

pub most-none : (blank offers : ℕ) → blank ≡ 256 → 1 ≡ most_of blank offers
most-none blank offers e = rw e

pub most-some : (blank offers : ℕ) → (blank ≡ 256 → ⊥) → offers ≡ most_of blank offers
most-some blank offers n = rw (ne_eqb blank 256 n)

-- the places of each of three blank blocks
pub mosts-are : (blanks : List ℕ) (offers : ℕ) → length blanks ≡ 3
    → mosts_of blanks offers ≡ most_of (get_or blanks 0 0) offers ∷ most_of (get_or blanks 1 0) offers ∷ most_of (get_or blanks 2 0) offers ∷ []
mosts-are [] offers e = absurd (omega arith)
mosts-are (a ∷ []) offers e = absurd (omega arith)
mosts-are (a ∷ b ∷ []) offers e = absurd (omega arith)
mosts-are (a ∷ b ∷ c ∷ []) offers e = refl
mosts-are (a ∷ b ∷ c ∷ d ∷ l) offers e = absurd (omega arith)

module _ {blanks m offered : List ℕ} (O : Offers blanks m offered) where
  abbrev three : List ℕ
  three =
      most_of (get_or blanks 0 0) (length offered / 8) ∷ most_of (get_or blanks 1 0) (length offered / 8) ∷ most_of (get_or blanks 2 0) (length offered / 8) ∷ []

  -- the row of a place exists
  row-exists : (blank k : ℕ) → k < most_of blank (length offered / 8) → blank < 256 → k * 8 + 8 ≤ length offered
  row-exists blank k h l = let e = most-some blank (length offered / 8) (λ z. omega arith) in omega arith

  pub choice-fits : (i : ℕ) → is_choice m i ≡ true → Fits (filling_of blanks i) offered
  choice-fits i h =
      let M = O.mosts ∙ mosts-are blanks (length offered / 8) O.three in
      record { blanks = O.three; places = refl; rows = fit (places-of three i (rw M at h)) }
    where
      fit : Places three i → (k : ℕ) → k < 3 → get_or blanks k 0 < 256 → get_or (places_of i) k 0 * 8 + 8 ≤ length offered
      fit p zero l u = row-exists (get_or blanks 0 0) (i / 64) p.first u
      fit p (suc zero) l u = row-exists (get_or blanks 1 0) (i / 8 % 8) p.second u
      fit p (suc (suc zero)) l u = row-exists (get_or blanks 2 0) (i % 8) p.third u
      fit p (suc (suc (suc k))) l u = absurd (omega arith)

  some-most : (blank : ℕ) → 0 < most_of blank (length offered / 8)
  some-most blank =
      let s = O.some in
      by_equality blank 256 (λ e. let q = most-none blank (length offered / 8) e in omega arith)
      (λ n. let q = most-some blank (length offered / 8) n in omega arith)

  -- number 0 is a choice
  pub first-choice : is_choice m 0 ≡ true
  first-choice =
      rw (O.mosts ∙ mosts-are blanks (length offered / 8) O.three)
      (is-choice _ 0 (some-most (get_or blanks 0 0)) (some-most (get_or blanks 1 0)) (some-most (get_or blanks 2 0)))

-- ---- weights

module _ (blank b target whole : ℕ) where
  pub weight-own : blank ≡ b → whole ≡ weight_of blank b target whole
  weight-own e = rw (eq-eqb blank b e)

  pub weight-next : (blank ≡ b → ⊥) → blank ≡ b + 1 → whole ≡ weight_of blank b target whole
  weight-next n e = rw (ne_eqb blank b n, eq-eqb blank (b + 1) e)

  pub weight-target : (blank ≡ b → ⊥) → (blank ≡ b + 1 → ⊥) → blank ≡ target → whole ≡ weight_of blank b target whole
  weight-target n k e = rw (ne_eqb blank b n, ne_eqb blank (b + 1) k, eq-eqb blank target e)

  pub weight-none : (blank ≡ b → ⊥) → (blank ≡ b + 1 → ⊥) → (blank ≡ target → ⊥) → 0 ≡ weight_of blank b target whole
  weight-none n k e = rw (ne_eqb blank b n, ne_eqb blank (b + 1) k, ne_eqb blank target e)

  -- the row of block t is read where t is the block, the next or the target
  pub weight-read : (t : ℕ) → (t ≡ b) ⊎ ((t ≡ b + 1) ⊎ (t ≡ target)) → t ≡ blank → weight_of blank b target whole ≡ whole
  weight-read t h e =
      by_equality blank b (λ q. sym (weight-own q))
      (λ n. by_equality blank (b + 1) (λ q. sym (weight-next n q))
      (λ k. by_equality blank target (λ q. sym (weight-target n k q))
      (λ x. either h (λ q. absurd (n (sym e ∙ q))) (λ r. either r (λ q. absurd (k (sym e ∙ q))) (λ q. absurd (x (sym e ∙ q)))))))

  whole-or-none : (weight_of blank b target whole ≡ whole) ⊎ (weight_of blank b target whole ≡ 0)
  whole-or-none =
      by_equality blank b (λ q. inl (sym (weight-own q)))
      (λ n. by_equality blank (b + 1) (λ q. inl (sym (weight-next n q)))
      (λ k. by_equality blank target (λ q. inl (sym (weight-target n k q))) (λ x. inr (sym (weight-none n k x)))))

pub weighs : (blanks : List ℕ) (b target : ℕ) → Weighs (weights_of blanks b target)
weighs blanks b target =
    record {
      three = refl;
      first = whole-or-none (get_or blanks 0 0) b target 64;
      second = whole-or-none (get_or blanks 1 0) b target 8;
      third = whole-or-none (get_or blanks 2 0) b target 1;
    }

pub weigh-most : (w : List ℕ) → Weighs w → ((get_or w 0 0) ≤ 64) × ((get_or w 1 0) ≤ 8) × ((get_or w 2 0) ≤ 1)
weigh-most w W =
    let most : (x whole : ℕ) → (x ≡ whole) ⊎ (x ≡ 0) → x ≤ whole = λ x whole c. either c (λ e. omega arith) (λ e. omega arith) in
    (most _ 64 W.first, most _ 8 W.second, most _ 1 W.third)

-- ---- the least of those alike

-- what is kept of a place k, whose weight x is whole or nothing
record Kept (k x whole : ℕ) : Type 0 where
  kept : ℕ
  below : kept ≤ k
  adds : k * x ≡ kept * whole
  again : kept * x ≡ kept * whole
  same : x ≡ whole → kept ≡ k
  none : x ≡ 0 → kept ≡ 0

keeps : (k x whole : ℕ) → 0 < whole → (x ≡ whole) ⊎ (x ≡ 0) → Kept k x whole
keeps k x whole l c =
    either c
    (λ e. record { kept = k; below = omega arith; adds = rw e; again = rw e; same = λ _. refl; none = λ z. absurd (omega arith) })
    (λ e. record {
      kept = 0;
      below = omega arith;
      adds = rw e (omega arith);
      again = omega arith;
      same = λ z. absurd (omega arith);
      none = λ _. refl;
    })

module _ (w : List ℕ) (W : Weighs w) (i : ℕ) (h : i < 512) where
  -- its places are those of choice i, or 0 where they weigh nothing
  pub record Alike : Type 0 where
    pub below : alike w i ≤ i
    pub first : (alike w i / 64 ≤ i / 64) × ((get_or w 0 0) ≡ 64 → alike w i / 64 ≡ i / 64)
    pub second : (alike w i / 8 % 8 ≤ i / 8 % 8) × ((get_or w 1 0) ≡ 8 → alike w i / 8 % 8 ≡ i / 8 % 8)
    pub third : (alike w i % 8 ≤ i % 8) × ((get_or w 2 0) ≡ 1 → alike w i % 8 ≡ i % 8)
    pub again : alike w (alike w i) ≡ alike w i
    pub none : (get_or w 0 0) + (get_or w 1 0) + (get_or w 2 0) ≡ 0 → alike w i ≡ 0

  pub alike_is : Alike
  alike_is =
      let p = keeps (i / 64) (get_or w 0 0) 64 (omega arith) W.first in
      let q = keeps (i / 8 % 8) (get_or w 1 0) 8 (omega arith) W.second in
      let r = keeps (i % 8) (get_or w 2 0) 1 (omega arith) W.third in
      let a : alike w i ≡ p.kept * 64 + q.kept * 8 + r.kept = omega (arith, p.adds, q.adds, r.adds) in
      let b₁ : p.kept ≤ i / 64 = p.below in
      let b₂ : q.kept ≤ i / 8 % 8 = q.below in
      let b₃ : r.kept ≤ i % 8 = r.below in
      let e₁ : alike w i / 64 ≡ p.kept = omega arith in
      let e₂ : alike w i / 8 % 8 ≡ q.kept = omega arith in
      let e₃ : alike w i % 8 ≡ r.kept = omega arith in
      record {
        below = omega arith;
        first = (omega arith, λ z. e₁ ∙ p.same z);
        second = (omega arith, λ z. e₂ ∙ q.same z);
        third = (omega arith, λ z. e₃ ∙ r.same z);
        again = rw (e₁, e₂, e₃) (omega (arith, p.again, q.again, r.again, a));
        none = λ z. omega (arith, p.none (omega arith), q.none (omega arith), r.none (omega arith), a);
      }

  -- what its three parts are at most
  pub alike-parts : (i / 64 * (get_or w 0 0) ≤ 448) × (i / 8 % 8 * (get_or w 1 0) ≤ 56) × (i % 8 * (get_or w 2 0) ≤ 7)
  alike-parts =
      let p = keeps (i / 64) (get_or w 0 0) 64 (omega arith) W.first in
      let q = keeps (i / 8 % 8) (get_or w 1 0) 8 (omega arith) W.second in
      let r = keeps (i % 8) (get_or w 2 0) 1 (omega arith) W.third in
      (omega (arith, p.adds, p.below), omega (arith, q.adds, q.below), omega (arith, r.adds, r.below))

  -- where choice i is one, it is one
  pub alike-choice : (m : List ℕ) → is_choice m i ≡ true → is_choice m (alike w i) ≡ true
  alike-choice m c =
      let p = places-of m i c in
      let a = alike_is in
      is-choice m (alike w i) (omega (arith, p.first, a.first.0)) (omega (arith, p.second, a.second.0)) (omega (arith, p.third, a.third.0))
