-- Laws of choices as lists: a number's places for the blank blocks, the number of a list of places, and their order.
use mathlib.Core.Path.{◌≡◌, refl, sym, ap, ◌∙◌}
use mathlib.Core.Bool.{true, false}
use mathlib.Core.List.{List, [], ◌∷◌}
use Rattle.std.specs.Prelude.{None, IfSome, slice_get}
use Rattle.std.proofs.lemmas.Option.{slice_get_past}
use Prim.Native.Nat.{ℕ, zero, suc, ◌+◌, ◌*◌, ◌/◌, ◌%◌, ◌<◌, ◌≤◌}
use native.Mathlib.Omega.{arith}
use lib.Dec.{eqb}
use lib.ListN.{length, get_or, take, get_or-eq_default}
use borrow.Author.Tests.{ne_eqb}
use Rattle.model.specs.declared.CheckAnswer.{CheckAnswer}
use Rattle.model.specs.Blank.{Choice, none, more, Before, in_force, choosing}
use Rattle.model.proofs.Logic.{by_less, either}
use Rattle.model.proofs.Choice.{before-none, before_more}
use Rattle.blank.specs.declared.Blanks.{Blanks}
use Rattle.blank.specs.Force.{Lists}
use Rattle.choice.specs.Choices.{places_of, most_of, mosts_of, is_choice}
use Rattle.choice.proofs.Numbers.{is-choice, Places, places-of, most-some}

-- the places of choice i for so many blocks
abbrev pub choice_of : ℕ → ℕ → List ℕ
choice_of n i = take n (places_of i)

abbrev pub number_of : List ℕ → ℕ
number_of d = get_or d 0 0 * 64 + get_or d 1 0 * 8 + get_or d 2 0

-- At most three blank blocks l, and as the code has them: 256 stands for a block that there is not.
pub record Blank (l blanks : List ℕ) : Type 0 where
  pub lists : Lists l (record { three = blanks; fourth = None })
  pub below : (j : ℕ) → j < length l → get_or l j 256 < 256
  pub few : length l ≤ 3

some-below : (l : List ℕ) (k : ℕ) → ((j : ℕ) → j < length l → get_or l j 256 < 256) → IfSome (slice_get l k) (λ b. b ≤ 256)
some-below [] k below = tt
some-below (x ∷ xs) zero below = omega (arith, below 0 (omega arith))
some-below (x ∷ xs) (suc k) below = some-below xs k (λ j h. below (suc j) (omega arith))

module _ (l : List ℕ) (r : Blanks) (L : Lists l r) where
  pub first-is : get_or r.three 0 0 ≡ get_or l 0 256
  first-is = ap (λ (t : List ℕ). get_or t 0 0) L.three

  -- no first block: none at all
  pub no_blocks : ((j : ℕ) → j < length l → get_or l j 256 < 256) → get_or r.three 0 0 ≡ 256 → l ≡ []
  no_blocks below e = go l (below 0) first-is
    where
      go : (l : List ℕ) → (0 < length l → get_or l 0 256 < 256) → get_or r.three 0 0 ≡ get_or l 0 256 → l ≡ []
      go [] below f = refl
      go (x ∷ xs) below f = absurd (omega (arith, below (omega arith)))

  pub some_block : (get_or r.three 0 0 ≡ 256 → ⊥) → l ≡ [] → ⊥
  some_block n e = n (first-is ∙ ap (λ (k : List ℕ). get_or k 0 256) e)

  -- with three blocks at most there is no fourth
  pub three-listed : length l ≤ 3 → Lists l (record { three = r.three; fourth = None })
  three-listed h = record { three = L.three; fourth = sym (slice_get_past l 3 h) }

  -- at most 256, which stands for none
  pub first-within : ((j : ℕ) → j < length l → get_or l j 256 < 256) → get_or r.three 0 0 ≤ 256
  first-within below = by_less 0 (length l) (λ h. omega (arith, first-is, below 0 h)) (λ h. omega (arith, first-is, get_or-eq_default l 256 {n = 0} h))

  pub fourth-within : ((j : ℕ) → j < length l → get_or l j 256 < 256) → IfSome r.fourth (λ b. b ≤ 256)
  fourth-within below = rw L.fourth (some-below l 3 below)

-- what each shape of l says of the numbers
pub data Shape (blanks : List ℕ) : List ℕ → Type 0 where
  no-blank : blanks ≡ 256 ∷ 256 ∷ 256 ∷ [] → Shape blanks []
  one-blank : {a : ℕ} → blanks ≡ a ∷ 256 ∷ 256 ∷ [] → a < 256 → Shape blanks (a ∷ [])
  two-blank : {a b : ℕ} → blanks ≡ a ∷ b ∷ 256 ∷ [] → a < 256 → b < 256 → Shape blanks (a ∷ b ∷ [])
  three-blank : {a b c : ℕ} → blanks ≡ a ∷ b ∷ c ∷ [] → a < 256 → b < 256 → c < 256 → Shape blanks (a ∷ b ∷ c ∷ [])

pub shape : (l blanks : List ℕ) → Blank l blanks → Shape blanks l
shape [] blanks B = no-blank B.lists.three
shape (a ∷ []) blanks B = one-blank B.lists.three (B.below 0 (omega arith))
shape (a ∷ b ∷ []) blanks B = two-blank B.lists.three (B.below 0 (omega arith)) (B.below 1 (omega arith))
shape (a ∷ b ∷ c ∷ []) blanks B = three-blank B.lists.three (B.below 0 (omega arith)) (B.below 1 (omega arith)) (B.below 2 (omega arith))
shape (a ∷ b ∷ c ∷ d ∷ l) blanks B = absurd (omega (arith, B.few))

-- the places to choose from; for a block that there is not it is one
most-all : (a offers : ℕ) → a < 256 → most_of a offers ≡ offers
most-all a offers h = sym (most-some a offers (λ z. omega arith))

module _ (blanks : List ℕ) (offers : ℕ) (i : ℕ) (c : is_choice (mosts_of blanks offers) i ≡ true) where
  abbrev p : Places (mosts_of blanks offers) i
  p = places-of (mosts_of blanks offers) i c

  pub is-list : {l : List ℕ} → Shape blanks l → Choice offers (length l) (choice_of (length l) i)
  is-list (no-blank e) = none
  is-list (one-blank {a = a} e u) =
      let q = rw e at p in
      more {k = i / 64} (omega (arith, q.first, most-all a offers u)) none
  is-list (two-blank {a = a} {b = b} e u v) =
      let q = rw e at p in
      more {k = i / 64} (omega (arith, q.first, most-all a offers u)) (more {k = i / 8 % 8} (omega (arith, q.second, most-all b offers v)) none)
  is-list (three-blank {a = a} {b = b} {c = d} e u v t) =
      let q = rw e at p in
      more {k = i / 64} (omega (arith, q.first, most-all a offers u)) (more {k = i / 8 % 8} (omega (arith, q.second, most-all b offers v))
      (more {k = i % 8} (omega (arith, q.third, most-all d offers t)) none))

  -- an answer has three places, 0 for a block that there is not
  pub three-places : {l : List ℕ} → Shape blanks l → (a : CheckAnswer) → choosing a (places_of i) ≡ choosing a (choice_of (length l) i)
  three-places (no-blank e) a =
      let q = rw e at p in
      let e₁ : i / 64 ≡ 0 = omega (arith, q.first) in
      let e₂ : i / 8 % 8 ≡ 0 = omega (arith, q.second) in
      let e₃ : i % 8 ≡ 0 = omega (arith, q.third) in
      rw (e₁, e₂, e₃)
  three-places (one-blank e u) a =
      let q = rw e at p in
      let e₂ : i / 8 % 8 ≡ 0 = omega (arith, q.second) in
      let e₃ : i % 8 ≡ 0 = omega (arith, q.third) in
      rw (e₂, e₃)
  three-places (two-blank e u v) a =
      let q = rw e at p in
      let e₃ : i % 8 ≡ 0 = omega (arith, q.third) in
      rw e₃
  three-places (three-blank e u v t) a = refl

  pub number-again : {l : List ℕ} → Shape blanks l → i < 512 → number_of (choice_of (length l) i) ≡ i
  number-again (no-blank e) h = let q = rw e at p in omega (arith, q.first, q.second, q.third)
  number-again (one-blank e u) h = let q = rw e at p in omega (arith, q.second, q.third)
  number-again (two-blank e u v) h = let q = rw e at p in omega (arith, q.third)
  number-again (three-blank e u v t) h = omega arith

-- a list of places has a number, and is the list of that number
pub record Numbered (blanks : List ℕ) (offers : ℕ) (l d : List ℕ) : Type 0 where
  pub within : number_of d < 512
  pub choice : is_choice (mosts_of blanks offers) (number_of d) ≡ true
  pub same : choice_of (length l) (number_of d) ≡ d

pub numbered : (blanks : List ℕ) (offers : ℕ) → offers ≤ 8 → {l : List ℕ} → Shape blanks l
    → {d : List ℕ} → Choice offers (length l) d → Numbered blanks offers l d
numbered blanks offers m (no-blank e) none =
    record {
      within = omega arith;
      choice = rw e (is-choice _ 0 (omega arith) (omega arith) (omega arith));
      same = refl;
    }
numbered blanks offers m (one-blank {a = a} e u) (more {k = k} h none) =
    let e₁ : (k * 64 + 0 * 8 + 0) / 64 ≡ k = omega arith in
    record {
      within = omega arith;
      choice = rw e (is-choice _ (k * 64 + 0 * 8 + 0) (omega (arith, most-all a offers u)) (omega arith) (omega arith));
      same = rw e₁;
    }
numbered blanks offers m (two-blank {a = a} {b = b} e u v) (more {k = k} h (more {k = j} g none)) =
    let e₁ : (k * 64 + j * 8 + 0) / 64 ≡ k = omega arith in
    let e₂ : (k * 64 + j * 8 + 0) / 8 % 8 ≡ j = omega arith in
    record {
      within = omega arith;
      choice = rw e (is-choice _ (k * 64 + j * 8 + 0) (omega (arith, most-all a offers u)) (omega (arith, most-all b offers v)) (omega arith));
      same = rw (e₁, e₂);
    }
numbered blanks offers m (three-blank {a = a} {b = b} {c = c} e u v t) (more {k = k} h (more {k = j} g (more {k = i} f none))) =
    let e₁ : (k * 64 + j * 8 + i) / 64 ≡ k = omega arith in
    let e₂ : (k * 64 + j * 8 + i) / 8 % 8 ≡ j = omega arith in
    let e₃ : (k * 64 + j * 8 + i) % 8 ≡ i = omega arith in
    record {
      within = omega arith;
      choice = rw e (is-choice _ (k * 64 + j * 8 + i) (omega (arith, most-all a offers u))
          (omega (arith, most-all b offers v)) (omega (arith, most-all c offers t)));
      same = rw (e₁, e₂, e₃);
    }

-- an earlier list has a lesser number
pub earlier : (offers : ℕ) → offers ≤ 8 → {n : ℕ} → n ≤ 3 → {d c : List ℕ} → Choice offers n d → Choice offers n c → Before d c → number_of d < number_of c
earlier offers m l none none b = absurd (before-none b refl)
earlier offers m l (more {k = j} g none) (more {k = k} h none) b =
    either (before_more b k [] refl j [] refl) (λ u. omega arith) (λ (e, r). absurd (before-none r refl))
earlier offers m l (more {k = j} g (more {k = j₁} g₁ none)) (more {k = k} h (more {k = k₁} h₁ none)) b =
    either (before_more b k (k₁ ∷ []) refl j (j₁ ∷ []) refl) (λ u. omega arith)
    (λ (e, r). either (before_more r k₁ [] refl j₁ [] refl) (λ u. omega arith) (λ (e₁, r₁). absurd (before-none r₁ refl)))
earlier offers m l (more {k = j} g (more {k = j₁} g₁ (more {k = j₂} g₂ none))) (more {k = k} h (more {k = k₁} h₁ (more {k = k₂} h₂ none))) b =
    either (before_more b k (k₁ ∷ k₂ ∷ []) refl j (j₁ ∷ j₂ ∷ []) refl) (λ u. omega arith)
    (λ (e, r). either (before_more r k₁ (k₂ ∷ []) refl j₁ (j₂ ∷ []) refl) (λ u. omega arith)
    (λ (e₁, r₁). either (before_more r₁ k₂ [] refl j₂ [] refl) (λ u. omega arith) (λ (e₂, r₂). absurd (before-none r₂ refl))))
earlier offers m l (more g (more g₁ (more g₂ (more g₃ C)))) D b = absurd (omega arith)

-- ---- the rows in force, as the code has them

module _ (blocks offered blanks : List ℕ) (i b : ℕ) (h : b < 256) where
  beyond : eqb b 256 ≡ false
  beyond = ne_eqb b 256 (λ z. omega arith)

  pub force-three : {l : List ℕ} → Shape blanks l
      → in_force blocks offered l (choice_of (length l) i) b ≡ in_force blocks offered blanks (places_of i) b
  force-three (no-blank e) = rw (e, beyond)
  force-three (one-blank e u) = rw (e, beyond)
  force-three (two-blank e u v) = rw (e, beyond)
  force-three (three-blank e u v t) = rw e
