-- Laws of numbers for frames, dependencies and known constants.
use mathlib.Core.Path.{◌≡◌, refl, sym, ap, ◌∙◌}
use mathlib.Core.Bool.{Bool, true, false}
use mathlib.Core.List.{List, [], ◌∷◌, ◌++◌}
use Prim.Native.Nat.{ℕ, zero, suc, ◌+◌, ◌-◌, ◌*◌, ◌/◌, ◌%◌, ◌<◌, ◌≤◌}
use native.Mathlib.Omega.{arith}
use lib.Dec.{eqb}
use lib.ListN.{get_or, set}
use borrow.Author.Tests.{lt-ltb, le-ltb, eq-eqb, ne_eqb}
use Rattle.model.specs.Question.{◌or◌}
use Rattle.model.specs.Word.{kind_of, record_of, first_of, second_of}
use Rattle.model.specs.Types.{name, con, dep_of, rename_dep, any, ref, maybe, tagged, present, same, span, type_of, rename}
use Rattle.model.specs.Values.{constant_held, some, same_dep}
use Rattle.model.proofs.Logic.{by_test, by_equality, by_less}
use Rattle.model.proofs.Lists.{map-set}
use Rattle.known.specs.Numbers.{frame_of, frames_of, dep_at, sibling_of, named_of, constant_or, partner_of}

-- ---- frames

pub frames-at : (l : List ℕ) (g : ℕ) → frame_of (get_or l g 0) ≡ get_or (frames_of l) g 0
unfolding frames_of
frames-at [] g = refl
frames-at (x ∷ l) zero = refl
frames-at (x ∷ l) (suc g) = frames-at l g

pub frames-set : (l : List ℕ) (g x : ℕ) → frames_of (set l g x) ≡ set (frames_of l) g (frame_of x)
unfolding frames_of
frames-set l g x = map-set frame_of l g x

pub frame_is : (l : List ℕ) (g x : ℕ) → x ≡ get_or l g 0 → x % 32 * 8 ≡ get_or (frames_of l) g 0
frame_is l g x e = let z : x % 32 * 8 ≡ frame_of x = omega arith in z ∙ rw e (frames-at l g)

-- ---- dependencies

pub dep-name : (x : ℕ) → x < 256 → dep_at x ≡ name x
unfolding dep_at
dep-name x h = rw (lt-ltb x 256 h)

pub dep-constant : (x : ℕ) → 256 ≤ x → dep_at x ≡ con (x - 256)
unfolding dep_at
dep-constant x h = rw (le-ltb x 256 h)

-- the constant that a dependency byte from 8 on stands for
constant-byte : (x : ℕ) → 8 ≤ x → dep_at (x + 248) ≡ con (x - 8)
constant-byte x h = dep-constant (x + 248) (omega arith) ∙ ap con (omega arith)

module _ (frame x : ℕ) where
  pub sibling-name : frame ≤ 248 → x < 8 → dep_at (frame + x) ≡ sibling_of frame x
  unfolding sibling_of
  sibling-name l h = rw (lt-ltb x 8 h) (dep-name (frame + x) (omega arith))

  pub sibling-constant : 8 ≤ x → dep_at (x + 248) ≡ sibling_of frame x
  unfolding sibling_of
  sibling-constant h = rw (le-ltb x 8 h) (constant-byte x h)

module _ (names : List ℕ) (x : ℕ) where
  pub named-name : x < 8 → (v : ℕ) → v ≡ get_or names x 0 → v < 256 → dep_at v ≡ named_of names x
  unfolding named_of
  named-name h v e l = rw (lt-ltb x 8 h, ← e) (dep-name v l)

  pub named-constant : 8 ≤ x → dep_at (x + 248) ≡ named_of names x
  unfolding named_of
  named-constant h = rw (le-ltb x 8 h) (constant-byte x h)

pub same_numbers : (x y : ℕ) → same_dep (dep_at x) (dep_at y) ≡ eqb x y
unfolding same_dep
same_numbers x y =
    by_less x 256
    (λ h. by_less y 256 (λ l. rw (dep-name x h, dep-name y l))
    (λ l. rw (dep-name x h, dep-constant y l, ne_eqb x y (λ e. omega arith))))
    (λ h. by_less y 256 (λ l. rw (dep-constant x h, dep-name y l, ne_eqb x y (λ e. omega arith)))
    (λ l. rw (dep-constant x h, dep-constant y l)
    (by_equality x y (λ e. rw (eq-eqb x y e, eq-eqb (x - 256) (y - 256) (omega arith)))
    (λ n. rw (ne_eqb x y n, ne_eqb (x - 256) (y - 256) (λ e. n (omega arith)))))))

-- ---- the type of a word, by its kind

module _ (σ : ℕ → ℕ) (w : ℕ) where
  pub type-any : kind_of w ≡ 0 → rename σ (type_of w) ≡ any
  unfolding rename type_of
  type-any e = rw e

  pub type-ref : kind_of w ≡ 1 → rename σ (type_of w) ≡ ref (record_of w)
  unfolding rename type_of
  type-ref e = rw e

  pub type-maybe : kind_of w ≡ 2 → rename σ (type_of w) ≡ maybe (record_of w)
  unfolding rename type_of
  type-maybe e = rw e

  pub type-tagged : kind_of w ≡ 3 → rename σ (type_of w) ≡ tagged (rename_dep σ (dep_of (first_of w)))
  unfolding rename type_of
  type-tagged e = rw e

  pub type-present : kind_of w ≡ 4 → rename σ (type_of w) ≡ present (rename_dep σ (dep_of (first_of w)))
  unfolding rename type_of
  type-present e = rw e

  pub type-same : kind_of w ≡ 5 → rename σ (type_of w) ≡ same (rename_dep σ (dep_of (first_of w)))
  unfolding rename type_of
  type-same e = rw e

  pub type-span : (k : ℕ) → kind_of w ≡ k + 6 → rename σ (type_of w) ≡ span k (record_of w) (rename_dep σ (dep_of (first_of w))) (rename_dep σ (dep_of (second_of w)))
  unfolding rename type_of
  type-span k e = let z : kind_of w ≡ suc (suc (suc (suc (suc (suc k))))) = omega arith in rw z

-- one case for each kind
pub by_kind {ℓ} : {A : Type ℓ} (n : ℕ) → (n ≡ 0 → A) → (n ≡ 1 → A) → (n ≡ 2 → A) → (n ≡ 3 → A) → (n ≡ 4 → A) → (n ≡ 5 → A) → ((k : ℕ) → n ≡ k + 6 → A) → A
by_kind n f0 f1 f2 f3 f4 f5 f6 =
    by_less n 1 (λ h. f0 (omega arith))
    (λ l1. by_less n 2 (λ h. f1 (omega arith))
    (λ l2. by_less n 3 (λ h. f2 (omega arith))
    (λ l3. by_less n 4 (λ h. f3 (omega arith))
    (λ l4. by_less n 5 (λ h. f4 (omega arith))
    (λ l5. by_less n 6 (λ h. f5 (omega arith))
    (λ l6. f6 (n - 6) (omega arith)))))))

-- ---- lists of constants

pub some-both : (f : ℕ → Bool) (xs ys : List ℕ) → some f (xs ++ ys) ≡ some f xs or some f ys
unfolding some ◌or◌
some-both f [] ys = refl
some-both f (x ∷ xs) ys = by_test (f x) (λ e. rw e) (λ e. rw e (some-both f xs ys))

pub or-false : (b : Bool) → b or false ≡ b
unfolding ◌or◌
or-false true = refl
or-false false = refl

-- the constant that the number r is, held
module _ (r : ℕ) where
  pub held-name : r < 256 → constant_held (r - 255) ≡ []
  held-name h = let z : r - 255 ≡ 0 = omega arith in rw z

  pub held-constant : 256 ≤ r → constant_held (r - 255) ≡ (r - 256) ∷ []
  held-constant h = let z : r - 255 ≡ suc (r - 256) = omega arith in rw z

  pub some-constant : (f : ℕ → Bool) → 256 ≤ r → some f (constant_held (r - 255)) ≡ f (r - 256)
  unfolding some
  some-constant f h = rw (held-constant h) (or-false (f (r - 256)))

pub held-is : (n c : ℕ) → some (eqb c) (constant_held n) ≡ eqb n (suc c)
unfolding some ◌or◌
held-is zero c = sym (ne_eqb 0 (suc c) (λ e. omega arith))
held-is (suc d) c =
    by_equality c d (λ e. rw (eq-eqb c d e, eq-eqb (suc d) (suc c) (omega arith)))
    (λ n. rw (ne_eqb c d n, ne_eqb (suc d) (suc c) (λ e. n (omega arith))))

-- the constant that k holds, as a dependency, or x
module _ (k x : ℕ) where
  pub constant-or-none : k ≡ 0 → x ≡ constant_or k x
  constant-or-none e = rw e

  pub constant-or-held : (k ≡ 0 → ⊥) → k + 255 ≡ constant_or k x
  constant-or-held n = rw (ne_eqb k 0 n)

-- the one of the two that a test joins for the other
module _ (test r : ℕ) where
  pub partner-constant : r ≡ test / 512 → test % 512 ≡ partner_of test r
  unfolding partner_of
  partner-constant e = rw (eq-eqb r (test / 512) e)

  module _ (n : r ≡ test / 512 → ⊥) where
    pub partner-value : r ≡ test % 512 → test / 512 ≡ partner_of test r
    unfolding partner_of
    partner-value e = rw (ne_eqb r (test / 512) n, eq-eqb r (test % 512) e)

    pub partner-none : (r ≡ test % 512 → ⊥) → r ≡ partner_of test r
    unfolding partner_of
    partner-none m = rw (ne_eqb r (test / 512) n, ne_eqb r (test % 512) m)
