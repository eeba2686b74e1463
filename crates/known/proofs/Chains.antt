-- Chains of Same as the code follows them: a step, the steps that are left, and the root of a dependency.
use mathlib.Core.Path.{◌≡◌, sym, ◌∙◌}
use mathlib.Core.Bool.{true}
use Prim.Native.Nat.{ℕ, suc, ◌+◌, ◌-◌, ◌/◌, ◌<◌, ◌≤◌, min}
use native.Mathlib.Omega.{arith}
use lib.Dec.{ltb}
use lib.ListN.{get_or}
use borrow.Author.Tests.{lt-ltb, le-ltb, eq-eqb, ne_eqb}
use Rattle.model.specs.Question.{pick}
use Rattle.model.specs.Word.{kind_of, first_of}
use Rattle.model.specs.Types.{name, same}
use Rattle.model.specs.Values.{Values, birthplace, typed, lead_by, lead, along, least_along, root, root_of, alike}
use Rattle.model.proofs.Logic.{by_less, true-or}
use Rattle.model.proofs.Roots.{along-still, root-still, root-lead}
use Rattle.model.proofs.Joined.{dep-same}
use Rattle.known.specs.Numbers.{dep_at}
use Rattle.known.proofs.Numbers.{dep-name, dep-constant}
use Rattle.known.proofs.Numbers.{type-any, type-ref, type-maybe, type-tagged, type-present, type-same, type-span, by_kind}

-- ---- a step

module _ (vs : Values) (v : ℕ) where
  abbrev frame : ℕ → ℕ
  frame = λ i. get_or vs.frames (birthplace v) 0 + i

  abbrev word : ℕ
  word = get_or vs.words v 0

  pub lead-other : (kind_of word ≡ 5 → ⊥) → lead vs v ≡ v
  unfolding lead typed
  lead-other n =
      by_kind (kind_of word) (λ e. rw (type-any frame word e)) (λ e. rw (type-ref frame word e)) (λ e. rw (type-maybe frame word e))
      (λ e. rw (type-tagged frame word e)) (λ e. rw (type-present frame word e)) (λ e. absurd (n e)) (λ k e. rw (type-span frame word k e))

  -- v is Same of the name p, and f is the frame that it is read in
  module _ (k : kind_of word ≡ 5) (p : ℕ) (ep : p ≡ first_of word) (h : p < 8) (f : ℕ) (ef : f ≡ get_or vs.frames (birthplace v) 0) where
    leads : lead vs v ≡ lead_by v (same (name (f + p)))
    unfolding lead typed
    leads = rw (type-same frame word k, ← ep, lt-ltb p 8 h, ← ef)

    pub lead-away : ((f + p) / 8 ≡ v / 8 → ⊥) → v ≡ lead vs v
    lead-away n = sym (leads ∙ rw (ne_eqb ((f + p) / 8) (v / 8) n))

    pub lead_near : (f + p) / 8 ≡ v / 8 → f + p ≡ lead vs v
    lead_near e = sym (leads ∙ rw (eq-eqb ((f + p) / 8) (v / 8) e))

  -- v is Same of a constant
  pub lead-constant : kind_of word ≡ 5 → (p : ℕ) → p ≡ first_of word → 8 ≤ p → lead vs v ≡ v
  unfolding lead typed
  lead-constant k p ep h = rw (type-same frame word k, ← ep, le-ltb p 8 h)

-- ---- the steps that are left

-- of n steps i are done, which led to x, and the next leads to w
module _ (vs : Values) (n i x w : ℕ) (h : i < n) (ew : w ≡ lead vs x) where
  left : n - i ≡ suc (n - (i + 1))
  left = omega arith

  pub along-next : along vs (n - (i + 1)) w ≡ along vs (n - i) x
  unfolding along
  along-next = rw (left, ew)

  -- m is the least so far
  module _ (m : ℕ) where
    least-next : least_along vs (n - i) m x ≡ least_along vs (n - (i + 1)) (pick (ltb w m) w m) w
    unfolding least_along
    least-next = rw (left, ew)

    least-lower : w < m → (l : ℕ) → l ≡ w → least_along vs (n - (i + 1)) l w ≡ least_along vs (n - i) m x
    least-lower q l e = rw e (sym (least-next ∙ rw (lt-ltb w m q)))

    least_kept : m ≤ w → (l : ℕ) → l ≡ m → least_along vs (n - (i + 1)) l w ≡ least_along vs (n - i) m x
    least_kept q l e = rw e (sym (least-next ∙ rw (le-ltb w m q)))

    pub least_on : (l : ℕ) → l ≡ min m w → least_along vs (n - (i + 1)) l w ≡ least_along vs (n - i) m x
    least_on l e = by_less w m (λ h. least-lower h l (omega arith)) (λ h. least_kept h l (omega arith))

pub least-done : (vs : Values) (n : ℕ) → n ≡ 0 → (m x : ℕ) → m ≡ least_along vs n m x
unfolding least_along
least-done vs n e m x = rw e

-- ---- roots

-- n steps from x end where seven from v do
module _ (vs : Values) (v n x : ℕ) (e : along vs n x ≡ along vs 7 v) where
  -- x leads to itself
  pub root_ends : lead vs x ≡ x → x ≡ root vs v
  unfolding root
  root_ends s =
      let one : along vs 7 x ≡ along vs 7 v = along-still vs 7 x s ∙ sym (along-still vs n x s) ∙ e in
      sym (root-still vs x s) ∙ rw one

  pub root-circles : n ≡ 0 → least_along vs 7 x x ≡ root vs v
  unfolding root along
  root-circles z = let here : x ≡ along vs 7 v = rw z at e in rw here

-- the root of x
module _ (vs : Values) (x : ℕ) where
  pub root-constant : 256 ≤ x → dep_at x ≡ root_of vs (dep_at x)
  root-constant h = rw (dep-constant x h)

  module _ (h : x < 256) where
    pub root-itself : lead vs x ≡ x → dep_at x ≡ root_of vs (dep_at x)
    root-itself e = rw (dep-name x h, root-still vs x e)

    pub root-far : (r : ℕ) → r < 256 → r ≡ root vs x → dep_at r ≡ root_of vs (dep_at x)
    root-far r l e = rw (dep-name x h, ← e) (dep-name r l)

    -- x leads to y
    pub led-alike : (y : ℕ) → y ≡ lead vs x → y < 256 → alike vs (dep_at x) (dep_at y) ≡ true
    unfolding alike
    led-alike y e l = true-or _ _ (rw (dep-name x h, dep-name y l, e, root-lead vs x) (dep-same (name (root vs x))))
