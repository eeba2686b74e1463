-- What stands for a value, and what a test tells: known equal and known constants by the numbers that stand.
use mathlib.Core.Path.{◌≡◌, refl, sym, ap, ◌∙◌}
use mathlib.Core.Bool.{Bool, false}
use mathlib.Core.List.{[], ◌++◌}
use Prim.Native.Nat.{ℕ, zero, suc, ◌+◌, ◌-◌, ◌/◌, ◌%◌, ◌<◌}
use native.Mathlib.Omega.{arith}
use lib.Dec.{eqb}
use borrow.Author.Tests.{le-leb, eq-eqb, ne_eqb}
use Rattle.model.specs.Question.{◌and◌, ◌or◌, pick}
use Rattle.model.specs.Types.{Dep, name, con}
use Rattle.model.specs.Values.{Values, constant_held, some, same_dep, root_of, held_at, chain_constant, one_constant, alike, told}
use Rattle.model.specs.Values.{told_constants, constants_joined, equal_joined}
use Rattle.model.proofs.Logic.{by_test, by_equality, by_less}
use Rattle.model.proofs.Joined.{same-dep, dep-same, told-nothing}
use Rattle.known.specs.Numbers.{dep_at, constant_or, stand_by, stand, Paired, partner_in, partner_of}
use Rattle.known.proofs.Numbers.{dep-name, dep-constant, same_numbers, some-both, or-false}

-- ---- what stands for x

-- the constant that a dependency is, held
abbrev held : Dep → ℕ
held (name v) = 0
held (con c) = suc c

held_number : (r : ℕ) → held (dep_at r) ≡ r - 255
held_number r =
    by_less r 256 (λ h. let z : r - 255 ≡ 0 = omega arith in rw (dep-name r h) (sym z))
    (λ h. let z : r - 255 ≡ suc (r - 256) = omega arith in rw (dep-constant r h) (sym z))

stand-number : (k r : ℕ) → dep_at (constant_or k r) ≡ stand_by k (dep_at r)
stand-number zero r = refl
stand-number (suc c) r =
    let z : suc c + 255 - 256 ≡ c = omega arith in
    rw (ne_eqb (suc c) 0 (λ e. omega arith)) (dep-constant (suc c + 255) (omega arith) ∙ ap con z)

module _ (vs : Values) where
  -- r is the root of x, and k its constant
  pub stand_of : (x r k : ℕ) → dep_at r ≡ root_of vs (dep_at x) → k ≡ held_at vs (dep_at r) → dep_at (constant_or k r) ≡ stand vs (dep_at x)
  unfolding stand chain_constant
  stand_of x r k er ek = rw (← er, ← ek) (stand-number k r)

  stand-held : (k : ℕ) (d : Dep) → k ≡ held_at vs d → held (stand_by k d) ≡ k
  stand-held zero (name v) e = refl
  stand-held zero (con c) e = absurd (omega arith)
  stand-held (suc k) d e = refl

  stand-constant : (x : Dep) → held (stand vs x) ≡ chain_constant vs x
  unfolding stand chain_constant
  stand-constant x = stand-held (held_at vs (root_of vs x)) (root_of vs x) refl

  -- two roots apart, with their constants
  stand-apart : (k l : ℕ) (d e : Dep) → k ≡ held_at vs d → l ≡ held_at vs e → same_dep d e ≡ false → one_constant k l ≡ same_dep (stand_by k d) (stand_by l e)
  unfolding one_constant same_dep ◌and◌
  stand-apart zero zero d e ek el n = sym n
  stand-apart zero (suc l) (name v) e ek el n = refl
  stand-apart zero (suc l) (con c) e ek el n = absurd (omega arith)
  stand-apart (suc k) zero d (name w) ek el n = rw (le-leb 1 (suc k) (omega arith), ne_eqb (suc k) 0 (λ e. omega arith))
  stand-apart (suc k) zero d (con c) ek el n = absurd (omega arith)
  stand-apart (suc k) (suc l) d e ek el n =
      rw (le-leb 1 (suc k) (omega arith))
      (by_equality k l (λ q. rw (eq-eqb k l q, eq-eqb (suc k) (suc l) (omega arith)))
      (λ m. rw (ne_eqb k l m, ne_eqb (suc k) (suc l) (λ q. m (omega arith)))))

  stand-alike : (x y : Dep) → alike vs x y ≡ same_dep (stand vs x) (stand vs y)
  unfolding alike stand chain_constant ◌or◌
  stand-alike x y =
      let d = root_of vs x in
      let e = root_of vs y in
      by_test (same_dep d e)
      (λ q. let z = same-dep d e q in rw (q, z) (sym (dep-same (stand_by (held_at vs e) e))))
      (λ q. rw q (stand-apart (held_at vs d) (held_at vs e) d e refl refl q))

-- ---- what a test tells

pub paired-nothing : (vs : Values) → vs.equal ≡ 0 → Paired vs 0
paired-nothing vs e = (λ h. refl, λ h. absurd (omega arith))

module _ (vs : Values) (x : Dep) (r : ℕ) (er : dep_at r ≡ stand vs x) where
  pub constant_by : chain_constant vs x ≡ r - 255
  constant_by = sym (stand-constant vs x) ∙ rw (← er) (held_number r)

  alike-by : (y : Dep) (s : ℕ) → dep_at s ≡ stand vs y → alike vs x y ≡ eqb r s
  alike-by y s es = stand-alike vs x y ∙ rw (← er, ← es) (same_numbers r s)

  told-by : (a b : ℕ) → 0 < vs.equal → dep_at a ≡ stand vs (name vs.tested) → b ≡ vs.equal + 255 → told vs x ≡ eqb r a or eqb r b
  unfolding told ◌and◌
  told-by a b h ea eb =
      rw (le-leb 1 vs.equal h, alike-by (name vs.tested) a ea, constant_by)
      (ap (λ c. eqb r a or c)
      (by_equality r b (λ e. eq-eqb (r - 255) vs.equal (omega arith) ∙ sym (eq-eqb r b e))
      (λ n. ne_eqb (r - 255) vs.equal (λ z. n (omega arith)) ∙ sym (ne_eqb r b n))))

-- ---- known equal

-- two that a test joins: r and s are one, or both are of the two
partners : (a b r s : ℕ) → eqb r s or ((eqb r a or eqb r b) and (eqb s a or eqb s b)) ≡ eqb r s or eqb (partner_in a b r) s
unfolding ◌and◌ ◌or◌
partners a b r s =
    by_equality r s (λ e. rw (eq-eqb r s e))
    (λ n. by_equality r a
    (λ ea. by_equality s b (λ eb. rw (ne_eqb r s n, eq-eqb r a ea, ne_eqb s a (λ z. n (omega arith)), eq-eqb s b eb, eq-eqb b s (omega arith)))
    (λ nb. rw (ne_eqb r s n, eq-eqb r a ea, ne_eqb s a (λ z. n (omega arith)), ne_eqb s b nb, ne_eqb b s (λ z. nb (omega arith)))))
    (λ na. by_equality r b
    (λ eb. by_equality s a (λ ea. rw (ne_eqb r s n, ne_eqb r a na, eq-eqb r b eb, eq-eqb s a ea, eq-eqb a s (omega arith)))
    (λ nb. rw (ne_eqb r s n, ne_eqb r a na, eq-eqb r b eb, ne_eqb s a nb, ne_eqb s b (λ z. n (omega arith)), ne_eqb a s (λ z. nb (omega arith)))))
    (λ nb. rw (ne_eqb r s n, ne_eqb r a na, ne_eqb r b nb, ne_eqb r s n))))

-- r stands for x
module _ (vs : Values) (test : ℕ) (paired : Paired vs test) (x : Dep) (r : ℕ) (er : dep_at r ≡ stand vs x) where
  partner-untested : vs.equal ≡ 0 → partner_of test r ≡ r
  unfolding partner_of
  partner-untested e = let z = paired.0 e in rw z (by_equality r 0 (λ q. rw q) (λ n. rw (ne_eqb r 0 n)))

  told_is : 0 < vs.equal → told vs x ≡ eqb r (test / 512) or eqb r (test % 512)
  told_is h = let (ea, eb) = paired.1 h in told-by vs x r er (test / 512) (test % 512) h ea eb

  pub equal_by : (y : Dep) (s : ℕ) → dep_at s ≡ stand vs y → equal_joined vs x y ≡ eqb r s or eqb (partner_of test r) s
  unfolding equal_joined partner_of ◌and◌ ◌or◌
  equal_by y s es =
      by_equality vs.equal 0
      (λ e. rw (alike-by vs x r er y s es, told-nothing vs x e, partner-untested e) (by_test (eqb r s) (λ q. rw q) (λ q. rw q)))
      (λ n. let (ea, eb) = paired.1 (omega arith) in
      rw (alike-by vs x r er y s es, told_is (omega arith), told-by vs y s es (test / 512) (test % 512) (omega arith) ea eb)
      (partners (test / 512) (test % 512) r s))

-- ---- known constants

module _ (f : ℕ → Bool) where
  -- the constant that n is passes
  abbrev passes : ℕ → Bool
  passes n = some f (constant_held (n - 255))

  serving : (a b r : ℕ) → passes r or some f (pick (eqb r a or eqb r b) (constant_held (a - 255) ++ constant_held (b - 255)) [])
      ≡ passes r or passes (partner_in a b r)
  unfolding some ◌or◌
  serving a b r =
      by_equality r a
      (λ ea. rw (eq-eqb r a ea, some-both f (constant_held (a - 255)) (constant_held (b - 255)), ← ea) (by_test (passes r) (λ q. rw q) (λ q. rw q)))
      (λ na. by_equality r b
      (λ eb. rw (ne_eqb r a na, eq-eqb r b eb, some-both f (constant_held (a - 255)) (constant_held (b - 255)), ← eb)
      (by_test (passes r) (λ q. rw q) (λ q. rw q (or-false _))))
      (λ nb. rw (ne_eqb r a na, ne_eqb r b nb) (by_test (passes r) (λ q. rw q) (λ q. rw q))))

  -- r stands for x
  module _ (vs : Values) (test : ℕ) (paired : Paired vs test) (x : Dep) (r : ℕ) (er : dep_at r ≡ stand vs x) where
    pub passes-by : some f (constants_joined vs x) ≡ passes r or passes (partner_of test r)
    unfolding constants_joined partner_of some ◌or◌
    passes-by =
        some-both f (constant_held (chain_constant vs x)) (pick (told vs x) (told_constants vs) [])
        ∙ rw (constant_by vs x r er)
        (by_equality vs.equal 0
        (λ e. rw (told-nothing vs x e, partner-untested vs test paired x r er e) (by_test (passes r) (λ q. rw q) (λ q. rw q)))
        (λ n. let (ea, eb) = paired.1 (omega arith) in
        let z : vs.equal ≡ test % 512 - 255 = omega arith in
        rw (told_is vs test paired x r er (omega arith), constant_by vs (name vs.tested) (test / 512) ea, z)
        (serving (test / 512) (test % 512) r)))
