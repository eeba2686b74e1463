-- A run is tested by one entry of the table of owners: its elements start one after the other up to the end that the entry holds.
use mathlib.Core.Path.{◌≡◌, refl, sym, ap, ◌∙◌}
use mathlib.Core.Bool.{Bool, true, false, false≢true}
use mathlib.Core.List.{List}
use Prim.Native.Nat.{ℕ, zero, suc, ◌+◌, ◌-◌, ◌*◌, ◌/◌, ◌%◌, ◌≤◌, ◌<◌}
use native.Mathlib.Nat.{div-add-mod', div-le_self, zero-mul}
use native.Mathlib.Omega.{arith}
use lib.Dec.{ltb, leb, eqb}
use borrow.Author.Tests.{lt-ltb, le-ltb, le-leb, lt-leb, eqb-true, leb-true, leb-false}
use Rattle.model.specs.Question.{◌and◌}
use Rattle.model.specs.Word.{difference}
use Rattle.model.specs.Table.{Tables, head_of, tables_of}
use Rattle.model.specs.Allocation.{is_allocated}
use Rattle.model.specs.MemoryCheck.{when_true, unless_true, starts_test, run_test}
use Rattle.model.proofs.Logic.{by_test, by_less, and_yes}
use Rattle.meaning.specs.declared.Meanings.{Meanings}
use Rattle.meaning.specs.Owners.{owner_at, starts_at, Owned}
use Rattle.meaning.specs.Means.{tables}

-- ---- the starts of a run

module _ (𝒯 : Tables) (allocations owners : List ℕ) (I : Owned 𝒯 allocations owners) (t : ℕ) where
  -- at the end of a run nothing is left to test
  starts_none : (n x e z : ℕ) → e ≡ x → starts_test 𝒯 allocations n x e z t ≡ true
  unfolding starts_test unless_true
  starts_none zero x e z h = le-leb e x (omega arith)
  starts_none (suc n) x e z h = rw (le-leb e x (omega arith))

  -- before it, the first element and what follows
  starts-no : (n x e z : ℕ) → x < e → is_allocated allocations x t ≡ false → starts_test 𝒯 allocations n x e z t ≡ false
  unfolding starts_test unless_true when_true
  starts-no zero x e z h a = lt-leb e x h
  starts-no (suc n) x e z h a = rw (lt-leb e x h, a)

  starts-next : (n x e z : ℕ) → x < e → is_allocated allocations x t ≡ true → starts_test 𝒯 allocations (suc n) x e z t ≡ starts_test 𝒯 allocations n (x + z) e z t
  unfolding starts_test unless_true when_true
  starts-next n x e z h a = rw (lt-leb e x h, a)

  -- k + 1 elements from x on
  starts-end : (k n x e : ℕ) → 1 ≤ 𝒯.size t → e ≡ x + suc k * 𝒯.size t → k < n → is_allocated allocations x t ≡ true
      → starts_test 𝒯 allocations n x e (𝒯.size t) t ≡ leb e (owner_at owners x % 65536)
  starts-end k zero x e s h l a = absurd (omega arith)
  starts-end zero (suc n) x e s h l a =
      let i : e ≡ x + 𝒯.size t = omega arith in
      starts-next n x e (𝒯.size t) (omega arith) a ∙ starts_none n (x + 𝒯.size t) e (𝒯.size t) i
      ∙ sym (le-leb e _ (omega (arith, I.reaches x t a)))
  starts-end (suc k) (suc n) x e s h l a =
      starts-next n x e (𝒯.size t) (omega arith) a
      ∙ by_test (is_allocated allocations (x + 𝒯.size t) t)
      (λ b. starts-end k n (x + 𝒯.size t) e s (omega arith) (omega arith) b ∙ ap (λ (o : ℕ). leb e (o % 65536)) (sym (I.goes_on x t a b)))
      (λ b. starts-no n (x + 𝒯.size t) e (𝒯.size t) (omega arith) b ∙ sym (lt-leb e _ (omega (arith, I.ends x t a b))))

  -- d < e, the size divides e - d, and d starts an element: the entry tells the rest
  whole_run : (d e : ℕ) → 1 ≤ 𝒯.size t → d < e → (e - d) % 𝒯.size t ≡ 0 → is_allocated allocations d t ≡ true
      → starts_test 𝒯 allocations (e - d) d e (𝒯.size t) t ≡ leb e (owner_at owners d % 65536)
  whole_run d e s h m a =
      by_test (leb 1 ((e - d) / 𝒯.size t))
      (λ q. let k = (e - d) / 𝒯.size t in
      let i : suc (k - 1) ≡ k = omega (arith, leb-true 1 k q) in
      starts-end (k - 1) (e - d) d e s (rw i (omega (arith, div-add-mod' (e - d) (𝒯.size t))))
      (omega (arith, div-le_self (e - d) (𝒯.size t), leb-true 1 k q)) a)
      (λ q. let j : (e - d) / 𝒯.size t ≡ 0 = omega (arith, leb-false 1 ((e - d) / 𝒯.size t) q) in
      absurd (omega (arith, div-add-mod' (e - d) (𝒯.size t), ap (λ (n : ℕ). n * 𝒯.size t) j, zero-mul (𝒯.size t))))

-- ---- tests in a row, each put after a yes

pub and-goes-on : (a b : Bool) → a ≡ true → b ≡ a and b
and-goes-on a b h = sym (and_yes a b h)

pub and-stops : (a b : Bool) → a ≡ false → a ≡ a and b
unfolding ◌and◌
and-stops true b h = absurd (false≢true (sym h))
and-stops false b h = refl

-- ---- the answer to 'is it a run?'

in_order : (a b : Bool) → b and a ≡ (a and true) and b
unfolding ◌and◌
in_order true true = refl
in_order true false = refl
in_order false true = refl
in_order false false = refl

none : (a b : Bool) → false ≡ (a and false) and b
unfolding ◌and◌
none true b = refl
none false b = refl

-- records of type t start one after the other from d up to e
abbrev pub reached : Meanings → ℕ → ℕ → ℕ → Bool
reached m t d e = starts_at m.owners.now d t and leb e (owner_at m.owners.now d % 65536)

module _ (m : Meanings) (t d e p : ℕ) (some : 1 ≤ head_of m.types.now t) where
  abbrev size : ℕ
  size = head_of m.types.now t

  starts_reached : d < e → (e - d) % size ≡ 0 → starts_test (tables m) m.allocations.now (e - d) d e size t ≡ reached m t d e
  unfolding tables_of ◌and◌
  starts_reached l h =
      by_test (starts_at m.owners.now d t)
      (λ s. rw s (whole_run (tables m) m.allocations.now m.owners.now m.owned t d e some l h (m.owned.starts d t ∙ s)))
      (λ s. rw s (starts-no (tables m) m.allocations.now m.owners.now m.owned t (e - d) d e size l (m.owned.starts d t ∙ s)))

  pub run_is : run_test (tables m) m.allocations.now t d e p
      ≡ ((ltb d e and reached m t d e) and eqb ((e - d) % size) 0) and eqb (difference p d % size) 0
  unfolding run_test tables_of ◌and◌
  run_is =
      by_less d e
      (λ l. rw (lt-ltb d e l) (
      by_test (eqb ((e - d) % size) 0)
      (λ h. rw (h, starts_reached l (eqb-true _ 0 h)) (in_order (reached m t d e) _))
      (λ h. rw h (none (reached m t d e) _))))
      (λ l. rw (le-ltb d e l))
