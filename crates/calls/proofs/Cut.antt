-- Laws of the parts that are cut from the pool of words.
use Rattle.std.proofs.Common.{◌≡◌, ℕ, zero, suc, ◌-◌, ◌≤◌, List, [], ◌∷◌, slice_index_or as get_or, take, drop, refl, sym, ap, arith}
use native.Mathlib.Nat.{sub-eq-zero_of_le}
use Rattle.protocol.specs.Said.{slice, cuts}

-- ---- a part

slice_empty : (from to : ℕ) (xs : List ℕ) → to ≤ from → [] ≡ slice from to xs
slice_empty from to xs h = sym (ap (λ (k : ℕ). take k (drop from xs)) (sub-eq-zero_of_le h))

-- part i goes from the end before it to its own
pub cut_at : (from : ℕ) (ends xs : List ℕ) (i : ℕ) → slice (get_or (from ∷ ends) i 0) (get_or ends i 0) xs ≡ get_or (cuts from ends xs) i []
cut_at from [] xs i = sym (slice_empty (get_or (from ∷ []) i 0) 0 xs (omega arith))
cut_at from (to ∷ ends) xs zero = refl
cut_at from (to ∷ ends) xs (suc i) = cut_at to ends xs i

pub one-before : (x : ℕ) (ends : List ℕ) (i : ℕ) → (i ≡ 0 → ⊥) → get_or ends (i - 1) 0 ≡ get_or (x ∷ ends) i 0
one-before x ends zero h = absurd (h refl)
one-before x ends (suc i) h = ap (λ (k : ℕ). get_or ends k 0) (omega arith)
