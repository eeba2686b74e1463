-- Digits that are put down from the last to the first, in front of those that stand already.
use mathlib.Core.Path.{◌≡◌, refl, sym, ap, ◌∙◌}
use mathlib.Core.List.{List, [], ◌∷◌, ◌++◌, append_assoc}
use Prim.Native.Nat.{ℕ, zero, suc, ◌+◌, ◌-◌, ◌/◌, ◌%◌, ◌≤◌, ◌<◌}
use native.Mathlib.Numerals.{unary_clauses}
use native.Mathlib.Omega.{arith}
use lib.ListN.{length, drop, set, length-set}
use lib.Seq.{drop-set-lt, drop-cons, get_or-set_same}
use Rattle.protocol.specs.Text.{last_digit}
use Rattle.output.specs.Digits.{last_digits}

-- a digit that is set stands before those after it
front : (out : List ℕ) (m d : ℕ) → m < length out → drop m (set out m d) ≡ d ∷ drop (suc m) out
front out m d h =
    let h' : m < length (set out m d) = rw length-set h in
    drop-cons (set out m d) m 0 h' ∙ rw (get_or-set_same out m d 0 h, drop-set-lt (suc m) out m d (omega arith))

-- one more digit is set
pub set-digit : (out : List ℕ) (rest at : ℕ) → 0 < at → at ≤ length out
    → last_digits at rest ++ drop at out ≡ last_digits (at - 1) (rest / 10) ++ drop (at - 1) (set out (at - 1) (48 + rest % 10))
unfolding last_digits
set-digit out rest zero some room = absurd (omega arith)
set-digit out rest (suc m) some room =
    simp unary_clauses
    (append_assoc (last_digits m (rest / 10)) (last_digit rest ∷ []) (drop (suc m) out)
    ∙ ap (λ l. last_digits m (rest / 10) ++ l) (sym (front out m (last_digit rest) room)))

-- all digits are set
pub all-set : (out : List ℕ) (rest at : ℕ) → at ≤ 0 → last_digits at rest ++ drop at out ≡ out
unfolding last_digits
all-set out rest zero none = refl
all-set out rest (suc m) none = absurd (omega arith)
