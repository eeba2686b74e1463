-- Names: letters that begin one, and the place of one.
use mathlib.Core.Bool.{false}
use mathlib.Core.Path.{◌≡◌, refl}
use Prim.Native.Nat.{ℕ, zero, suc, ◌-◌, ◌/◌, ◌<◌, ◌≤◌}
use native.Mathlib.Omega.{arith}
use lib.Dec.{ltb}
use borrow.Author.Tests.{eq-eqb, ne_eqb}
use Rattle.grammar.specs.Grammar.{begins}

pub begins-yes : (k n c : ℕ) → 0 < k → n ≡ c → ltb 0 c ≡ begins k n c
unfolding begins
begins-yes zero n c h e = absurd (omega arith)
begins-yes (suc k) n c h e = rw (eq-eqb _ _ e)

pub begins-on : (k n c : ℕ) → 0 < k → (n ≡ c → ⊥) → begins k n c ≡ begins (k - 1) (n / 256) c
unfolding begins
begins-on zero n c h e = absurd (omega arith)
begins-on (suc k) n c h e = let g : suc k - 1 ≡ k = omega arith in rw (ne_eqb _ _ e, g)

pub begins-end : (k n c : ℕ) → k ≤ 0 → false ≡ begins k n c
unfolding begins
begins-end zero n c h = refl
begins-end (suc k) n c h = absurd (omega arith)
