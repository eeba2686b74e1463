-- Laws of counts.
use mathlib.Core.Path.{◌≡◌}
use Prim.Native.Nat.{ℕ, ◌+◌}
use native.Mathlib.Omega.{arith}

pub none_more : {n m k : ℕ} → n ≡ m → 0 ≡ k → n ≡ m + k
none_more e z = omega arith
