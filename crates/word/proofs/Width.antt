-- Facts on words of n bits, for any n.
use Rattle.std.proofs.Common.{◌≡◌, ℕ, ◌+◌, ◌-◌, ◌*◌, ◌%◌, ◌^◌, ◌<◌, ◌≤◌, ap, ◌∙◌, lt_of_le_of_lt, le_of_lt, mul-le-mul_right, mod-lt, mod-eq_of_lt, arith, pow_pos, pow-add}
use native.Mathlib.Nat.{mul-lt-mul_of_pos_left, mod-add-mod, add-mod_right}

back : (x y m : ℕ) → y ≤ m → x + (m - y) + y ≡ x + m
back x y m h = omega arith

module _ (n : ℕ) where
  -- a product of two words fits twice the width
  pub product-fits : {x y : ℕ} → x < 2 ^ n → y < 2 ^ n → x * y < 2 ^ (n + n)
  product-fits {x} {y} hx hy =
      rw (pow-add 2 n n) (lt_of_le_of_lt (mul-le-mul_right y (le_of_lt hx)) (mul-lt-mul_of_pos_left hy (pow_pos n)))

  -- what is kept of a sum, difference or product is a word
  pub kept-fits : (x : ℕ) → x % 2 ^ n < 2 ^ n
  kept-fits x = mod-lt x (pow_pos n)

  -- the difference of x and y, added to y, is x
  pub difference-undone : {x y : ℕ} → x < 2 ^ n → y ≤ 2 ^ n → ((x + (2 ^ n - y)) % 2 ^ n + y) % 2 ^ n ≡ x
  difference-undone {x} {y} hx hy =
      mod-add-mod (x + (2 ^ n - y)) (2 ^ n) y
      ∙ ap (λ (m : ℕ). m % 2 ^ n) (back x y (2 ^ n) hy)
      ∙ add-mod_right x (2 ^ n)
      ∙ mod-eq_of_lt hx
