-- Numbers in decimal: how many digits they have, that these are digits, and that they read back.
use mathlib.Core.Bool.{Bool, true, false}
use mathlib.Core.Path.{◌≡◌, refl, ap, ◌∙◌}
use mathlib.Core.List.{List, [], ◌∷◌, ◌++◌}
use Prim.Native.Nat.{ℕ, zero, suc, ◌+◌, ◌*◌, ◌-◌, ◌/◌, ◌%◌, ◌^◌, ◌≤◌, ◌<◌}
use native.Mathlib.Nat.{pow-suc, one-le-pow}
use native.Mathlib.Omega.{arith}
use lib.Dec.{ltb, leb}
use lib.ListN.{length, length-append}
use borrow.Author.Tests.{lt-ltb, le-ltb, le-leb, ltb-true, ltb-false}
use Rattle.model.specs.Question.{pick}
use Rattle.protocol.specs.Text.{decimal, digits_within, last_digit}
use Rattle.output.specs.Digits.{last_digits, value_after, value_of, all_from, all_digits, printable}

-- ---- one turn of the definition

-- a number has one digit, or more
split : {P : Type 0} (n : ℕ) (b : Bool) → ltb n 10 ≡ b → (n < 10 → P) → (10 ≤ n → P) → P
split n true e one more = one (ltb-true n 10 e)
split n false e one more = more (ltb-false n 10 e)

by_digits : {P : Type 0} (n : ℕ) → (n < 10 → P) → (10 ≤ n → P) → P
by_digits n = split n (ltb n 10) refl

module _ (k n : ℕ) where
  -- a number below ten is its only digit
  one-digit : n < 10 → digits_within (suc k) n ≡ last_digit n ∷ []
  unfolding digits_within
  one-digit h = rw (lt-ltb n 10 h)

  -- any other number is the digits of its tenth, and its last digit
  more-digits : 10 ≤ n → digits_within (suc k) n ≡ digits_within k (n / 10) ++ (last_digit n ∷ [])
  unfolding digits_within
  more-digits h = rw (le-ltb n 10 h)

-- ---- how many digits

-- one more digit is one more byte
length-snoc : (xs : List ℕ) (x : ℕ) → length (xs ++ (x ∷ [])) ≡ length xs + 1
length-snoc xs x = length-append xs (x ∷ [])

pub length_last : (k n : ℕ) → length (last_digits k n) ≡ k
unfolding last_digits
length_last zero n = refl
length_last (suc k) n = omega (arith, length-snoc (last_digits k (n / 10)) (last_digit n), length_last k (n / 10))

length-within : (f n : ℕ) → length (digits_within f n) ≤ f
unfolding digits_within
length-within zero n = omega arith
length-within (suc f) n =
    by_digits n
    (λ one. rw (one-digit f n one) (omega arith))
    (λ more. rw (more-digits f n more) (omega (arith, length-snoc (digits_within f (n / 10)) (last_digit n), length-within f (n / 10))))

-- no number has more than twenty digits
pub decimal-length : (n : ℕ) → length (decimal n) ≤ 20
decimal-length n = length-within 20 n

length-below : (k f n : ℕ) → n < 10 ^ suc k → length (digits_within f n) ≤ suc k
unfolding digits_within
length-below k zero n h = omega arith
length-below zero (suc f) n h = rw (one-digit f n h) (omega arith)
length-below (suc k) (suc f) n h =
    let p : 10 ^ suc (suc k) ≡ 10 ^ suc k * 10 = pow-suc 10 (suc k) in
    by_digits n
    (λ one. rw (one-digit f n one) (omega arith))
    (λ more.
    rw (more-digits f n more)
    (omega (arith, length-snoc (digits_within f (n / 10)) (last_digit n), length-below k f (n / 10) (omega arith))))

-- a word has no more than ten
pub word-length : (n : ℕ) → n < 2 ^ 32 → length (decimal n) ≤ 10
word-length n h = length-below 9 20 n (omega arith)

-- ---- the fewest digits that hold a number are its digits

within-is : (k f n : ℕ) → k < f → n < 10 ^ suc k → (0 < k → 10 ^ suc k ≤ n * 10) → digits_within f n ≡ last_digits (suc k) n
unfolding last_digits
within-is k zero n room below fewest = absurd (omega arith)
within-is zero (suc f) n room below fewest = one-digit f n below
within-is (suc k) (suc f) n room below fewest =
    let p : 10 ^ suc (suc k) ≡ 10 ^ suc k * 10 = pow-suc 10 (suc k) in
    let q : 10 ^ suc k ≡ 10 ^ k * 10 = pow-suc 10 k in
    let positive : 0 < 10 ^ k = one-le-pow k 10 (omega arith) in
    let enough : 10 ^ suc (suc k) ≤ n * 10 = fewest (omega arith) in
    more-digits f n (omega arith)
    ∙ ap (λ l. l ++ (last_digit n ∷ [])) (within-is k f (n / 10) (omega arith) (omega arith) (λ _. omega arith))

pub decimal-is : (k n : ℕ) → 1 ≤ k → k ≤ 20 → n < 10 ^ k → (1 < k → 10 ^ k ≤ n * 10) → decimal n ≡ last_digits k n
decimal-is zero n some room below fewest = absurd (omega arith)
decimal-is (suc k) n some room below fewest = within-is k 20 n (omega arith) below (λ h. fewest (omega arith))

-- ---- what is printed of a number reads back as the number

value-cut : (v : ℕ) (xs ys : List ℕ) → value_after v (xs ++ ys) ≡ value_after (value_after v xs) ys
unfolding value_after
value-cut v [] ys = refl
value-cut v (x ∷ xs) ys = value-cut (v * 10 + (x - 48)) xs ys

value-digit : (v n : ℕ) → value_after v (last_digit n ∷ []) ≡ v * 10 + n % 10
unfolding value_after
value-digit v n = omega arith

within-reads : (f n : ℕ) → n < 10 ^ f → value_of (digits_within f n) ≡ n
unfolding digits_within value_after
within-reads zero n h = omega arith
within-reads (suc f) n h =
    let p : 10 ^ suc f ≡ 10 ^ f * 10 = pow-suc 10 f in
    by_digits n
    (λ one. rw (one-digit f n one) (omega arith))
    (λ more.
    rw (more-digits f n more, value-cut 0 (digits_within f (n / 10)) (last_digit n ∷ []), within-reads f (n / 10) (omega arith))
    (omega (arith, value-digit (n / 10) n)))

pub read_back : (n : ℕ) → n < 2 ^ 64 → value_of (decimal n) ≡ n
read_back n h = within-reads 20 n (omega arith)

-- ---- digits are digits

-- both tests and then the rest
both : (a b : Bool) {x y : Bool} → (x ≡ true → y ≡ true) → pick a (pick b x false) false ≡ true → pick a (pick b y false) false ≡ true
both true true f e = f e
both true false f e = e
both false b f e = e

module _ (low high : ℕ) where
  pub all_append : (xs ys : List ℕ) → all_from low high xs ≡ true → all_from low high ys ≡ true → all_from low high (xs ++ ys) ≡ true
  unfolding all_from
  all_append [] ys x y = y
  all_append (b ∷ bs) ys x y = both (leb low b) (leb b high) (λ h. all_append bs ys h y) x

  pub all-digit : (n : ℕ) → low ≤ 48 → 57 ≤ high → all_from low high (last_digit n ∷ []) ≡ true
  unfolding all_from
  all-digit n l h = rw (le-leb low (last_digit n) (omega arith), le-leb (last_digit n) high (omega arith))

  within_all : (f n : ℕ) → low ≤ 48 → 57 ≤ high → all_from low high (digits_within f n) ≡ true
  unfolding digits_within all_from
  within_all zero n l h = refl
  within_all (suc f) n l h =
      by_digits n
      (λ one. rw (one-digit f n one) (all-digit n l h))
      (λ more. rw (more-digits f n more) (all_append (digits_within f (n / 10)) (last_digit n ∷ []) (within_all f (n / 10) l h) (all-digit n l h)))

pub decimal-digits : (n : ℕ) → all_digits (decimal n) ≡ true
decimal-digits n = within_all 48 57 20 n (omega arith) (omega arith)

pub decimal-printable : (n : ℕ) → printable (decimal n) ≡ true
decimal-printable n = within_all 32 126 20 n (omega arith) (omega arith)
