-- Chains of Same: where they lead, that they end or come to a circle within seven steps, and that a root stands for all that they join.
use mathlib.Core.Path.{◌≡◌, refl, sym, ap, ◌∙◌}
use mathlib.Core.Logic.{◌⊎◌, inl, inr}
use Prim.Native.Nat.{ℕ, zero, suc, ◌+◌, ◌-◌, ◌%◌, ◌≤◌, ◌<◌}
use native.Mathlib.Omega.{arith}
use lib.Dec.{ltb, eqb}
use borrow.Author.Tests.{eqb-true, ltb-true, ltb-false, eq-eqb, ne_eqb}
use Rattle.model.specs.Question.{pick}
use Rattle.model.specs.Types.{Ty, any, ref, maybe, tagged, present, same, span, name, con}
use Rattle.model.specs.Values.{Values, birthplace, typed, lead_by, lead, along, least_along, root}
use Rattle.model.proofs.Logic.{by_test, by_equality, by_less, either, pick_true, pick-false, pick-both}

-- ---- of n + 1 numbers below n two are one

record Twice (h : ℕ → ℕ) (n : ℕ) : Type 0 where
  first : ℕ
  second : ℕ
  order : first < second
  most : second ≤ n
  one : h first ≡ h second

-- a is among the first n numbers, or is none of them
among : (h : ℕ → ℕ) (a n : ℕ) → ((i : ℕ) × (i < n) × (h i ≡ a)) ⊎ ((i : ℕ) → i < n → h i ≡ a → ⊥)
among h a zero = inr (λ i l e. omega arith)
among h a (suc n) =
    by_equality (h n) a (λ e. inl (n, omega arith, e))
    (λ d. either (among h a n) (λ (i, l, e). inl (i, omega arith, e))
    (λ new. inr (λ i l e. by_equality i n (λ q. d (rw (← q) e)) (λ q. new i (omega arith) e))))

-- the last number is none of the others
abbrev New : (ℕ → ℕ) → ℕ → Type 0
New h n = (i : ℕ) → i < suc n → h i ≡ h (suc n) → ⊥

-- it can then stand in for n among them
instead : (ℕ → ℕ) → ℕ → ℕ → ℕ
instead h n k = pick (eqb (h k) n) (h (suc n)) (h k)

twice : (n : ℕ) (h : ℕ → ℕ) → ((k : ℕ) → k ≤ n → h k < n) → Twice h n
unfolding instead
twice zero h small = absurd (let z = small 0 (omega arith) in omega arith)
twice (suc n) h small =
    either (among h (h (suc n)) (suc n))
    (λ (i, l, e). record { first = i; second = suc n; order = l; most = omega arith; one = e })
    (λ new. let T = twice n (instead h n) (λ k l. below new k l) in
    record { first = T.first; second = T.second; order = T.order; most = omega (arith, T.most); one = same-before new T })
  where
    below : New h n → (k : ℕ) → k ≤ n → instead h n k < n
    below new k l =
        by_equality (h k) n
        (λ e. rw (eq-eqb (h k) n e)
        (let last = small (suc n) (omega arith) in
        let apart : h (suc n) ≡ n → ⊥ = λ q. new k (omega arith) (e ∙ sym q) in
        by_equality (h (suc n)) n (λ q. absurd (apart q)) (λ q. omega arith)))
        (λ d. rw (ne_eqb (h k) n d) (let here = small k (omega arith) in omega arith))

    same-before : New h n → (T : Twice (instead h n) n) → h T.first ≡ h T.second
    same-before new T =
        let i = T.first in
        let j = T.second in
        let o = T.order in
        let m = T.most in
        let e = T.one in
        by_equality (h i) n
        (λ p. by_equality (h j) n (λ q. p ∙ sym q)
        (λ q. absurd (new j (omega arith) (sym (rw (eq-eqb (h i) n p, ne_eqb (h j) n q) at e)))))
        (λ p. by_equality (h j) n
        (λ q. absurd (new i (omega arith) (rw (ne_eqb (h i) n p, eq-eqb (h j) n q) at e)))
        (λ q. rw (ne_eqb (h i) n p, ne_eqb (h j) n q) at e))

module _ (vs : Values) where
  -- ---- steps

  lead_near : (v : ℕ) (ty : Ty) → birthplace (lead_by v ty) ≡ birthplace v
  lead_near v any = refl
  lead_near v (ref t) = refl
  lead_near v (maybe t) = refl
  lead_near v (tagged d) = refl
  lead_near v (present d) = refl
  lead_near v (same (name w)) = pick-both (λ (x : ℕ). birthplace x ≡ birthplace v) (eqb (birthplace w) (birthplace v)) w v (λ q. eqb-true _ _ q) (λ q. refl)
  lead_near v (same (con c)) = refl
  lead_near v (span k t d e) = refl

  along-near : (n v : ℕ) → birthplace (along vs n v) ≡ birthplace v
  unfolding along lead
  along-near zero v = refl
  along-near (suc n) v = along-near n (lead vs v) ∙ lead_near v (typed vs v)

  -- n steps, then m more
  along-on : (n m v : ℕ) → along vs (n + m) v ≡ along vs m (along vs n v)
  unfolding along
  along-on zero m v = let z : zero + m ≡ m = omega arith in rw z
  along-on (suc n) m v = let z : suc n + m ≡ suc (n + m) = omega arith in rw z (along-on n m (lead vs v))

  -- so many steps as it takes
  along-as : (k n m v : ℕ) → k ≡ n + m → along vs k v ≡ along vs m (along vs n v)
  along-as k n m v e = rw e (along-on n m v)

  one-step : (v : ℕ) → along vs 1 v ≡ lead vs v
  unfolding along
  one-step v = refl

  -- a value that leads to itself
  pub along-still : (n v : ℕ) → lead vs v ≡ v → along vs n v ≡ v
  unfolding along
  along-still zero v e = refl
  along-still (suc n) v e = rw e (along-still n v e)

  -- ---- a circle

  record Circle (u : ℕ) : Type 0 where
    period : ℕ
    some-steps : 1 ≤ period
    few : period ≤ 8
    around : along vs period u ≡ u

  place : ℕ → ℕ → ℕ
  place v k = along vs k v % 8

  same_place : (v i j : ℕ) → place v i ≡ place v j → along vs i v ≡ along vs j v
  unfolding place
  same_place v i j e = let a = along-near i v in let b = along-near j v in omega arith

  -- seven steps come to a circle, if only that of a value which leads to itself
  circle : (v : ℕ) → Circle (along vs 7 v)
  circle v =
      let T = twice 8 (place v) (λ k l. unfold place in omega arith) in
      let i = T.first in
      let j = T.second in
      let o = T.order in
      let m = T.most in
      let e = same_place v i j T.one in
      record {
        period = j - i;
        some-steps = omega arith;
        few = omega arith;
        around = sym (along-on 7 (j - i) v) ∙ along-as (7 + (j - i)) j (7 - i) v (omega arith) ∙ ap (along vs (7 - i)) (sym e)
            ∙ sym (along-as 7 i (7 - i) v (omega arith));
      }

  -- ---- the least value on some steps

  abbrev lesser : ℕ → ℕ → ℕ
  lesser m w = pick (ltb w m) w m

  lesser-left : (m w : ℕ) → lesser m w ≤ m
  lesser-left m w = by_test (ltb w m) (λ q. rw q (let l = ltb-true w m q in omega arith)) (λ q. rw q (omega arith))

  lesser-right : (m w : ℕ) → lesser m w ≤ w
  lesser-right m w = by_test (ltb w m) (λ q. rw q (omega arith)) (λ q. rw q (let l = ltb-false w m q in omega arith))

  least-most : (n m v : ℕ) → least_along vs n m v ≤ m
  unfolding least_along
  least-most zero m v = omega arith
  least-most (suc n) m v = omega (arith, least-most n (lesser m (lead vs v)) (lead vs v), lesser-left m (lead vs v))

  least-below : (n m v k : ℕ) → k < n → least_along vs n m v ≤ along vs (suc k) v
  unfolding least_along along
  least-below zero m v k l = absurd (omega arith)
  least-below (suc n) m v zero l = omega (arith, least-most n (lesser m (lead vs v)) (lead vs v), lesser-right m (lead vs v))
  least-below (suc n) m v (suc k) l = least-below n (lesser m (lead vs v)) (lead vs v) k (omega arith)

  -- the least is m, or the value that some of the steps lead to
  LeastOf : ℕ → ℕ → ℕ → ℕ → Type 0
  LeastOf n m v x = (x ≡ m) ⊎ ((k : ℕ) × (k < n) × (x ≡ along vs (suc k) v))

  least-is : (n m v : ℕ) → LeastOf n m v (least_along vs n m v)
  unfolding least_along along LeastOf
  least-is zero m v = inl refl
  least-is (suc n) m v =
      let w = lead vs v in
      either (least-is n (lesser m w) w)
      (λ e. by_test (ltb w m) (λ q. inr (0, omega arith, e ∙ pick_true _ w m q)) (λ q. inl (e ∙ pick-false _ w m q)))
      (λ (k, l, e). inr (suc k, omega arith, e))

  least_on : ℕ → ℕ
  least_on u = least_along vs 7 u u

  least_on-most : (u k : ℕ) → k ≤ 7 → least_on u ≤ along vs k u
  unfolding least_on along
  least_on-most u zero l = least-most 7 u u
  least_on-most u (suc k) l = least-below 7 u u k (omega arith)

  on-least : (u : ℕ) → (k : ℕ) × (k ≤ 7) × (least_on u ≡ along vs k u)
  unfolding least_on LeastOf along
  on-least u = either (least-is 7 u u) (λ e. (0, omega arith, e)) (λ (k, l, e). (suc k, omega arith, e))

  -- on a circle the least value is the same, wherever one starts
  least-around : (u : ℕ) → Circle u → least_on (lead vs u) ≡ least_on u
  unfolding along
  least-around u C =
      let (k, l, e) = on-least u in
      let (j, m, f) = on-least (lead vs u) in
      let up : least_on u ≤ along vs (suc j) u =
      by_less j 7 (λ h. least_on-most u (suc j) (omega arith))
      (λ h. let z : suc j ≡ C.period + (8 - C.period) = let a = C.few in omega arith in
      rw (along-as (suc j) C.period (8 - C.period) u z, C.around) (least_on-most u (8 - C.period) (let a = C.some-steps in omega arith))) in
      let down : least_on (lead vs u) ≤ along vs k u =
      by_equality k 0
      (λ h. let a = C.some-steps in
      let b = C.few in
      let here : along vs k u ≡ along vs (C.period - 1) (lead vs u) = rw h (sym C.around ∙ along-as C.period 1 (C.period - 1) u (omega arith)) in
      rw here (least_on-most (lead vs u) (C.period - 1) (omega arith)))
      (λ h. rw (along-as k 1 (k - 1) u (omega arith)) (least_on-most (lead vs u) (k - 1) (omega arith))) in
      omega arith

  -- ---- roots

  -- a value and the one that it leads to have one root
  pub root-lead : (v : ℕ) → root vs (lead vs v) ≡ root vs v
  unfolding root least_on along
  root-lead v =
      let on : along vs 7 (lead vs v) ≡ lead vs (along vs 7 v) = sym (along-as 8 1 7 v refl) ∙ along-as 8 7 1 v refl in
      rw on (least-around (along vs 7 v) (circle v))

  -- the root is where some steps lead
  pub root-along : (v : ℕ) → (n : ℕ) × (root vs v ≡ along vs n v)
  unfolding root least_on
  root-along v = let (k, l, e) = on-least (along vs 7 v) in (7 + k, e ∙ sym (along-on 7 k v))

  -- a value that leads to itself is its own root
  pub root-still : (v : ℕ) → lead vs v ≡ v → root vs v ≡ v
  unfolding root least_on
  root-still v e =
      let (k, l, f) = on-least (along vs 7 v) in
      f ∙ ap (along vs k) (along-still 7 v e) ∙ along-still k v e
