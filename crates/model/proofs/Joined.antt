-- Known equal through chains: the tests of Values decide the rules of card 13.
use mathlib.Core.Path.{◌≡◌, refl, sym, ap, ◌∙◌}
use mathlib.Core.Logic.{◌⊎◌, inl, inr}
use mathlib.Core.Bool.{true, false, false≢true}
use mathlib.Core.List.{List, []}
use Prim.Native.Nat.{ℕ, zero, suc, ◌≤◌}
use native.Mathlib.Omega.{arith}
use lib.Dec.{eqb}
use lib.ListN.{get_or}
use borrow.Author.Tests.{eqb-true, leb-true, eq-eqb, le-leb, ne_eqb}
use Rattle.model.specs.Question.{◌and◌}
use Rattle.model.specs.Types.{Dep, name, con, Ty, any, ref, maybe, tagged, present, same, span}
use Rattle.model.specs.Table.{Tables}
use Rattle.model.specs.Rules.{Constant, constant_itself, by_opcode_1, by_type_same, by_taken_11, by_equal, Equal, one_value, by_one_constant}
use Rattle.model.specs.Rules.{same_of, back, chain}
use Rattle.model.specs.Values.{Values, birthplace, typed, constant_held, same_dep, lead_by, lead, along, root, root_of, same_held, held_at}
use Rattle.model.specs.Values.{chain_constant, one_constant, alike, told, constants_joined, equal_joined}
use Rattle.model.proofs.Logic.{by_test, either, and-true, true-and, or-true, true-or, or-of-true}
use Rattle.model.proofs.Lists.{Member, member-left, member_right, member-split}
use Rattle.model.proofs.KnownValues.{option_of, held-is, is_held, known_of, told_is, Own, own_is, any-typed, Near}
use Rattle.model.proofs.Roots.{root-lead, root-along, root-still}

pub same-dep : (x y : Dep) → same_dep x y ≡ true → x ≡ y
unfolding same_dep
same-dep (name v) (name w) e = ap name (eqb-true v w e)
same-dep (name v) (con c) e = absurd (false≢true e)
same-dep (con c) (name w) e = absurd (false≢true e)
same-dep (con c) (con d) e = ap con (eqb-true c d e)

pub dep-same : (x : Dep) → same_dep x x ≡ true
unfolding same_dep
dep-same (name v) = eq-eqb v v refl
dep-same (con c) = eq-eqb c c refl

-- where nothing was tested
pub told-nothing : (vs : Values) (x : Dep) → vs.equal ≡ 0 → told vs x ≡ false
unfolding told ◌and◌
told-nothing vs x e = rw e

pub no_member : (c : ℕ) → Member c [] → ⊥
no_member c = elim [ ]

any_not_same : (d : Dep) → any ≡ same d → ⊥
any_not_same d e = let z : ◌≡◌ {A = ℕ} 0 1 = cc in omega arith

pub same-held : (ty : Ty) (c : ℕ) → same_held ty ≡ suc c → ty ≡ same (con c)
same-held any c e = absurd (omega arith)
same-held (ref t) c e = absurd (omega arith)
same-held (maybe t) c e = absurd (omega arith)
same-held (tagged d) c e = absurd (omega arith)
same-held (present d) c e = absurd (omega arith)
same-held (same (name v)) c e = absurd (omega arith)
same-held (same (con d)) c e = let z : d ≡ c = omega arith in ap {B = Ty} (λ (x : ℕ). same (con x)) z
same-held (span k t d f) c e = absurd (omega arith)

a-constant : (n : ℕ) → 1 ≤ n → (c : ℕ) × (n ≡ suc c)
a-constant zero h = absurd (omega arith)
a-constant (suc c) h = (c, refl)

module _ (𝒯 : Tables) (vs : Values) where
  -- ---- the tests as facts

  -- joined by chains of Same, or by the constant that these have
  Alike : Dep → Dep → Type 0
  Alike x y = (root_of vs x ≡ root_of vs y) ⊎ ((1 ≤ chain_constant vs x) × (chain_constant vs x ≡ chain_constant vs y))

  -- known equal to the value tested, or of its new constant
  AsTested : Dep → Type 0
  AsTested x = (1 ≤ vs.equal) × (Alike x (name vs.tested) ⊎ (chain_constant vs x ≡ vs.equal))

  Has : Dep → ℕ → Type 0
  Has x c = (chain_constant vs x ≡ suc c) ⊎ (AsTested x × ((chain_constant vs (name vs.tested) ≡ suc c) ⊎ (vs.equal ≡ suc c)))

  Joined : Dep → Dep → Type 0
  Joined x y = Alike x y ⊎ (AsTested x × AsTested y)

  alike-fact : (x y : Dep) → alike vs x y ≡ true → Alike x y
  unfolding alike one_constant Alike
  alike-fact x y e =
      either (or-true _ _ e) (λ p. inl (same-dep _ _ p)) (λ p. let (a, b) = and-true _ _ p in inr (leb-true _ _ a, eqb-true _ _ b))

  fact-alike : (x y : Dep) → Alike x y → alike vs x y ≡ true
  unfolding alike one_constant Alike
  fact-alike x y (inl e) = true-or _ _ (rw e (dep-same (root_of vs y)))
  fact-alike x y (inr (l, e)) = or-of-true _ _ (true-and _ _ (le-leb _ _ l) (eq-eqb _ _ e))

  told-fact : (x : Dep) → told vs x ≡ true → AsTested x
  unfolding told AsTested
  told-fact x e =
      let (a, b) = and-true _ _ e in
      (leb-true _ _ a, either (or-true _ _ b) (λ p. inl (alike-fact x _ p)) (λ p. inr (eqb-true _ _ p)))

  fact-told : (x : Dep) → AsTested x → told vs x ≡ true
  unfolding told AsTested
  fact-told x (l, f) =
      true-and _ _ (le-leb _ _ l) (either f (λ a. true-or _ _ (fact-alike x _ a)) (λ e. or-of-true _ _ (eq-eqb _ _ e)))

  joined-fact : (x y : Dep) → equal_joined vs x y ≡ true → Joined x y
  unfolding equal_joined Joined
  joined-fact x y e =
      either (or-true _ _ e) (λ p. inl (alike-fact x y p)) (λ p. let (a, b) = and-true _ _ p in inr (told-fact x a, told-fact y b))

  fact-joined : (x y : Dep) → Joined x y → equal_joined vs x y ≡ true
  unfolding equal_joined Joined
  fact-joined x y (inl a) = true-or _ _ (fact-alike x y a)
  fact-joined x y (inr (a, b)) = or-of-true _ _ (true-and _ _ (fact-told x a) (fact-told y b))

  -- the constants of x without the test, and those of the value tested
  abbrev alone : Dep → List ℕ
  alone x = constant_held (chain_constant vs x)

  has-fact : (x : Dep) (c : ℕ) → Member c (constants_joined vs x) → Has x c
  unfolding constants_joined Has
  has-fact x c m =
      either (member-split c (alone x) _ m) (λ h. inl (held-is _ c h))
      (λ h. by_test (told vs x)
      (λ q. inr (
        told-fact x q,
        either (member-split c (alone (name vs.tested)) (constant_held vs.equal) (rw q at h)) (λ k. inl (held-is _ c k)) (λ k. inr (held-is _ c k)),
      ))
      (λ q. absurd (no_member c (rw q at h))))

  fact-has : (x : Dep) (c : ℕ) → Has x c → Member c (constants_joined vs x)
  unfolding constants_joined Has
  fact-has x c (inl e) = member-left c (alone x) _ (is_held _ c e)
  fact-has x c (inr (t, f)) =
      member_right c (alone x) _
      (rw (fact-told x t)
      (either f (λ e. member-left c (alone (name vs.tested)) (constant_held vs.equal) (is_held _ c e))
      (λ e. member_right c (alone (name vs.tested)) (constant_held vs.equal) (is_held _ c e))))

  -- ---- from the facts to the rules

  abbrev Constantly : Dep → ℕ → Type 0
  Constantly x c = Constant 𝒯 (known_of vs) x c

  abbrev Equally : Dep → Dep → Type 0
  Equally x y = Equal 𝒯 (known_of vs) x y

  lead-equal : (v : ℕ) (ty : Ty) → typed vs v ≡ ty → Equally (name v) (name (lead_by v ty))
  lead-equal v any e = one_value
  lead-equal v (ref t) e = one_value
  lead-equal v (maybe t) e = one_value
  lead-equal v (tagged d) e = one_value
  lead-equal v (present d) e = one_value
  lead-equal v (same (name w)) e = by_test (eqb (birthplace w) (birthplace v)) (λ q. rw q (same_of e)) (λ q. rw q one_value)
  lead-equal v (same (con c)) e = one_value
  lead-equal v (span k t d f) e = one_value

  along-equal : (n v : ℕ) → Equally (name v) (name (along vs n v))
  unfolding along lead
  along-equal zero v = one_value
  along-equal (suc n) v = chain (lead-equal v (typed vs v) refl) (along-equal n (lead vs v))

  root-equal : (x : Dep) → Equally x (root_of vs x)
  root-equal (name v) = let (n, e) = root-along vs v in rw e (along-equal n v)
  root-equal (con c) = one_value

  held-known : (x : Dep) (c : ℕ) → held_at vs x ≡ suc c → Constantly x c
  held-known (name v) c e =
      by_test (eqb (get_or vs.words v 0) 0)
      (λ q. by_opcode_1 (rw q (ap option_of (rw q at e))))
      (λ q. by_type_same (same-held (typed vs v) c (rw q at e)))
  held-known (con d) c e = let z : d ≡ c = omega arith in rw z constant_itself

  chain-known : (x : Dep) (c : ℕ) → chain_constant vs x ≡ suc c → Constantly x c
  unfolding chain_constant
  chain-known x c e = by_equal (root-equal x) (held-known (root_of vs x) c e)

  alike-equal : (x y : Dep) → Alike x y → Equally x y
  unfolding Alike
  alike-equal x y (inl e) =
      let from-root : Equally (root_of vs x) y = rw e (back (root-equal y)) in
      chain (root-equal x) from-root
  alike-equal x y (inr (l, e)) =
      let (c, z) = a-constant (chain_constant vs x) l in
      by_one_constant (chain-known x c z) (chain-known y c (sym e ∙ z))

  tested-constant : (c : ℕ) → vs.equal ≡ suc c → Constantly (name vs.tested) c
  tested-constant c e = by_taken_11 {v = vs.tested} {c = c} (rw (eq-eqb vs.tested vs.tested refl, e) refl)

  told-constant : (x : Dep) (c : ℕ) → AsTested x → vs.equal ≡ suc c → Constantly x c
  unfolding AsTested
  told-constant x c (l, inl a) e = by_equal (alike-equal x _ a) (tested-constant c e)
  told-constant x c (l, inr o) e = chain-known x c (o ∙ e)

  told-equal : (x y : Dep) → AsTested x → AsTested y → Equally x y
  unfolding AsTested
  told-equal x y a b =
      let (c, z) = a-constant vs.equal a.0 in
      by_one_constant (told-constant x c a z) (told-constant y c b z)

  tested-itself : (x : Dep) → AsTested x → AsTested (name vs.tested)
  unfolding AsTested Alike
  tested-itself x t = (t.0, inl (inl refl))

  pub joined-equal : (x y : Dep) → equal_joined vs x y ≡ true → Equally x y
  unfolding Joined
  joined-equal x y e = either (joined-fact x y e) (λ a. alike-equal x y a) (λ (s, t). told-equal x y s t)

  pub joined-constant : (x : Dep) (c : ℕ) → Member c (constants_joined vs x) → Constantly x c
  unfolding Has
  joined-constant x c m =
      either (has-fact x c m) (λ e. chain-known x c e)
      (λ (t, f). either f (λ e. by_equal (told-equal x _ t (tested-itself x t)) (chain-known _ c e)) (λ e. told-constant x c t e))

  -- ---- what the facts have of the relation: it is symmetric and transitive, and constants follow it

  root-constant : (x y : Dep) → root_of vs x ≡ root_of vs y → chain_constant vs x ≡ chain_constant vs y
  unfolding chain_constant
  root-constant x y e = ap (held_at vs) e

  alike-constant : (x y : Dep) → Alike x y → chain_constant vs x ≡ chain_constant vs y
  unfolding Alike
  alike-constant x y (inl e) = root-constant x y e
  alike-constant x y (inr (l, e)) = e

  alike-back : (x y : Dep) → Alike x y → Alike y x
  unfolding Alike
  alike-back x y (inl e) = inl (sym e)
  alike-back x y (inr (l, e)) = inr (rw (← e) l, sym e)

  alike-chain : (x y z : Dep) → Alike x y → Alike y z → Alike x z
  unfolding Alike
  alike-chain x y z (inl e) (inl f) = inl (e ∙ f)
  alike-chain x y z (inl e) (inr (l, f)) = let p = root-constant x y e in inr (rw p l, p ∙ f)
  alike-chain x y z (inr (l, e)) (inl f) = inr (l, e ∙ root-constant y z f)
  alike-chain x y z (inr (l, e)) (inr (k, f)) = inr (l, e ∙ f)

  told-like : (x y : Dep) → Alike x y → AsTested x → AsTested y
  unfolding AsTested
  told-like x y a (l, inl t) = (l, inl (alike-chain y x _ (alike-back x y a) t))
  told-like x y a (l, inr e) = (l, inr (sym (alike-constant x y a) ∙ e))

  joined_back : (x y : Dep) → Joined x y → Joined y x
  unfolding Joined
  joined_back x y (inl a) = inl (alike-back x y a)
  joined_back x y (inr (s, t)) = inr (t, s)

  joined-chain : (x y z : Dep) → Joined x y → Joined y z → Joined x z
  unfolding Joined
  joined-chain x y z (inl a) (inl b) = inl (alike-chain x y z a b)
  joined-chain x y z (inl a) (inr (s, t)) = inr (told-like y x (alike-back x y a) s, t)
  joined-chain x y z (inr (s, t)) (inl b) = inr (s, told-like y z b t)
  joined-chain x y z (inr (s, t)) (inr (u, w)) = inr (s, w)

  has-like : (x y : Dep) (c : ℕ) → Joined x y → Has y c → Has x c
  unfolding Joined Has AsTested
  has-like x y c (inl a) (inl e) = inl (alike-constant x y a ∙ e)
  has-like x y c (inl a) (inr (t, f)) = inr (told-like y x (alike-back x y a) t, f)
  has-like x y c (inr (s, t)) (inl e) = inr (s, either t.1 (λ a. inl (sym (alike-constant y _ a) ∙ e)) (λ o. inr (sym o ∙ e)))
  has-like x y c (inr (s, t)) (inr (u, f)) = inr (s, f)

  has-joined : (x y : Dep) (c : ℕ) → Has x c → Has y c → Joined x y
  unfolding Joined Has AsTested Alike
  has-joined x y c (inl e) (inl f) = inl (inr (omega arith, e ∙ sym f))
  has-joined x y c (inl e) (inr (t, inl f)) = inr ((t.0, inl (inr (omega arith, e ∙ sym f))), t)
  has-joined x y c (inl e) (inr (t, inr f)) = inr ((t.0, inr (e ∙ sym f)), t)
  has-joined x y c (inr (s, inl e)) (inl f) = inr (s, (s.0, inl (inr (omega arith, f ∙ sym e))))
  has-joined x y c (inr (s, inr e)) (inl f) = inr (s, (s.0, inr (f ∙ sym e)))
  has-joined x y c (inr (s, e)) (inr (t, f)) = inr (s, t)

  alike-joined : (x y : Dep) → Alike x y → Joined x y
  unfolding Joined
  alike-joined x y a = inl a

  -- ---- from the rules to the tests

  -- a value that leads to itself has its own constant
  still-constant : (v : ℕ) → lead vs v ≡ v → chain_constant vs (name v) ≡ held_at vs (name v)
  unfolding chain_constant
  still-constant v e = ap (λ (x : ℕ). held_at vs (name x)) (root-still vs v e)

  lead-as : (v : ℕ) (ty : Ty) → typed vs v ≡ ty → lead vs v ≡ lead_by v ty
  unfolding lead
  lead-as v ty e = ap (lead_by v) e

  typed-constant : (v c : ℕ) → typed vs v ≡ same (con c) → chain_constant vs (name v) ≡ suc c
  typed-constant v c e =
      let full : get_or vs.words v 0 ≡ 0 → ⊥ = λ z. any_not_same (con c) (sym (any-typed vs v z) ∙ e) in
      still-constant v (lead-as v _ e) ∙ rw (ne_eqb _ 0 full, e)

  opcode-constant : (v c : ℕ) → Own vs v c → chain_constant vs (name v) ≡ suc c
  opcode-constant v c O = still-constant v (lead-as v _ (any-typed vs v O.word)) ∙ rw (eq-eqb _ 0 O.word) O.constant

  has-own : (x : Dep) (c : ℕ) → chain_constant vs x ≡ suc c → Has x c
  unfolding Has
  has-own x c e = inl e

  has-itself : (c : ℕ) → Has (con c) c
  unfolding chain_constant
  has-itself c = has-own (con c) c refl

  has-tested : (v c : ℕ) → v ≡ vs.tested → vs.equal ≡ suc c → Has (name v) c
  unfolding Has AsTested Alike
  has-tested v c h e = inr ((omega arith, inl (inl (rw h))), inr e)

  one_alike : (x : Dep) → Alike x x
  unfolding Alike
  one_alike x = inl refl

  module _ (near : Near vs) where
    same_alike : (v : ℕ) (y : Dep) → typed vs v ≡ same y → Alike (name v) y
    unfolding Alike chain_constant
    same_alike v (name w) e =
        let to : lead vs v ≡ w = lead-as v _ e ∙ rw (eq-eqb _ _ (near v w e)) in
        inl (ap name (sym (root-lead vs v) ∙ ap (root vs) to))
    same_alike v (con c) e = let z = typed-constant v c e in inr (omega arith, z)

    mutual
      constant-fact : {x : Dep} {c : ℕ} → Constantly x c → Has x c
      constant-fact (constant_itself {c = c}) = has-itself c
      constant-fact (by_opcode_1 {v = v} {c = c} e) = has-own (name v) c (opcode-constant v c (own_is vs v c e))
      constant-fact (by_type_same {v = v} {c = c} e) = has-own (name v) c (typed-constant v c e)
      constant-fact (by_taken_11 {v = v} {c = c} e) = let T = told_is vs v c e in has-tested v c T.value T.constant
      constant-fact (by_equal {x = x} {y = y} {c = c} E C) = has-like x y c (equal-fact E) (constant-fact C)

      equal-fact : {x y : Dep} → Equally x y → Joined x y
      equal-fact (one_value {x = x}) = alike-joined x x (one_alike x)
      equal-fact (by_one_constant {x = x} {y = y} {c = c} C D) = has-joined x y c (constant-fact C) (constant-fact D)
      equal-fact (same_of {v = v} {y = y} e) = alike-joined (name v) y (same_alike v y e)
      equal-fact (back {x = x} {y = y} E) = joined_back x y (equal-fact E)
      equal-fact (chain {x = x} {y = y} {z = z} E F) = joined-chain x y z (equal-fact E) (equal-fact F)

    pub constant-joined : (x : Dep) (c : ℕ) → Constantly x c → Member c (constants_joined vs x)
    constant-joined x c C = fact-has x c (constant-fact C)

    pub equal-joined : (x y : Dep) → Equally x y → equal_joined vs x y ≡ true
    equal-joined x y E = fact-joined x y (equal-fact E)
