-- One law for each way out of a function.
use mathlib.Core.Path.{◌≡◌, refl, sym, ◌∙◌}
use mathlib.Core.Bool.{Bool, true, false}
use mathlib.Core.List.{List, [], ◌++◌}
use Prim.Native.Nat.{ℕ, suc, ◌+◌, ◌-◌, ◌*◌, ◌/◌, ◌%◌, ◌<◌, ◌≤◌}
use native.Mathlib.Omega.{arith}
use lib.Dec.{eqb}
use lib.ListN.{length, get_or}
use borrow.Author.Tests.{lt-ltb, le-ltb, le-leb, lt-leb, eq-eqb, ne_eqb}
use Rattle.model.specs.Question.{◌and◌, ◌or◌}
use Rattle.model.specs.Word.{kind_of, first_of}
use Rattle.model.specs.Types.{type_of, rename}
use Rattle.model.specs.Table.{Tables, tables_of}
use Rattle.model.specs.Values.{Values, birthplace, typed, constant_held, some, root_of, same_held, held_at, chain_constant, one_constant, alike}
use Rattle.model.specs.Values.{constants_joined, equal_joined, constants_of, known_equal}
use Rattle.model.specs.Reading.{tag_of, beyond, known_zero, first_tag}
use Rattle.std.specs.Prelude.{Option}
use Rattle.std.specs.Prelude.{Some, None}
use Rattle.model.proofs.Logic.{by_test, by_equality, or-of-true, true-and}
use Rattle.model.proofs.Joined.{dep-same, told-nothing}
use Rattle.known.specs.declared.Values.{Values as Held}
use Rattle.known.specs.Numbers.{values_of, dep_at, stand, Paired, partner_of, serves_as_tag}
use Rattle.known.proofs.Numbers.{dep-name, dep-constant, or-false, held-is, held-name, held-constant, some-constant}
use Rattle.known.proofs.Numbers.{type-any, type-ref, type-maybe, type-tagged, type-present, type-same, type-span, by_kind}
use Rattle.known.proofs.Stands.{constant_by, equal_by, passes-by}

-- ---- known constants

module _ (w : ℕ) (σ : ℕ → ℕ) where
  pub constant-other : (kind_of w ≡ 5 → ⊥) → 0 ≡ same_held (rename σ (type_of w))
  constant-other n =
      by_kind (kind_of w) (λ e. rw (type-any σ w e)) (λ e. rw (type-ref σ w e)) (λ e. rw (type-maybe σ w e)) (λ e. rw (type-tagged σ w e))
      (λ e. rw (type-present σ w e)) (λ e. absurd (n e)) (λ k e. rw (type-span σ w k e))

  module _ (e : kind_of w ≡ 5) (x : ℕ) (ex : x ≡ first_of w) where
    pub constant-named : x < 8 → 0 ≡ same_held (rename σ (type_of w))
    constant-named h = rw (type-same σ w e, ← ex, lt-ltb x 8 h)

    pub constant-same : 8 ≤ x → x - 7 ≡ same_held (rename σ (type_of w))
    constant-same h = let z : x - 7 ≡ suc (x - 8) = omega arith in rw (type-same σ w e, ← ex, le-ltb x 8 h) z

-- the constant that x has by itself
module _ (vs : Values) (x : ℕ) where
  pub constant_itself : 256 ≤ x → x - 255 ≡ held_at vs (dep_at x)
  constant_itself h = let z : x - 255 ≡ suc (x - 256) = omega arith in rw (dep-constant x h) z

  module _ (h : x < 256) where
    pub constant-any : get_or vs.words x 0 ≡ 0 → get_or vs.constants (x / 8) 0 ≡ held_at vs (dep_at x)
    constant-any e = rw (dep-name x h, eq-eqb (get_or vs.words x 0) 0 e)

    pub constant-typed : (get_or vs.words x 0 ≡ 0 → ⊥) → (s : ℕ)
        → ((σ : ℕ → ℕ) → s ≡ same_held (rename σ (type_of (get_or vs.words x 0)))) → s ≡ held_at vs (dep_at x)
    unfolding typed
    constant-typed n s es = rw (dep-name x h, ne_eqb (get_or vs.words x 0) 0 n) (es (λ i. get_or vs.frames (birthplace x) 0 + i))

-- x is its own root
constant-root : (vs : Values) (x : ℕ) → dep_at x ≡ root_of vs (dep_at x) → (k : ℕ) → k ≡ held_at vs (dep_at x) → k ≡ chain_constant vs (dep_at x)
unfolding chain_constant
constant-root vs x ex k ek = rw (← ex) ek

-- ---- known equal

module _ (held : Held) (tested equal x y : ℕ) where
  abbrev vs : Values
  vs = values_of held tested equal

  abbrev equal-xy : Bool
  equal-xy = known_equal vs (dep_at x) (dep_at y)

  pub equal-one : x ≡ y → true ≡ equal-xy
  unfolding known_equal equal_joined alike ◌or◌
  equal-one e = rw (e, dep-same (root_of vs (dep_at y)))

  pub equal-alike : alike vs (dep_at x) (dep_at y) ≡ true → true ≡ equal-xy
  unfolding known_equal equal_joined ◌or◌
  equal-alike e = rw e

  -- k and l are the constants that x and y have by themselves
  pub equal-constants : (k l : ℕ) → k ≡ held_at vs (dep_at x) → dep_at x ≡ root_of vs (dep_at x) → l ≡ held_at vs (dep_at y) → dep_at y ≡ root_of vs (dep_at y)
      → 0 < k → k ≡ l → true ≡ equal-xy
  unfolding alike one_constant
  equal-constants k l ek rx el ry h e =
      equal-alike (or-of-true _ _ (rw (← constant-root vs x rx k ek, ← constant-root vs y ry l el) (true-and _ _ (le-leb 1 k h) (eq-eqb k l e))))

  -- r and s stand for x and y
  module _ (test : ℕ) (paired : Paired vs test) (r s : ℕ) (er : dep_at r ≡ stand vs (dep_at x)) (es : dep_at s ≡ stand vs (dep_at y)) where
    pub equal-stand : r ≡ s → true ≡ equal-xy
    unfolding known_equal ◌or◌
    equal-stand e = sym (equal_by vs test paired (dep_at x) r er (dep_at y) s es ∙ rw (eq-eqb r s e))

    pub equal-partner : (r ≡ s → ⊥) → (p : ℕ) → p ≡ partner_of test r → eqb p s ≡ equal-xy
    unfolding known_equal ◌or◌
    equal-partner n p ep = sym (equal_by vs test paired (dep_at x) r er (dep_at y) s es ∙ rw (ne_eqb r s n, ← ep))

-- ---- what a test tells

-- q stands for the value tested
pub test-pairs : (vs : Values) (t q : ℕ) → dep_at q ≡ stand vs (dep_at vs.tested) → vs.tested < 256 → 0 < vs.equal → vs.equal ≤ 256
    → t ≡ q * 512 + (vs.equal + 255) → Paired vs t
test-pairs vs t q eq v h b et =
    let value : t / 512 ≡ q = omega arith in
    let constant : t % 512 ≡ vs.equal + 255 = omega arith in (
      λ e. absurd (omega arith),
      λ _. (rw (value, ← dep-name vs.tested v) eq, constant),
    )

-- ---- tags

module _ (types tags : List ℕ) (past : Bool) (r t : ℕ) where
  abbrev 𝒯 : Tables
  𝒯 = tables_of types tags

  abbrev serves : ℕ → Bool
  serves = serves_as_tag past 𝒯 t

  pub tag-none : r < 256 → false ≡ some serves (constant_held (r - 255))
  unfolding some
  tag-none h = rw (held-name r h)

  module _ (h : 256 ≤ r) where
    pub tag-past : length tags ≤ r - 256 → past ≡ some serves (constant_held (r - 255))
    unfolding tag_of beyond tables_of ◌and◌ ◌or◌
    tag-past l =
        sym (some-constant r serves h
        ∙ by_test past (λ q. rw (q, le-ltb (r - 256) (length tags) l, le-leb (length tags) (r - 256) l))
        (λ q. rw (q, le-ltb (r - 256) (length tags) l)))

    pub tag_is : r - 256 < length tags → eqb (get_or tags (r - 256) 0) t ≡ some serves (constant_held (r - 255))
    unfolding tag_of beyond tables_of ◌and◌
    tag_is l =
        sym (some-constant r serves h
        ∙ by_test past (λ q. rw (q, lt-ltb (r - 256) (length tags) l, lt-leb (length tags) (r - 256) l) (or-false _))
        (λ q. rw (q, lt-ltb (r - 256) (length tags) l)))

-- r stands for x: whether some known constant of x passes a test
module _ (held : Held) (tested equal x : ℕ) (f : ℕ → Bool) where
  abbrev us : Values
  us = values_of held tested equal

  abbrev passing : Bool
  passing = some f (constants_of us (dep_at x))

  module _ (test : ℕ) (paired : Paired us test) (r : ℕ) (er : dep_at r ≡ stand us (dep_at x)) where
    pub passes-stand : some f (constant_held (r - 255)) ≡ true → true ≡ passing
    unfolding constants_of ◌or◌
    passes-stand e = sym (passes-by f us test paired (dep_at x) r er ∙ rw e)

    pub passes-partner : some f (constant_held (r - 255)) ≡ false → (p : ℕ) → p ≡ partner_of test r
        → (b : Bool) → b ≡ some f (constant_held (p - 255)) → b ≡ passing
    unfolding constants_of ◌or◌
    passes-partner n p ep b eb = eb ∙ sym (passes-by f us test paired (dep_at x) r er ∙ rw (n, ← ep))

-- known 0 is a test of the constants of a value
pub zero-known : (𝒯 : Tables) (vs : Values) (x : ℕ) → x < 256 → (b : Bool) → b ≡ some (eqb 0) (constants_of vs (dep_at x)) → b ≡ known_zero 𝒯 vs x
unfolding known_zero
zero-known 𝒯 vs x h b eb = rw (← dep-name x h) eb

pub zero_held : (r : ℕ) → eqb r 256 ≡ some (eqb 0) (constant_held (r - 255))
zero_held r =
    sym (held-is (r - 255) 0
    ∙ by_equality r 256 (λ e. rw e) (λ n. ne_eqb (r - 255) 1 (λ e. n (omega arith)) ∙ sym (ne_eqb r 256 n)))

-- ---- the type that a tag names

-- nothing was tested, and r stands for x
module _ (types tags : List ℕ) (held : Held) (x r : ℕ) (er : dep_at r ≡ stand (values_of held 0 0) (dep_at x)) where
  abbrev untested : Values
  untested = values_of held 0 0

  abbrev named : (Option ℕ)
  named = first_tag (tables_of types tags) (constants_of untested (dep_at x))

  alone : constants_of untested (dep_at x) ≡ constant_held (r - 255) ++ []
  unfolding constants_of constants_joined
  alone = rw (constant_by untested (dep_at x) r er, told-nothing untested (dep_at x) refl)

  pub type-none : r < 256 → None ≡ named
  unfolding first_tag
  type-none h = rw (alone, held-name r h)

  module _ (h : 256 ≤ r) where
    pub type-past : length tags ≤ r - 256 → None ≡ named
    unfolding first_tag tables_of
    type-past l = rw (alone, held-constant r h, le-ltb (r - 256) (length tags) l)

    pub type-of-tag : r - 256 < length tags → Some (get_or tags (r - 256) 0) ≡ named
    unfolding first_tag tables_of
    type-of-tag l = rw (alone, held-constant r h, lt-ltb (r - 256) (length tags) l)
