-- The values of a block, and what is known of them: types, known constants, known equal.
use Rattle.std.specs.Prelude.{Bool, false, List, [], ◌∷◌, ◌++◌, ℕ, zero, suc, ◌+◌, ◌/◌, ltb, leb, eqb, get_or}
use Rattle.model.specs.Question.{◌and◌, ◌or◌, pick}
use Rattle.model.specs.Types.{Dep, name, con, Ty, any, ref, maybe, tagged, present, same, span, type_of, rename}

-- ---- values

-- How much is known equal: through chains, as document 02, card 13, has it; or apart, as document 01 had it, which is kept to compare.
pub data Knowledge : Type 0 where
  joined : Knowledge
  apart : Knowledge

-- A value has a name. Names 0 to 7 are the registers' values at entry. The instruction at offset j of the block has the eight
-- names from 8 * suc j on: suc j is their birthplace. Birthplace 0 is the entry. A value keeps its type for good. Its type word
-- is read with the value frame + i for the name i, where frame belongs to the birthplace. A constant c is held as suc c, so that
-- 0 is none. After a taken opcode 11 the value tested has one more constant.
pub record Values : Type 0 where
  pub words : List ℕ
  pub frames : List ℕ
  pub constants : List ℕ
  pub tested : ℕ
  pub equal : ℕ
  pub knowledge : Knowledge

abbrev pub birthplace : ℕ → ℕ
birthplace v = v / 8

-- the type of a value, over values
unfoldable pub typed : Values → ℕ → Ty
typed vs v = rename (λ i. get_or vs.frames (birthplace v) 0 + i) (type_of (get_or vs.words v 0))

-- ---- constants

abbrev pub constant_held : ℕ → List ℕ
constant_held zero = []
constant_held (suc c) = c ∷ []

-- some constant passes
unfoldable pub some : (ℕ → Bool) → List ℕ → Bool
some f [] = false
some f (c ∷ cs) = f c or some f cs

-- 01: 'opcode 1 gives a value with known constant c, type Any'
abbrev pub own_constant : Values → ℕ → ℕ
own_constant vs v = pick (eqb (get_or vs.words v 0) 0) (get_or vs.constants (birthplace v) 0) 0

-- 01: 'A value of type Same with a constant has that known constant', held
abbrev pub same_held : Ty → ℕ
same_held any = 0
same_held (ref t) = 0
same_held (maybe t) = 0
same_held (tagged d) = 0
same_held (present d) = 0
same_held (same (name v)) = 0
same_held (same (con c)) = suc c
same_held (span k t d e) = 0

unfoldable pub same_dep : Dep → Dep → Bool
same_dep (name v) (name w) = eqb v w
same_dep (name v) (con c) = false
same_dep (con c) (name w) = false
same_dep (con c) (con d) = eqb c d

-- ---- 02, card 13: 'Known equal becomes the least relation with the three cases of 01 that is also symmetric and transitive, and a value
-- known equal to one with a known constant has that constant; where it then has two, either serves'. That relation is in Rules; these
-- tests decide it.

-- A Same leads from a value to another of the eight born with it. A value of another type leads to itself.
abbrev pub lead_by : ℕ → Ty → ℕ
lead_by v any = v
lead_by v (ref t) = v
lead_by v (maybe t) = v
lead_by v (tagged d) = v
lead_by v (present d) = v
lead_by v (same (name w)) = pick (eqb (birthplace w) (birthplace v)) w v
lead_by v (same (con c)) = v
lead_by v (span k t d e) = v

unfoldable pub lead : Values → ℕ → ℕ
lead vs v = lead_by v (typed vs v)

-- the value that n steps lead to
unfoldable pub along : Values → ℕ → ℕ → ℕ
along vs zero v = v
along vs (suc n) v = along vs n (lead vs v)

-- the least of m and of the values on the next n steps
unfoldable pub least_along : Values → ℕ → ℕ → ℕ → ℕ
least_along vs zero m v = m
least_along vs (suc n) m v = let w = lead vs v in least_along vs n (pick (ltb w m) w m) w

-- The value that stands for all that chains of Same join with v. Seven steps among eight values end where the chain ends, or on a circle
-- of Same, of which the least value stands for all.
unfoldable pub root : Values → ℕ → ℕ
root vs v = let u = along vs 7 v in least_along vs 7 u u

abbrev pub root_of : Values → Dep → Dep
root_of vs (name v) = name (root vs v)
root_of vs (con c) = con c

-- the constant that a value has by opcode 1 or by its own type, held
abbrev pub held_at : Values → Dep → ℕ
held_at vs (name v) = pick (eqb (get_or vs.words v 0) 0) (get_or vs.constants (birthplace v) 0) (same_held (typed vs v))
held_at vs (con c) = suc c

-- the constant of all that chains of Same join with x, held
unfoldable pub chain_constant : Values → Dep → ℕ
chain_constant vs x = held_at vs (root_of vs x)

-- k and l hold one constant
unfoldable pub one_constant : ℕ → ℕ → Bool
one_constant k l = leb 1 k and eqb k l

-- joined by chains of Same, or by the constant that these have
unfoldable pub alike : Values → Dep → Dep → Bool
alike vs x y = same_dep (root_of vs x) (root_of vs y) or one_constant (chain_constant vs x) (chain_constant vs y)

-- 01: 'Opcode 11 taken: ra is known to be the constant': x is known equal to ra, or has that constant without it
unfoldable pub told : Values → Dep → Bool
told vs x = leb 1 vs.equal and (alike vs x (name vs.tested) or eqb (chain_constant vs x) vs.equal)

-- the constants that ra then has
abbrev pub told_constants : Values → List ℕ
told_constants vs = constant_held (chain_constant vs (name vs.tested)) ++ constant_held vs.equal

unfoldable pub constants_joined : Values → Dep → List ℕ
constants_joined vs x = constant_held (chain_constant vs x) ++ pick (told vs x) (told_constants vs) []

unfoldable pub equal_joined : Values → Dep → Dep → Bool
equal_joined vs x y = alike vs x y or (told vs x and told vs y)

-- ---- document 01 alone, before card 13

-- 01: 'Opcode 11 taken: ra is known to be the constant'
unfoldable pub constants_apart : Values → Dep → List ℕ
constants_apart vs (name v) =
    constant_held (own_constant vs v) ++ constant_held (same_held (typed vs v)) ++ constant_held (pick (eqb v vs.tested) vs.equal 0)
constants_apart vs (con c) = c ∷ []

unfoldable pub is_same : Ty → Dep → Bool
is_same any y = false
is_same (ref t) y = false
is_same (maybe t) y = false
is_same (tagged d) y = false
is_same (present d) y = false
is_same (same d) y = same_dep d y
is_same (span k t d e) y = false

unfoldable pub says_same : Values → Dep → Dep → Bool
says_same vs (name v) y = is_same (typed vs v) y
says_same vs (con c) y = false

-- 01: 'Two values are known equal if they are one value, have the same known constant, or one has type Same of the other'
unfoldable pub equal_apart : Values → Dep → Dep → Bool
equal_apart vs x y =
    same_dep x y
    or some (λ c. some (eqb c) (constants_apart vs y)) (constants_apart vs x)
    or says_same vs x y
    or says_same vs y x

-- ---- what is known

abbrev pub by_knowledge : {A : Type 0} → Knowledge → A → A → A
by_knowledge joined j a = j
by_knowledge apart j a = a

-- the known constants of a value
unfoldable pub constants_of : Values → Dep → List ℕ
constants_of vs x = by_knowledge vs.knowledge (constants_joined vs x) (constants_apart vs x)

-- two values are known equal
unfoldable pub known_equal : Values → Dep → Dep → Bool
known_equal vs x y = by_knowledge vs.knowledge (equal_joined vs x y) (equal_apart vs x y)
