-- 'How a block is read' of 01, with cards 1, 2 and 13 of 02, by rules: values, what is known of them, the registers, the fields seen, the open record.
-- One rule for each sentence, in 01's order. Nothing of how the reading is represented: the tests of Check decide these rules.
use Rattle.std.specs.Prelude.{◌≡◌, ◌⊎◌, true, false, List, [], ◌∷◌, ℕ, zero, suc, ◌+◌, ◌*◌, ◌/◌, ◌%◌, ◌≤◌, ◌<◌, eqb, get_or, set, ℤ, pos, negsuc}
use Rattle.std.proofs.Math.Option.{Option, none, some}
use Rattle.model.specs.Question.{pick, Question, q7, q8, q9, q10, q11, q12, q13, q14, q15, q23, Refusal, refusal}
use Rattle.model.specs.Word.{signed}
use Rattle.model.specs.Types.{Dep, name, Ty, any, ref, maybe, tagged, present, span, type_of, rename}
use Rattle.model.specs.Table.{Tables, field_of, locked, Routine}
use Rattle.model.specs.Machine.{Plain, constant, copy, add, subtract, multiply, divide, move, load, store, End, halt, jump, if_equal, if_less}
use Rattle.model.specs.Machine.{Instruction, plain, end, malformed, instruction_at, targets_exist, Access, to_load, to_store}
use Rattle.model.specs.Rules.{Known, Equal, Fits}

-- ---- values

-- A value is named by where it comes from: 0 to 7 are the registers' values at entry, and the instruction at offset j of the block
-- makes up to eight values, one for each field of a record.
abbrev pub made : ℕ → ℕ → ℕ
made j i = 8 * suc j + i

abbrev pub eight_made : ℕ → List ℕ
eight_made j = made j 0 ∷ made j 1 ∷ made j 2 ∷ made j 3 ∷ made j 4 ∷ made j 5 ∷ made j 6 ∷ made j 7 ∷ []

-- ---- what holds before an instruction

-- What is known of values; the value that each register holds; for a value v the values of the fields of the record behind it,
-- where that record was loaded from or stored to through v since a store last closed; the value through which a record is open.
pub record BlockState : Type 0 where
  pub known : Known
  pub registers : List ℕ
  pub seen : ℕ → Option (List ℕ)
  pub through : Option ℕ

abbrev pub holds : BlockState → ℕ → ℕ
holds s r = get_or s.registers r 0

-- register a then holds v
abbrev pub holding : BlockState → ℕ → ℕ → BlockState
holding s a v = record { known = s.known; registers = set s.registers a v; seen = s.seen; through = s.through }

-- the values made at j are then known: value i of them has the type f i, and each the constant c, where there is one
abbrev pub knowing : ℕ → (ℕ → Ty) → Option ℕ → Known → Known
knowing j f c K =
    record {
      type = λ v. pick (eqb (v / 8) (suc j)) (f (v % 8)) (K.type v);
      constant = λ v. pick (eqb (v / 8) (suc j)) c (K.constant v);
      tested = K.tested;
    }

-- the first of the values made has a type, the others are not used
abbrev pub alone : Ty → ℕ → Ty
alone ty zero = ty
alone ty (suc i) = any

-- register a then holds a new value, the first of those made at j
abbrev pub giving : ℕ → BlockState → ℕ → Ty → Option ℕ → BlockState
giving j s a ty c =
    record {
      known = knowing j (alone ty) c s.known;
      registers = set s.registers a (made j 0);
      seen = s.seen;
      through = s.through;
    }

-- through v the fields are then seen to be these
abbrev pub seeing : ℕ → List ℕ → (ℕ → Option (List ℕ)) → ℕ → Option (List ℕ)
seeing v fields f w = pick (eqb w v) (some fields) (f w)

-- after a store that closes nothing is seen any more, and no record is open
abbrev pub closing : BlockState → BlockState
closing s = record { known = s.known; registers = s.registers; seen = λ v. none; through = none }

-- after a store that does not, the record is open through v
abbrev pub opening : BlockState → ℕ → List ℕ → BlockState
opening s v fields = record { known = s.known; registers = s.registers; seen = seeing v fields s.seen; through = some v }

-- 01: 'At entry each register holds its own value, typed by the annotation'
abbrev pub on_entry : List ℕ → BlockState
on_entry annotation =
    record {
      known = record { type = λ r. type_of (get_or annotation r 0); constant = λ v. none; tested = λ v. none };
      registers = 0 ∷ 1 ∷ 2 ∷ 3 ∷ 4 ∷ 5 ∷ 6 ∷ 7 ∷ [];
      seen = λ v. none;
      through = none;
    }

-- ---- instructions that end no block

-- 01: 'the size is 1, 2, 4 or 8'
pub data PowerOfTwo : ℕ → Type 0 where
  size_1 : PowerOfTwo 1
  size_2 : PowerOfTwo 2
  size_4 : PowerOfTwo 4
  size_8 : PowerOfTwo 8

-- z divides a signed number
abbrev pub Divides : ℕ → ℤ → Type 0
Divides z (pos n) = n % z ≡ 0
Divides z (negsuc n) = suc n % z ≡ 0

module _ (𝒯 : Tables) where
  -- each of n values fits its type word, read with the values for its names
  abbrev pub RowFits : Known → ℕ → List ℕ → List ℕ → Type 0
  RowFits K n row values = (i : ℕ) → i < n → Fits 𝒯 K (get_or values i 0) (rename (λ g. get_or values g 0) (type_of (get_or row i 0)))

  -- 01: 'on Run, From or In .. with the same T, d, e if the size is 1, 2, 4 or 8 and divides c', c signed
  pub record Moves (ty : Ty) (c t : ℕ) (d e : Dep) : Type 0 where
    pub rank : ℕ
    pub is : ty ≡ span rank t d e
    pub power : PowerOfTwo (𝒯.size t)
    pub divided : Divides (𝒯.size t) (signed c)

  -- 02, card 2: 'on In with c equal to the size', c signed
  pub record Walks (ty : Ty) (c t : ℕ) (d e : Dep) : Type 0 where
    pub is : ty ≡ span 2 t d e
    pub one_size : signed c ≡ pos (𝒯.size t)

  -- 02, card 2: 'the older rule', which is Moves, does not apply
  abbrev pub NoMove : Ty → ℕ → Type 0
  NoMove ty c = (t : ℕ) (d e : Dep) → Moves ty c t d e → ⊥

  -- 02, card 2: the rule that comes 'before the older rule', which is Walks, does not apply
  abbrev pub NoWalk : Ty → ℕ → Type 0
  NoWalk ty c = (t : ℕ) (d e : Dep) → Walks ty c t d e → ⊥

  -- 02, card 1: 'some fields readable and never written', of an access to field c of a record of type t
  pub data Permits (t c : ℕ) : Access → Type 0 where
    loads_any : Permits t c to_load
    stores_unlocked : locked 𝒯 t c ≡ false → Permits t c to_store

  -- Q10, Q11, Q23 and Q12. 01: 'A base holds a reference if it fits some Ref T'; 'c below the size'; 'No record open, or base the very value
  -- that opened it', of an access at offset c of the record of type t behind v
  pub record MayAccess (x : Access) (s : BlockState) (v c t : ℕ) : Type 0 where
    pub reference : Fits 𝒯 s.known v (ref t)
    pub below : c < 𝒯.size t
    pub permitted : Permits t c x
    pub touch : (s.through ≡ none) ⊎ (s.through ≡ some v)

  -- the fields of the record of type t behind v are then the values made at j, each typed with the others
  abbrev pub loading : ℕ → ℕ → ℕ → BlockState → BlockState
  loading j v t s =
      record {
        known = knowing j (λ i. rename (λ g. made j g) (field_of 𝒯 t i)) none s.known;
        registers = s.registers;
        seen = seeing v (eight_made j) s.seen;
        through = s.through;
      }

  -- The values of the fields of the record of type t behind v, and what holds once they are seen.
  pub data Sees (j v t : ℕ) (s : BlockState) : List ℕ → BlockState → Type 0 where
    -- 01: 'A load gives the field's value, typed with sibling values of the same moment'
    newly : s.seen v ≡ none → Sees j v t s (eight_made j) (loading j v t s)
    -- 01: 'Two loads of one field through one value give the same value unless a store closed between them'; 'While open, a load
    -- through the same value gives the stored value, or else the old one typed with the siblings from before the record opened'
    again : {fields : List ℕ} → s.seen v ≡ some fields → Sees j v t s fields s

  -- 01: 'the record closes if each field, stored or old, fits its type'
  abbrev pub Closes : Known → ℕ → List ℕ → Type 0
  Closes K t fields = RowFits K (𝒯.size t) (𝒯.words t) fields

  -- The instruction at offset j, which ends no block, obeys its rule, and what holds after it.
  pub data Reads (j : ℕ) (s : BlockState) : Plain → BlockState → Type 0 where
    -- 01: 'A copy is the same value'
    copies : {a b : ℕ} → Reads j s (copy a b) (holding s a (holds s b))
    -- 01: 'opcode 1 gives a value with known constant c, type Any'
    constants : {a c : ℕ} → Reads j s (constant a c) (giving j s a any (some c))
    -- 01: 'Other arithmetic gives a new Any value'
    adds : {a b c : ℕ} → Reads j s (add a b c) (giving j s a any none)
    subtracts : {a b c : ℕ} → Reads j s (subtract a b c) (giving j s a any none)
    multiplies : {a b c : ℕ} → Reads j s (multiply a b c) (giving j s a any none)
    divides : {a b c : ℕ} → Reads j s (divide a b c) (giving j s a any none)
    moves_any : {a b c : ℕ} → NoMove (s.known.type (holds s b)) c → NoWalk (s.known.type (holds s b)) c
        → Reads j s (move a b c) (giving j s a any none)
    -- 02, card 2: 'Opcode 7 on In with c equal to the size now gives From, before the older rule'
    moves_from : {a b c t : ℕ} {d e : Dep} → Walks (s.known.type (holds s b)) c t d e
        → Reads j s (move a b c) (giving j s a (span 1 t d e) none)
    -- 01: 'except: opcode 7 on Run, From or In gives Run with the same T, d, e if the size is 1, 2, 4 or 8 and divides c'
    moves_run : {a b c t : ℕ} {d e : Dep} → Moves (s.known.type (holds s b)) c t d e → NoWalk (s.known.type (holds s b)) c
        → Reads j s (move a b c) (giving j s a (span 0 t d e) none)
    -- 01: 'A load gives the field's value'
    loads : {a b c t : ℕ} {fields : List ℕ} {s' : BlockState} → MayAccess to_load s (holds s b) c t → Sees j (holds s b) t s fields s'
        → Reads j s (load a b c) (holding s' a (get_or fields c 0))
    -- 01: 'A store opens the record of its base'
    opens : {a b c t : ℕ} {fields : List ℕ} {s' : BlockState} → MayAccess to_store s (holds s b) c t → Sees j (holds s b) t s fields s'
        → (Closes s'.known t (set fields c (holds s a)) → ⊥)
        → Reads j s (store a b c) (opening s' (holds s b) (set fields c (holds s a)))
    -- 01: 'after each store the record closes if each field, stored or old, fits its type'
    closes : {a b c t : ℕ} {fields : List ℕ} {s' : BlockState} → MayAccess to_store s (holds s b) c t → Sees j (holds s b) t s fields s'
        → Closes s'.known t (set fields c (holds s a))
        → Reads j s (store a b c) (closing s')

  -- ---- what an edge tells

  -- 01: 'ra is known to be the constant; where ra then has two known constants, a fit holds if either serves'
  abbrev pub learning : Known → ℕ → ℕ → Known
  learning K v c = record { type = K.type; constant = K.constant; tested = λ w. pick (eqb w v) (some c) none }

  -- 01: 'Not taken with constant 0: Maybe becomes Ref, Tagged becomes Present'
  pub data NotZero (x : Ty) : Ty → Type 0 where
    maybe_to_ref : {t : ℕ} → x ≡ maybe t → NotZero x (ref t)
    tagged_to_present : {d : Dep} → x ≡ tagged d → NotZero x (present d)

  -- 01: 'Opcode 12 taken: From with rb known equal to e becomes In'
  pub data Below (K : Known) (w : ℕ) (x : Ty) : Ty → Type 0 where
    from_to_in : {t : ℕ} {d e : Dep} → x ≡ span 1 t d e → Equal 𝒯 K (name w) e → Below K w x (span 2 t d e)

  -- 01: 'Not taken: Run with rb known equal to d becomes From'
  pub data NotBelow (K : Known) (w : ℕ) (x : Ty) : Ty → Type 0 where
    run_to_from : {t : ℕ} {d e : Dep} → x ≡ span 0 t d e → Equal 𝒯 K (name w) d → NotBelow K w x (span 1 t d e)

  -- v then has the type ty
  abbrev pub becoming : Known → ℕ → Ty → Known
  becoming K v ty = record { type = λ w. pick (eqb w v) ty (K.type w); constant = K.constant; tested = K.tested }

  -- the type of v becomes what R says, or stays where R says nothing of it
  pub data Becomes (R : Ty → Ty → Type 0) (K : Known) (v : ℕ) : Known → Type 0 where
    becomes : {ty : Ty} → R (K.type v) ty → Becomes R K v (becoming K v ty)
    stays : ((ty : Ty) → R (K.type v) ty → ⊥) → Becomes R K v K

  -- what is known on the taken edge
  pub data Taken (s : BlockState) : End → Known → Type 0 where
    jumps : {t : ℕ} → Taken s (jump t) s.known
    is_equal : {x k t : ℕ} → Taken s (if_equal x k t) (learning s.known (holds s x) k)
    is_less : {x y t : ℕ} {K : Known} → Becomes (Below s.known (holds s y)) s.known (holds s x) K → Taken s (if_less x y t) K

  -- and on the untaken one
  pub data Untaken (s : BlockState) : End → Known → Type 0 where
    is_not_zero : {x t : ℕ} {K : Known} → Becomes NotZero s.known (holds s x) K → Untaken s (if_equal x 0 t) K
    not_equal : {x k t : ℕ} → (k ≡ 0 → ⊥) → Untaken s (if_equal x k t) s.known
    not_less : {x y t : ℕ} {K : Known} → Becomes (NotBelow s.known (holds s y)) s.known (holds s x) K → Untaken s (if_less x y t) K

-- ---- the questions, each with a yes

module _ (𝒯 : Tables) (P : Routine) where
  -- registers that hold these values meet the annotation of block b
  abbrev pub EdgeMeets : BlockState → Known → ℕ → Type 0
  EdgeMeets s K b = RowFits 𝒯 K 8 (P.annotation b) s.registers

  -- Q14 and Q15 of a block's end; b is the block after
  pub data EdgesMeet (b : ℕ) (s : BlockState) : End → Type 0 where
    halt_meets : EdgesMeet b s halt
    jump_meets : {t : ℕ} {K : Known} → Taken 𝒯 s (jump t) K → EdgeMeets s K t → EdgesMeet b s (jump t)
    equal_meets : {x k t : ℕ} {K L : Known} → Taken 𝒯 s (if_equal x k t) K → EdgeMeets s K t
        → Untaken 𝒯 s (if_equal x k t) L → EdgeMeets s L b → EdgesMeet b s (if_equal x k t)
    less_meets : {x y t : ℕ} {K L : Known} → Taken 𝒯 s (if_less x y t) K → EdgeMeets s K t
        → Untaken 𝒯 s (if_less x y t) L → EdgeMeets s L b → EdgesMeet b s (if_less x y t)

  -- Q7 to Q15 and Q23: the instruction at offset j of block b, before which s holds, obeys the rules
  pub data Obeys (b j : ℕ) (s : BlockState) : Instruction → Type 0 where
    in_block : {x : Plain} {s' : BlockState} → (suc j ≡ P.long b → ⊥) → Reads 𝒯 j s x s' → Obeys b j s (plain x)
    ends_block : {e : End} → suc j ≡ P.long b → targets_exist P.count b e ≡ true → s.through ≡ none → EdgesMeet (suc b) s e
        → Obeys b j s (end e)

  -- s holds before the instruction at offset j of block b, those before it having obeyed the rules
  pub data Reaches (b : ℕ) : ℕ → BlockState → Type 0 where
    enters : Reaches b 0 (on_entry (P.annotation b))
    reads_on : {j : ℕ} {x : Plain} {s s' : BlockState} → Reaches b j s → instruction_at P b j ≡ plain x → suc j < P.long b → Reads 𝒯 j s x s'
        → Reaches b (suc j) s'

  -- 01: 'The type given to a load or store is the T of the Ref T that Q10 found its base to fit there': t is given to an access through
  -- register r at offset j of block b
  pub record TypeGiven (b j r t : ℕ) : Type 0 where
    pub before : BlockState
    pub reached : Reaches b j before
    pub reference : Fits 𝒯 before.known (holds before r) (ref t)

  -- the instruction at offset j of block b obeys the rules, and so do those before it
  pub record ObeysAt (b j : ℕ) : Type 0 where
    pub before : BlockState
    pub reached : Reaches b j before
    pub obeys : Obeys b j before (instruction_at P b j)

-- ---- the questions, the first of them with a no

module _ (𝒯 : Tables) where
  -- the first of Q10, Q11, Q23 and Q12 that an access has a no to
  pub data AccessNo (s : BlockState) (v c : ℕ) : Access → Question → Type 0 where
    no_reference : {x : Access} → ((t : ℕ) → Fits 𝒯 s.known v (ref t) → ⊥) → AccessNo s v c x q10
    past_the_size : {x : Access} {t : ℕ} → Fits 𝒯 s.known v (ref t) → 𝒯.size t ≤ c → AccessNo s v c x q11
    -- 02, card 1: '23, a store to a locked field, asked after Q11 and before Q12'
    locked_field : {t : ℕ} → Fits 𝒯 s.known v (ref t) → c < 𝒯.size t → locked 𝒯 t c ≡ true → AccessNo s v c to_store q23
    another_open : {x : Access} {t : ℕ} → Fits 𝒯 s.known v (ref t) → c < 𝒯.size t → Permits 𝒯 t c x
        → (s.through ≡ none → ⊥) → (s.through ≡ some v → ⊥) → AccessNo s v c x q12

  -- the question that an instruction which ends no block has its first no to: only loads and stores are asked any
  pub data PlainNo (s : BlockState) : Plain → Question → Type 0 where
    load_no : {a b c : ℕ} {q : Question} → AccessNo s (holds s b) c to_load q → PlainNo s (load a b c) q
    store_no : {a b c : ℕ} {q : Question} → AccessNo s (holds s b) c to_store q → PlainNo s (store a b c) q

module _ (𝒯 : Tables) (P : Routine) where
  -- the first of Q14 and Q15 that a block's end has a no to
  pub data EdgesNo (b : ℕ) (s : BlockState) : End → Question → Type 0 where
    jump_no : {t : ℕ} {K : Known} → Taken 𝒯 s (jump t) K → (EdgeMeets 𝒯 P s K t → ⊥) → EdgesNo b s (jump t) q14
    equal_no : {x k t : ℕ} {K : Known} → Taken 𝒯 s (if_equal x k t) K → (EdgeMeets 𝒯 P s K t → ⊥) → EdgesNo b s (if_equal x k t) q14
    not_equal_no : {x k t : ℕ} {K L : Known} → Taken 𝒯 s (if_equal x k t) K → EdgeMeets 𝒯 P s K t
        → Untaken 𝒯 s (if_equal x k t) L → (EdgeMeets 𝒯 P s L b → ⊥) → EdgesNo b s (if_equal x k t) q15
    less_no : {x y t : ℕ} {K : Known} → Taken 𝒯 s (if_less x y t) K → (EdgeMeets 𝒯 P s K t → ⊥) → EdgesNo b s (if_less x y t) q14
    not_less_no : {x y t : ℕ} {K L : Known} → Taken 𝒯 s (if_less x y t) K → EdgeMeets 𝒯 P s K t
        → Untaken 𝒯 s (if_less x y t) L → (EdgeMeets 𝒯 P s L b → ⊥) → EdgesNo b s (if_less x y t) q15

  -- the first of Q7 to Q15 and Q23 that the instruction at offset j of block b, before which s holds, has a no to
  pub data Disobeys (b j : ℕ) (s : BlockState) : Instruction → Question → Type 0 where
    no_form : Disobeys b j s malformed q7
    too_late : {x : Plain} → suc j ≡ P.long b → Disobeys b j s (plain x) q8
    no_access : {x : Plain} {q : Question} → (suc j ≡ P.long b → ⊥) → PlainNo 𝒯 s x q → Disobeys b j s (plain x) q
    too_early : {e : End} → (suc j ≡ P.long b → ⊥) → Disobeys b j s (end e) q8
    no_target : {e : End} → suc j ≡ P.long b → targets_exist P.count b e ≡ false → Disobeys b j s (end e) q9
    still_open : {e : End} → suc j ≡ P.long b → targets_exist P.count b e ≡ true → (s.through ≡ none → ⊥) → Disobeys b j s (end e) q13
    no_edge : {e : End} {q : Question} → suc j ≡ P.long b → targets_exist P.count b e ≡ true → s.through ≡ none → EdgesNo (suc b) s e q
        → Disobeys b j s (end e) q

  -- the instruction at offset j of block b has its first no to q, and those before it in the block obey the rules
  pub record DisobeysAt (b j : ℕ) (q : Question) : Type 0 where
    pub before : BlockState
    pub reached : Reaches 𝒯 P b j before
    pub disobeys : Disobeys b j before (instruction_at P b j) q

  -- The first instruction that does not obey the rules, and the question; all before it, in its block and in the blocks before,
  -- obey. 01: 'For code: block, and code index counted over the whole code'
  pub record FirstDisobeys (r : Refusal) : Type 0 where
    pub block : ℕ
    pub exists : block < P.count
    pub offset : ℕ
    pub within : offset < P.long block
    pub question : Question
    pub is : r ≡ refusal question block (P.start block + offset)
    pub here : DisobeysAt block offset question
    pub before : (j : ℕ) → j < offset → ObeysAt 𝒯 P block j
    pub earlier : (b j : ℕ) → b < block → j < P.long b → ObeysAt 𝒯 P b j
