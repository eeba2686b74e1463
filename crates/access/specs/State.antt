-- The state of a reading as the struct of the code holds it, and where the questions asked of it have their no.
use Rattle.std.specs.Prelude.{List, map, ◌≡◌, ℕ, ◌+◌, ◌%◌, Bool, Result, ltb}
use Rattle.model.specs.Question.{pick, Outcome, ok, refused, provided, ask}
use Rattle.model.specs.declared.questions.Question.{Question}
use Rattle.model.specs.declared.questions.Question.TheVariants.{Offset as q11, OtherRecord as q12, LockedField as q23}
use Rattle.model.specs.declared.questions.Refusal.{Refusal}
use Rattle.model.specs.Table.{Tables, tables_of}
use Rattle.model.specs.Machine.{Access, to_load, to_store}
use Rattle.model.specs.Reading.{Reading, look, loaded, stored}
use Rattle.model.specs.Check.{value_in, may_touch, permits}
use Rattle.known.specs.Numbers.{values_of}
pub use Rattle.access.specs.Sizes.{Sizes}
use Rattle.access.specs.declared.Reading.{Reading as Held}
use Rattle.access.specs.declared.tables.Tables.{Tables as Lookup}

-- A view is the birthplace of the fields seen. There are 32 birthplaces.
abbrev pub view_of : ℕ → ℕ
view_of x = x % 32

unfoldable pub views_of : List ℕ → List ℕ
views_of l = map view_of l

abbrev pub reading : Held → Reading
reading held =
    record {
      values = values_of held.values 0 0;
      registers = held.registers;
      views = views_of held.views;
      since = held.since;
      base = held.base;
      fields = held.fields;
    }

-- the tables that a reading is lent
abbrev pub tables_by : Lookup → Tables
tables_by tables = tables_of tables.types.now tables.tags.now

-- ---- outcomes

-- questions without a no go on with a result; else the first that has one is refused at its place
unfoldable pub placing : {A : Type 0} → (Question → Refusal) → Result (Unit {0}) Question → A → Outcome A
placing place (ok u) a = ok a
placing place (refused q) a = refused (place q)

-- Questions asked of the reading that a struct holds at entry: the first no, or the reading that it holds at exit; and the fit questions
-- among them, on top of those before.
pub record Reads (entry exit : Held) (answer : Result (Unit {0}) Question) (asks : (Question → Refusal) → Reading → Outcome Reading) (puts : Reading → ℕ) : Type 0 where
  pub outcome : (place : Question → Refusal) → placing place answer (reading exit) ≡ asks place (reading entry)
  pub count : exit.asked ≡ entry.asked + puts (reading entry)

-- Q12 of a load through the value v, whose record's fields are at hand, and the reading after it
unfoldable pub load_ask : Tables → (Question → Refusal) → ℕ → ℕ → ℕ → Reading → Outcome Reading
load_ask 𝒯 place a v c st =
    ask (may_touch 𝒯 st v) (place q12) λ _.
    ok (loaded st a c)

-- Q23 and Q12 of a store through the value v to a record of type t: what follows, or else what a no comes to
unfoldable pub on_store : {A : Type 0} → Tables → (Question → A) → ℕ → ℕ → ℕ → Reading → A → A
on_store 𝒯 refuse v t c st x =
    provided (permits 𝒯 to_store t c) (refuse q23) λ _.
    provided (may_touch 𝒯 st v) (refuse q12) λ _.
    x

-- the reading after it, and the fit questions put
unfoldable pub store_ask : Tables → (Question → Refusal) → ℕ → ℕ → ℕ → ℕ → ℕ → Reading → Outcome Reading
store_ask 𝒯 place g v t c x st = on_store 𝒯 (λ q. refused (place q)) v t c st (ok (stored 𝒯 st g v t c x))

unfoldable pub store_asked : Tables → ℕ → ℕ → ℕ → Reading → ℕ
store_asked 𝒯 v t c st = on_store 𝒯 (λ _. 0) v t c st (𝒯.size t)

-- an access, by whether it loads
abbrev pub access_of : Bool → Access
access_of loads = pick loads to_load to_store

-- Q11, Q23 and Q12 of an access to a record of type t through the value v, and the reading after it; and the fit questions put
unfoldable pub touched : Tables → (Question → Refusal) → ℕ → Bool → ℕ → ℕ → ℕ → ℕ → Reading → Outcome Reading
touched 𝒯 place g loads a v t c st =
    ask (ltb c (𝒯.size t)) (place q11) λ _.
    ask (permits 𝒯 (access_of loads) t c) (place q23) λ _.
    ask (may_touch 𝒯 st v) (place q12) λ _.
    pick loads (ok (loaded (look 𝒯 st g v t) a c)) (ok (stored 𝒯 (look 𝒯 st g v t) g v t c (value_in st a)))

unfoldable pub touch_asked : Tables → Bool → ℕ → ℕ → ℕ → Reading → ℕ
touch_asked 𝒯 loads v t c st = pick loads 0 (provided (ltb c (𝒯.size t)) 0 λ _. store_asked 𝒯 v t c st)
