-- The values of a reading as the struct holds them, by numbers: frames as birthplaces, a dependency as one number, a known constant c as
-- c + 1.
use Rattle.std.specs.Prelude.{◌≡◌, Bool, true, false, List, map, ℕ, zero, suc, ◌+◌, ◌-◌, ◌*◌, ◌/◌, ◌%◌, ◌<◌, ltb, eqb, get_or}
use Rattle.std.specs.Borrow.{Bor}
use denote.Triple.Both.{Both}
use Rattle.model.specs.Question.{◌or◌, pick}
use Rattle.model.specs.Types.{Dep, name, con, dep_of, rename_dep}
use Rattle.model.specs.Table.{Tables, tables_of}
use Rattle.model.specs.Values.{Values, joined, root_of, chain_constant}
use Rattle.model.specs.Reading.{tag_of, beyond}
use Rattle.known.specs.declared.Values.{Values as Held}

-- A frame is held as the birthplace of its eight names. There are 32 birthplaces, so that every name is below 256.
abbrev pub frame_of : ℕ → ℕ
frame_of g = 8 * (g % 32)

unfoldable pub frames_of : List ℕ → List ℕ
frames_of l = map frame_of l

abbrev pub values_of : Held → ℕ → ℕ → Values
values_of held tested equal =
    record {
      words = held.words;
      frames = frames_of held.frames;
      constants = held.constants;
      tested = tested;
      equal = equal;
      knowledge = joined;
    }

-- a table that a function is lent, at its entry and at its exit
abbrev pub Lent : Type 0
Lent = Both (Bor (List ℕ)) (Bor (List ℕ))

-- the tables with the tags that are lent
abbrev pub tables_in : List ℕ → Lent → Tables
tables_in types tags = tables_of types tags.entry.now

-- a number below 256 is a name, and 256 + c the constant c
unfoldable pub dep_at : ℕ → Dep
dep_at x = pick (ltb x 256) (name x) (con (x - 256))

-- the dependency byte x in a frame, and where the names stand for other values
unfoldable pub sibling_of : ℕ → ℕ → Dep
sibling_of frame x = rename_dep (λ i. frame + i) (dep_of x)

unfoldable pub named_of : List ℕ → ℕ → Dep
named_of names x = rename_dep (λ i. get_or names i 0) (dep_of x)

-- the constant that k holds, as a dependency; x where it holds none
abbrev pub constant_or : ℕ → ℕ → ℕ
constant_or k x = pick (eqb k 0) x (k + 255)

-- What stands for all that chains of Same join with x: their constant, or the value at their root where they have none.
abbrev pub stand_by : ℕ → Dep → Dep
stand_by zero r = r
stand_by (suc c) r = con c

unfoldable pub stand : Values → Dep → Dep
stand vs x = stand_by (chain_constant vs x) (root_of vs x)

-- A test makes two known equal: what stands for the value tested, and the constant. One number has both, the second added to 512 times the
-- first, and is 0 where nothing was tested.
abbrev pub Paired : Values → ℕ → Type 0
Paired vs test =
    (vs.equal ≡ 0 → test ≡ 0) × (0 < vs.equal → (dep_at (test / 512) ≡ stand vs (name vs.tested)) × (test % 512 ≡ vs.equal + 255))

-- said of the values that are held, past the test that the number tells
abbrev pub Past : Held → ℕ → (Values → Type 0) → Type 0
Past held test said = (tested equal : ℕ) → Paired (values_of held tested equal) test → said (values_of held tested equal)

-- the one of two for the other, and r for any other
abbrev pub partner_in : ℕ → ℕ → ℕ → ℕ
partner_in a b r = pick (eqb r a) b (pick (eqb r b) a r)

unfoldable pub partner_of : ℕ → ℕ → ℕ
partner_of test r = partner_in (test / 512) (test % 512) r

-- 01: 'a tag of T or beyond the table'; or a tag of T alone
abbrev pub serves_as_tag : Bool → Tables → ℕ → ℕ → Bool
serves_as_tag true 𝒯 t k = tag_of 𝒯 t k or beyond 𝒯 k
serves_as_tag false 𝒯 t k = tag_of 𝒯 t k
