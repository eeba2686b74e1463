-- Choices by number, and what the search over them comes to.
use Rattle.std.specs.Prelude.{◌≡◌, ◌⊎◌, Bool, true, false, List, [], ◌∷◌, map, Option, None, MatchOption, Result, Ok, Err}
use Rattle.std.specs.Prelude.{ℕ, ◌+◌, ◌*◌, ◌/◌, ◌%◌, ◌≤◌, ◌<◌, ltb, eqb, length, get_or}
use Rattle.model.specs.Question.{◌and◌, pick, ok, refusing, verdict_of, AllPassed}
use Rattle.model.specs.declared.questions.Refusal.{Refusal}
use Rattle.model.specs.declared.OfferedAnswer.{OfferedAnswer}
use Rattle.model.specs.Cost.{counting}
use Rattle.model.specs.Table.{Tables, Code, Routine}
use Rattle.model.specs.Check.{block_ask, judge}
use Rattle.model.specs.Blank.{blanks_of, open_questions, choosing}
use Rattle.blank.specs.declared.Filling.{Filling}
use Rattle.blank.specs.Force.{Lists}
use Rattle.verify.specs.Blocks.{Annotated, Divided, BlockAt}

-- ---- choices by number

abbrev pub places_of : ℕ → List ℕ
places_of i = i / 64 ∷ i / 8 % 8 ∷ i % 8 ∷ []

abbrev pub filling_of : List ℕ → ℕ → Filling
filling_of blanks i = record { blanks = blanks; places = places_of i }

-- the places that a blank block has to choose from, of so many offered
abbrev pub most_of : ℕ → ℕ → ℕ
most_of blank offers = pick (eqb blank 256) 1 offers

abbrev pub mosts_of : List ℕ → ℕ → List ℕ
mosts_of blanks offers = map (λ blank. most_of blank offers) blanks

unfoldable pub is_choice : List ℕ → ℕ → Bool
is_choice m i = ltb (i / 64) (get_or m 0 0) and ltb (i / 8 % 8) (get_or m 1 0) and ltb (i % 8) (get_or m 2 0)

-- ---- what a block reads

abbrev pub weight_of : ℕ → ℕ → ℕ → ℕ → ℕ
weight_of blank b target whole = pick (eqb blank b) whole (pick (eqb blank (b + 1)) whole (pick (eqb blank target) whole 0))

abbrev pub weights_of : List ℕ → ℕ → ℕ → List ℕ
weights_of blanks b target =
    weight_of (get_or blanks 0 0) b target 64 ∷ weight_of (get_or blanks 1 0) b target 8 ∷ weight_of (get_or blanks 2 0) b target 1 ∷ []

abbrev pub alike : List ℕ → ℕ → ℕ
alike w i = i / 64 * get_or w 0 0 + i / 8 % 8 * get_or w 1 0 + i % 8 * get_or w 2 0

-- ---- judging

-- block b of a routine has no no
abbrev pub passes : Tables → Routine → ℕ → Bool
passes 𝒯 P b = eqb (verdict_of (block_ask 𝒯 P b)).number 0

-- ---- what is lent of the offered list

-- each of the three blank blocks that there are has at least one row to choose from, and at most eight
pub record Offers (blanks m offered : List ℕ) : Type 0 where
  pub three : length blanks ≡ 3
  pub mosts : m ≡ mosts_of blanks (length offered / 8)
  pub some : 8 ≤ length offered
  pub few : length offered ≤ 64

-- a weight is whole or nothing
pub record Weighs (w : List ℕ) : Type 0 where
  pub three : length w ≡ 3
  pub first : (get_or w 0 0 ≡ 64) ⊎ (get_or w 0 0 ≡ 0)
  pub second : (get_or w 1 0 ≡ 8) ⊎ (get_or w 1 0 ≡ 0)
  pub third : (get_or w 2 0 ≡ 1) ⊎ (get_or w 2 0 ≡ 0)

-- the routines that the choices make of one block table, at block b
pub record BlockOf (P : ℕ → Routine) (blocks offered blanks m : List ℕ) (b first : ℕ) (part : List ℕ) : Type 0 where
  pub annotated : (i : ℕ) → i < 512 → is_choice m i ≡ true → Annotated (P i) blocks offered (filling_of blanks i)
  pub at : (i : ℕ) → i < 512 → is_choice m i ≡ true → BlockAt (P i) b first part

-- and at all blocks
pub record Routines (P : ℕ → Routine) (C : Code) (offered blanks m : List ℕ) : Type 0 where
  pub annotated : (i : ℕ) → i < 512 → is_choice m i ≡ true → Annotated (P i) C.blocks offered (filling_of blanks i)
  pub divided : (i : ℕ) → i < 512 → is_choice m i ≡ true → Divided (P i) C

-- ---- what the search comes to

-- of the first n choices, each that is the least of those alike has a yes where block b has no no
pub record Tried (𝒯 : Tables) (P : ℕ → Routine) (m w : List ℕ) (b : ℕ) (passed : List Bool) (n : ℕ) : Type 0 where
  pub at : (i : ℕ) → i < n → is_choice m i ≡ true → alike w i ≡ i → get_or passed i false ≡ passes 𝒯 (P i) b

-- each of the first n choices is struck out where the least of those alike did not pass, and the others are as they were
pub record Struck (w : List ℕ) (passed left left' : List Bool) (n : ℕ) : Type 0 where
  pub long : length left' ≡ length left
  pub struck : (i : ℕ) → i < n → i < 512 → get_or left' i false ≡ (get_or left i false and get_or passed (alike w i) false)
  pub others : (i : ℕ) → n ≤ i → get_or left' i false ≡ get_or left i false

-- Of the choices left those are left with which block b has no no; or none is.
pub record Narrows (𝒯 : Tables) (P : ℕ → Routine) (m : List ℕ) (b : ℕ) (left left' : List Bool) (some : Bool) : Type 0 where
  pub kept : some ≡ true → (i : ℕ) → i < 512 → is_choice m i ≡ true → get_or left' i false ≡ (get_or left i false and passes 𝒯 (P i) b)
  pub none : some ≡ false → (i : ℕ) → i < 512 → is_choice m i ≡ true → passes 𝒯 (P i) b ≡ false

-- r is the number of the first choice with a property, if one below 512 has it
pub record FirstWith (m : List ℕ) (Has : ℕ → Type 0) (r : ℕ) : Type 0 where
  pub within : r < 512
  pub is : is_choice m r ≡ true
  pub has : Has r
  pub before : (i : ℕ) → i < r → is_choice m i ≡ true → Has i → ⊥

abbrev pub FirstOf : List ℕ → (ℕ → Type 0) → Option ℕ → Type 0
FirstOf m Has r = MatchOption r ((i : ℕ) → i < 512 → is_choice m i ≡ true → Has i → ⊥) (λ i. FirstWith m Has i)

-- the first that is left
abbrev pub First : List ℕ → List Bool → Option ℕ → Type 0
First m left r = FirstOf m (λ i. get_or left i false ≡ true) r

-- the first with which all blocks pass
abbrev pub Searches : Tables → (ℕ → Routine) → List ℕ → Option ℕ → Type 0
Searches 𝒯 P m r = FirstOf m (λ i. judge 𝒯 (P i) ≡ ok tt) r

-- ---- past the questions before the choice

-- the questions have no no, and the blank blocks are at least one, and at most three
pub record Opened (types tags : List ℕ) (C : Code) (offered blanks : List ℕ) : Type 0 where
  pub passed : AllPassed (open_questions types tags C offered)
  pub lists : Lists (blanks_of C.blocks) (record { three = blanks; fourth = None })
  pub some : get_or blanks 0 0 < 256

-- ---- the answer

-- a no counts nothing, and chooses nothing
abbrev pub answered : Result OfferedAnswer Refusal → OfferedAnswer
answered (Ok a) = a
answered (Err r) = choosing (counting (refusing r) 0) []
