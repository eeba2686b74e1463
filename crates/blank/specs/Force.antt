-- The blank blocks as the code has them: a list of three, 256 where there is no block, and a fourth or none.
use Rattle.std.specs.Prelude.{◌≡◌, Bool, List, [], ◌∷◌, ℕ, ◌+◌, ◌-◌, ◌*◌, ◌≤◌, ◌<◌, eqb, length, get_or, slice_get, Option, MatchOption}
use Rattle.model.specs.Question.{every, Outcome, in_order}
use Rattle.model.specs.Table.{rows, annotation_well}
use Rattle.model.specs.Blank.{blanks_from, blanks_ask, offered_length_ask, offered_rows_ask}
use Rattle.blank.specs.declared.Blanks.{Blanks}
use Rattle.blank.specs.declared.Filling.{Filling}

-- eight words are an annotation over count record types, and they are blank
abbrev pub annotated : ℕ → List ℕ → Bool
annotated count words = every 8 0 (λ f. annotation_well count (get_or words f 0))

abbrev pub blank : List ℕ → Bool
blank words = every 8 0 (λ f. eqb (get_or words f 0) 4294967295)

-- no block is blank
abbrev pub unfilled : Filling
unfilled = record { blanks = 256 ∷ 256 ∷ 256 ∷ []; places = 0 ∷ 0 ∷ 0 ∷ [] }

-- r is the first blank block from a block on, or there is none
abbrev pub NextBlank : List ℕ → ℕ → Option ℕ → Type 0
NextBlank blocks from r =
    MatchOption r (blanks_from blocks (rows blocks - from) from ≡ [])
    (λ b. (b < rows blocks) × (blanks_from blocks (rows blocks - from) from ≡ b ∷ blanks_from blocks (rows blocks - (b + 1)) (b + 1)))

-- the blank blocks by their places in the list of all, 256 where there is none
pub record Lists (l : List ℕ) (r : Blanks) : Type 0 where
  pub three : r.three ≡ get_or l 0 256 ∷ get_or l 1 256 ∷ get_or l 2 256 ∷ []
  pub fourth : r.fourth ≡ slice_get l 3

-- there are three blank blocks, 256 for one that there is not, and each that there is has a row in the offered list
pub record Fits (f : Filling) (offered : List ℕ) : Type 0 where
  pub blanks : length f.blanks ≡ 3
  pub places : length f.places ≡ 3
  pub rows : (k : ℕ) → k < 3 → get_or f.blanks k 0 < 256 → get_or f.places k 0 * 8 + 8 ≤ length offered

-- Q32
abbrev pub offer_questions : ℕ → List ℕ → List ℕ → List (Outcome (Unit {0}))
offer_questions count blocks offered = blanks_ask blocks ∷ offered_length_ask (length offered) ∷ offered_rows_ask count offered ∷ []

unfoldable pub offer_ask : ℕ → List ℕ → List ℕ → Outcome (Unit {0})
offer_ask count blocks offered = in_order (offer_questions count blocks offered)
