-- 02, card 12: 'Annotations left blank'. Blank rows, the offered list, the filled table, and the check that chooses.
-- LeastChoice is proved in proofs/Choice.antt, RowsInForce in proofs/InForce.antt, BlankCases in proofs/Answers.antt.
use Rattle.std.specs.Prelude.{◌≡◌, ◌↔◌, Bool, List, [], ◌∷◌, ◌++◌, ℕ, zero, suc, ◌+◌, ◌*◌, ◌/◌, ◌%◌, ◌<◌, leb, eqb, length, get_or, take, drop}
use Rattle.model.specs.declared.CheckAnswer.{CheckAnswer}
use Rattle.model.specs.declared.OfferedAnswer.{OfferedAnswer}
use Rattle.model.specs.Question.{◌and◌, pick, every, q32, q33, Refusal, refusal, refusing, Outcome, ok, refused, asked, in_order, first_no}
use Rattle.model.specs.Question.{AllPassed, FirstRefused}
use Rattle.model.specs.Table.{type_words, register_count, rows, words_of, Code, code_of, type_lengths_ask, code_lengths_ask, types_ask, lengths_ask}
use Rattle.model.specs.Table.{annotation_well, annotation_ask}
use Rattle.model.specs.Reading.{laid_at}
use Rattle.model.specs.Check.{check}
use Rattle.model.specs.Cost.{counting, check_answer, Cost}
use Rattle.model.specs.Cases.{ref_word, tagged_word, constant_byte, halt_word, load_word, jump_word, row, verdict, plot_types, plot_tags, stage_blocks, stage_code}
use Rattle.model.specs.Locks.{locked_word}

-- ---- blank rows

-- 'Up to 3 rows'
abbrev pub blanks_most : ℕ
blanks_most = 3

-- 'may have all eight type words 4,294,967,295'
abbrev pub blank_word : ℕ
blank_word = 4294967295

unfoldable pub is_blank : List ℕ → ℕ → Bool
is_blank blocks b = every type_words 0 (λ r. eqb (get_or (words_of blocks b) r 0) blank_word)

-- the blank ones of n blocks from block b on, the lowest first
unfoldable pub blanks_from : List ℕ → ℕ → ℕ → List ℕ
blanks_from blocks zero b = []
blanks_from blocks (suc n) b = pick (is_blank blocks b) (b ∷ blanks_from blocks n (suc b)) (blanks_from blocks n (suc b))

abbrev pub blanks_of : List ℕ → List ℕ
blanks_of blocks = blanks_from blocks (rows blocks) 0

-- ---- 'a second list offers 0 to 8 annotation rows of eight words, each free for several blocks'

abbrev pub offers_most : ℕ
offers_most = 8

unfoldable pub offered_row : List ℕ → ℕ → List ℕ
offered_row offered k = take type_words (drop (k * type_words) offered)

abbrev pub offers : List ℕ → ℕ
offers offered = length offered / type_words

-- ---- choices: an offered row's place in the list for each blank block, the lowest block first

pub data Choice (most : ℕ) : ℕ → List ℕ → Type 0 where
  none : Choice most 0 []
  more : {n k : ℕ} {ks : List ℕ} → k < most → Choice most n ks → Choice most (suc n) (k ∷ ks)

-- 'first by the lowest blank block's list place, then the next'
pub data Before : List ℕ → List ℕ → Type 0 where
  here : {j k : ℕ} {js ks : List ℕ} → j < k → Before (j ∷ js) (k ∷ ks)
  there : {k : ℕ} {js ks : List ℕ} → Before js ks → Before (k ∷ js) (k ∷ ks)

-- the table with an offered row's words for each blank block's
unfoldable pub filled : List ℕ → List ℕ → List ℕ → List ℕ → List ℕ
filled blocks offered [] choice = blocks
filled blocks offered (b ∷ bs) [] = blocks
filled blocks offered (b ∷ bs) (k ∷ ks) = filled (laid_at blocks (b * 9 + 1) (offered_row offered k)) offered bs ks

-- 'The annotation row in force is a part of the routine's table or of the offered list'
abbrev pub in_force : List ℕ → List ℕ → List ℕ → List ℕ → ℕ → List ℕ
in_force blocks offered [] choice b = words_of blocks b
in_force blocks offered (d ∷ ds) [] b = words_of blocks b
in_force blocks offered (d ∷ ds) (k ∷ ks) b = pick (eqb b d) (offered_row offered k) (in_force blocks offered ds ks b)

-- it is the filled table's
abbrev pub RowsInForce : Type 0
RowsInForce =
    (blocks offered c : List ℕ) (b : ℕ) → Choice (offers offered) (length (blanks_of blocks)) c → b < rows blocks
    → in_force blocks offered (blanks_of blocks) c b ≡ words_of (filled blocks offered (blanks_of blocks) c) b

-- ---- the first choice that passes a test

pub data Found : Type 0 where
  nowhere : Found
  found : List ℕ → Found

unfoldable pub or_else : Found → Found → Found
or_else nowhere y = y
or_else (found c) y = found c

abbrev pub with : ℕ → Found → Found
with k nowhere = nowhere
with k (found c) = found (k ∷ c)

-- what the first of m places from k on leads to
unfoldable pub try_from : ℕ → ℕ → (ℕ → Found) → Found
try_from zero k g = nowhere
try_from (suc m) k g = or_else (g k) (try_from m (suc k) g)

-- over choices for n blocks
unfoldable pub search : (List ℕ → Bool) → ℕ → ℕ → Found
search test most zero = pick (test []) (found []) nowhere
search test most (suc n) = try_from most 0 (λ k. with k (search (λ c. test (k ∷ c)) most n))

-- ---- the questions before the choice

-- 'This check's Q6 alone skips blank rows'
unfoldable pub open_annotations_ask : ℕ → List ℕ → Outcome (Unit {0})
open_annotations_ask count blocks = first_no (rows blocks) 0 (λ b. pick (is_blank blocks b) (ok tt) (annotation_ask count blocks b))

-- '32, at the fourth blank block'
unfoldable pub blanks_ask : List ℕ → Outcome (Unit {0})
blanks_ask blocks = asked (leb (length (blanks_of blocks)) blanks_most) (refusal q32 (get_or (blanks_of blocks) blanks_most 0) 0)

-- 'else at row 0 for an offered list of wrong length'
unfoldable pub offered_length_ask : ℕ → Outcome (Unit {0})
offered_length_ask n = asked (eqb (n % type_words) 0 and leb n (type_words * offers_most)) (refusal q32 0 0)

-- 'else at the first offered row badly made'
unfoldable pub offered_rows_ask : ℕ → List ℕ → Outcome (Unit {0})
offered_rows_ask count offered =
    first_no (offers offered) 0 λ k.
    asked (every register_count 0 (λ r. annotation_well count (get_or (offered_row offered k) r 0))) (refusal q32 k 0)

abbrev pub open_questions : List ℕ → List ℕ → Code → List ℕ → List (Outcome (Unit {0}))
open_questions types tags C offered =
    type_lengths_ask (length types) (length tags)
    ∷ code_lengths_ask (length C.blocks) (length C.code)
    ∷ types_ask types tags
    ∷ lengths_ask C.blocks (length C.code)
    ∷ open_annotations_ask (rows types) C.blocks
    ∷ blanks_ask C.blocks
    ∷ offered_length_ask (length offered)
    ∷ offered_rows_ask (rows types) offered
    ∷ []

-- ---- the public call

-- a check's answer, and the places chosen: 0 for a blank block that there is not, and in a refusal
abbrev pub choosing : CheckAnswer → List ℕ → OfferedAnswer
choosing a c =
    record {
      number = a.number;
      first = a.first;
      second = a.second;
      asked = a.asked;
      choice = get_or c 0 0 ∷ get_or c 1 0 ∷ get_or c 2 0 ∷ [];
    }

-- 'Card 9's count is that of the chosen check, 0 under 33'
abbrev pub refused_by : Refusal → OfferedAnswer
refused_by r = choosing (counting (refusing r) 0) []

module _ (types tags : List ℕ) (C : Code) (offered : List ℕ) where
  -- the routine with the chosen rows
  abbrev pub filled_with : List ℕ → Code
  filled_with c = code_of (filled C.blocks offered (blanks_of C.blocks) c) C.code

  abbrev pub accepts : List ℕ → Bool
  accepts c = eqb (check types tags (filled_with c)).number 0

  -- 'The answer is the choice that makes the check accept'; '33, at the lowest blank block, exactly when no choice is accepted'
  unfoldable pub chosen : ℕ → Found → OfferedAnswer
  chosen b (found c) = choosing (check_answer types tags (filled_with c)) c
  chosen b nowhere = refused_by (refusal q33 b 0)

  -- past the questions before the choice, where b is the lowest blank block
  unfoldable pub choose : ℕ → Outcome (Unit {0}) → OfferedAnswer
  choose b (ok _) = chosen b (search accepts (offers offered) (length (blanks_of C.blocks)))
  choose b (refused r) = refused_by r

  -- 'A table with no blank row is judged as before, the list unread'
  unfoldable pub by_blanks : List ℕ → OfferedAnswer
  by_blanks [] = choosing (check_answer types tags C) []
  by_blanks (b ∷ bs) = choose b (in_order (open_questions types tags C offered))

  unfoldable pub offered_check : OfferedAnswer
  offered_check = by_blanks (blanks_of C.blocks)

-- 'every other call takes the filled table': the block table after such a check, the chosen rows laid into an accepted routine's
abbrev pub filled_after : OfferedAnswer → List ℕ → List ℕ → List ℕ
filled_after a blocks offered = pick (eqb a.number 0) (filled blocks offered (blanks_of blocks) a.choice) blocks

-- ---- what the answer is

module _ (types tags : List ℕ) (C : Code) (offered : List ℕ) where
  -- a choice for the blank blocks whose filled table the check accepts
  pub record AcceptedChoice (c : List ℕ) : Type 0 where
    pub places : Choice (offers offered) (length (blanks_of C.blocks)) c
    pub accepted : (check types tags (filled_with types tags C offered c)).number ≡ 0

  -- the first such, with number, place and count of its own check
  pub record Chosen (a : OfferedAnswer) : Type 0 where
    pub choice : List ℕ
    pub is : AcceptedChoice choice
    pub least : (d : List ℕ) → Before d choice → AcceptedChoice d → ⊥
    pub answer : a ≡ choosing (check_answer types tags (filled_with types tags C offered choice)) choice
    pub cost : Cost types tags (filled_with types tags C offered choice)

  pub record LeastChoice (a : OfferedAnswer) : Type 0 where
    pub unread : blanks_of C.blocks ≡ [] → a ≡ choosing (check_answer types tags C) []
    -- b is the lowest blank block
    pub before : (b : ℕ) (bs : List ℕ) → blanks_of C.blocks ≡ b ∷ bs → (r : Refusal)
        → FirstRefused r (open_questions types tags C offered) → a ≡ refused_by r
    pub passed : (b : ℕ) (bs : List ℕ) → blanks_of C.blocks ≡ b ∷ bs
        → (a.number ≡ 0) ↔ (AllPassed (open_questions types tags C offered) × (c : List ℕ) × AcceptedChoice c)
    pub chosen : (b : ℕ) (bs : List ℕ) → blanks_of C.blocks ≡ b ∷ bs → a.number ≡ 0 → Chosen a
    pub missed : (b : ℕ) (bs : List ℕ) → blanks_of C.blocks ≡ b ∷ bs
        → (a.number ≡ 33) ↔ (AllPassed (open_questions types tags C offered) × ((c : List ℕ) → AcceptedChoice c → ⊥))
    pub lowest : (b : ℕ) (bs : List ℕ) → blanks_of C.blocks ≡ b ∷ bs → a.number ≡ 33 → a ≡ refused_by (refusal q33 b 0)

abbrev pub LeastChoices : Type 0
LeastChoices = (types tags : List ℕ) (C : Code) (offered : List ℕ) → LeastChoice types tags C offered (offered_check types tags C offered)

-- ---- cases

-- a blank row of a length, and an offered row with a type word for r3
abbrev pub blank : ℕ → List ℕ
blank n = row n blank_word blank_word blank_word blank_word blank_word blank_word blank_word blank_word

abbrev pub offer : ℕ → List ℕ
offer w = 0 ∷ 0 ∷ 0 ∷ w ∷ 0 ∷ 0 ∷ 0 ∷ 0 ∷ []

-- document 01's stage routine with blocks 2 and 3 blank
abbrev pub stage_blank : Code
stage_blank = code_of (row 3 0 (ref_word 2) 0 0 0 0 0 0 ++ row 1 0 0 0 0 0 0 0 0 ++ blank 1 ++ blank 2) stage_code

-- the answer over an offered list
abbrev pub stage_offered : List ℕ → OfferedAnswer
stage_offered offered = offered_check plot_types plot_tags stage_blank offered

-- two record types, each with a reference to the other; two blank blocks, the first of which follows that of r3
abbrev pub pair_types : List ℕ
pair_types = row 1 (ref_word 1) 0 0 0 0 0 0 0 ++ row 1 (ref_word 0) 0 0 0 0 0 0 0

abbrev pub pair_blank : Code
pair_blank = code_of (blank 2 ++ blank 1) (load_word 3 3 0 ∷ jump_word 1 ∷ halt_word ∷ [])

-- five blocks that halt, four of them blank
abbrev pub four_blank : List ℕ
four_blank = blank 1 ++ blank 1 ++ blank 1 ++ row 1 0 0 0 0 0 0 0 0 ++ blank 1

pub record BlankCases : Type 0 where
  -- block 2 takes row 2, block 3 row 1
  pub two_blank : stage_offered (offer (ref_word 0) ++ offer (ref_word 1) ++ offer (tagged_word (constant_byte 1)))
      ≡ choosing (counting (verdict 0 0 0) 32) (2 ∷ 1 ∷ [])
  pub three_places : (stage_offered (offer (ref_word 0) ++ offer (ref_word 1) ++ offer (tagged_word (constant_byte 1)))).choice ≡ 2 ∷ 1 ∷ 0 ∷ []
  -- accepted are rows 0 and 1, and rows 1 and 0: the lowest blank block's place comes first
  pub two_accepted : offered_check pair_types [] pair_blank (offer (ref_word 0) ++ offer (ref_word 1)) ≡ choosing (counting (verdict 0 0 0) 8) (0 ∷ 1 ∷ [])
  pub three_blank : offered_check plot_types plot_tags (code_of (blank 1 ++ blank 1 ++ blank 1) (halt_word ∷ halt_word ∷ halt_word ∷ [])) (offer 0)
      ≡ choosing (counting (verdict 0 0 0) 0) (0 ∷ 0 ∷ 0 ∷ [])
  -- of blocks 2 and 3 each has the row that was chosen for it, and block 1 its own
  pub rows_of_blocks : (in_force stage_blank.blocks (offer 5 ++ offer 7) (2 ∷ 3 ∷ []) (1 ∷ 0 ∷ []) 3 ≡ offer 5)
      × (in_force stage_blank.blocks (offer 5 ++ offer 7) (2 ∷ 3 ∷ []) (1 ∷ 0 ∷ []) 1 ≡ 0 ∷ 0 ∷ 0 ∷ 0 ∷ 0 ∷ 0 ∷ 0 ∷ 0 ∷ [])
  -- other calls do not skip a blank row
  pub plain : check plot_types plot_tags stage_blank ≡ verdict 6 2 0
  pub none_fits : stage_offered (offer (ref_word 0)) ≡ choosing (counting (verdict 33 2 0) 0) []
  pub none_offered : stage_offered [] ≡ choosing (counting (verdict 33 2 0) 0) []
  pub unread : offered_check plot_types plot_tags (code_of (stage_blocks 1) stage_code) (7 ∷ []) ≡ choosing (counting (verdict 0 0 0) 32) []
  pub bad_length : stage_offered (7 ∷ []) ≡ choosing (counting (verdict 32 0 0) 0) []
  pub nine_rows : stage_offered (offer 0 ++ offer 0 ++ offer 0 ++ offer 0 ++ offer 0 ++ offer 0 ++ offer 0 ++ offer 0 ++ offer 0)
      ≡ choosing (counting (verdict 32 0 0) 0) []
  pub bad_row : stage_offered (offer 0 ++ offer blank_word) ≡ choosing (counting (verdict 32 1 0) 0) []
  pub marked_row : stage_offered (offer (locked_word 0)) ≡ choosing (counting (verdict 32 0 0) 0) []
  pub fourth : offered_check plot_types plot_tags (code_of four_blank (halt_word ∷ halt_word ∷ halt_word ∷ halt_word ∷ halt_word ∷ [])) (7 ∷ [])
      ≡ choosing (counting (verdict 32 4 0) 0) []
  -- a row with one such word is not blank, beside one that is skipped
  pub one_word : offered_check plot_types plot_tags (code_of (blank 1 ++ row 1 blank_word 0 0 0 0 0 0 0) (halt_word ∷ halt_word ∷ [])) (offer 0)
      ≡ choosing (counting (verdict 6 1 0) 0) []
  -- 'after Q6 and before Q7': Q6 of all rows first, then the blank rows, the list's length, its rows, then the code
  pub annotation_first : offered_check plot_types plot_tags
      (code_of (four_blank ++ row 1 blank_word 0 0 0 0 0 0 0) (halt_word ∷ halt_word ∷ halt_word ∷ halt_word ∷ halt_word ∷ halt_word ∷ [])) (7 ∷ [])
      ≡ choosing (counting (verdict 6 5 0) 0) []
  pub length_first : stage_offered (offer 0 ++ offer blank_word ++ 0 ∷ []) ≡ choosing (counting (verdict 32 0 0) 0) []
  pub row_first : offered_check plot_types plot_tags (code_of (blank 1) (blank_word ∷ [])) (offer 0 ++ offer blank_word) ≡ choosing (counting (verdict 32 1 0) 0) []
