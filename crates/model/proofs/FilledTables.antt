-- What a table keeps when it is filled; it passes Q1 to Q6 where the questions before the choice had no no.
use mathlib.Core.Path.{◌≡◌, refl, sym, ap, ◌∙◌}
use mathlib.Core.Bool.{true, not, false≢true}
use mathlib.Core.List.{List, [], ◌∷◌}
use Prim.Native.Nat.{ℕ, zero, suc, ◌+◌, ◌*◌, ◌/◌, ◌≤◌, ◌<◌}
use native.Mathlib.Omega.{arith}
use lib.Dec.{eqb}
use lib.ListN.{length, get_or}
use borrow.Author.Tests.{eqb-true, eqb-false}
use Rattle.model.specs.Question.{pick, every, ok, first_no, AllPassed}
use Rattle.model.specs.Word.{locked_of}
use Rattle.model.specs.Table.{register_count, rows, head_of, words_of, Code, start_of, code_lengths_ask, blocks_ask, lengths_ask}
use Rattle.model.specs.Table.{annotation_well, annotation_ask, annotations_ask, table_questions, tables_ask}
use Rattle.model.specs.Reading.{laid_at}
use Rattle.model.specs.Check.{check_ask, check}
use Rattle.model.specs.Blank.{is_blank, blanks_from, blanks_of, offered_row, offers, Choice, none, more, filled, in_force, open_annotations_ask, offered_rows_ask}
use Rattle.model.specs.Blank.{open_questions, filled_with}
use Rattle.model.proofs.Logic.{by_test, by_equality, by_less, and-true, every_true, ask-ok, ok-ask, then_ok, first_no-ok, all-passed, passed-all}
use Rattle.model.proofs.Logic.{verdict-ok, pick-both}
use Rattle.model.proofs.Lists.{Member, first, later, length-laid, laid-below, laid-above}
use Rattle.model.proofs.Joined.{no_member}
use Rattle.model.proofs.Rows.{head_at}
use Rattle.model.proofs.TableRules.{each-exactly}
use Rattle.model.proofs.InForce.{row-eight, blanks-rising, in-force}

-- ---- what is kept

module _ (offered : List ℕ) where
  pub length-filled : (T ds ks : List ℕ) → length (filled T offered ds ks) ≡ length T
  unfolding filled
  length-filled T [] ks = refl
  length-filled T (d ∷ ds) [] = refl
  length-filled T (d ∷ ds) (k ∷ ks) =
      length-filled (laid_at T (d * 9 + 1) (offered_row offered k)) ds ks ∙ length-laid T (d * 9 + 1) (offered_row offered k)

  pub rows-filled : (T ds ks : List ℕ) → rows (filled T offered ds ks) ≡ rows T
  rows-filled T ds ks = ap (λ (n : ℕ). n / 9) (length-filled T ds ks)

  head-laid : (T row : List ℕ) (d b : ℕ) → length row ≡ 8 → head_of (laid_at T (d * 9 + 1) row) b ≡ head_of T b
  head-laid T row d b l =
      head_at (laid_at T (d * 9 + 1) row) b
      ∙ by_less (b * 9) (d * 9 + 1) (λ h. laid-below T (d * 9 + 1) row (b * 9) h) (λ h. laid-above T (d * 9 + 1) row (b * 9) (omega arith))
      ∙ sym (head_at T b)

  -- the length of every block
  pub head-filled : (T ds ks : List ℕ) → Choice (offers offered) (length ds) ks → (b : ℕ) → head_of (filled T offered ds ks) b ≡ head_of T b
  unfolding filled
  head-filled T [] ks C b = refl
  head-filled T (d ∷ ds) [] C b = elim C [ ]
  head-filled T (d ∷ ds) (k ∷ ks) (more p C) b =
      head-filled (laid_at T (d * 9 + 1) (offered_row offered k)) ds ks C b ∙ head-laid T (offered_row offered k) d b (row-eight offered k p)

  -- and where it starts
  pub start-filled : (T ds ks : List ℕ) → Choice (offers offered) (length ds) ks → (b : ℕ) → start_of (filled T offered ds ks) b ≡ start_of T b
  unfolding start_of
  start-filled T ds ks C zero = refl
  start-filled T ds ks C (suc b) = rw (start-filled T ds ks C b, head-filled T ds ks C b)

-- ---- an answer has three places for at most three blank blocks

pub choice-length : (most n : ℕ) (c : List ℕ) → Choice most n c → length c ≡ n
choice-length most zero [] none = refl
choice-length most zero (k ∷ ks) C = elim C [ ]
choice-length most (suc n) [] C = elim C [ ]
choice-length most (suc n) (k ∷ ks) (more p C) = ap suc (choice-length most n ks C)

-- a filled table goes by the places of its blocks alone
filled-same : (T offered ds c e : List ℕ) → length ds ≤ length c → length ds ≤ length e → ((i : ℕ) → i < length ds → get_or c i 0 ≡ get_or e i 0)
    → filled T offered ds c ≡ filled T offered ds e
unfolding filled
filled-same T offered [] c e l m h = refl
filled-same T offered (d ∷ ds) [] e l m h = absurd (omega arith)
filled-same T offered (d ∷ ds) (j ∷ c) [] l m h = absurd (omega arith)
filled-same T offered (d ∷ ds) (j ∷ c) (k ∷ e) l m h =
    rw (h 0 (omega arith)) (filled-same (laid_at T (d * 9 + 1) (offered_row offered k)) offered ds c e (omega arith) (omega arith) (λ i u. h (suc i) (omega arith)))

pub filled-three : (T offered ds c : List ℕ) → length ds ≤ 3 → length c ≡ length ds
    → filled T offered ds (get_or c 0 0 ∷ get_or c 1 0 ∷ get_or c 2 0 ∷ []) ≡ filled T offered ds c
filled-three T offered ds c h e = filled-same T offered ds _ c (omega arith) (omega arith) (λ i u. place i (omega arith))
  where
    place : (i : ℕ) → i < 3 → get_or (get_or c 0 0 ∷ get_or c 1 0 ∷ get_or c 2 0 ∷ []) i 0 ≡ get_or c i 0
    place zero u = refl
    place (suc zero) u = refl
    place (suc (suc zero)) u = refl
    place (suc (suc (suc i))) u = absurd (omega arith)

-- ---- with no blank row, this check's Q6 is Q6

skips-none : (count : ℕ) (blocks : List ℕ) (n b : ℕ) → blanks_from blocks n b ≡ []
    → first_no n b (λ k. pick (is_blank blocks k) (ok tt) (annotation_ask count blocks k)) ≡ first_no n b (annotation_ask count blocks)
unfolding blanks_from first_no
skips-none count blocks zero b e = refl
skips-none count blocks (suc n) b e =
    by_test (is_blank blocks b) (λ q. absurd (omega (arith, ap length (rw q at e))))
    (λ q. rw (q, skips-none count blocks n (suc b) (rw q at e)))

pub no-blanks : (count : ℕ) (blocks : List ℕ) → blanks_of blocks ≡ [] → open_annotations_ask count blocks ≡ annotations_ask count blocks
unfolding open_annotations_ask annotations_ask
no-blanks count blocks e = skips-none count blocks (rows blocks) 0 e

-- ---- Q5 and Q6 of a filled table

-- Q5 goes by the lengths alone
lengths-same : (T U : List ℕ) (total : ℕ) → ((b : ℕ) → head_of U b ≡ head_of T b) → (n b i : ℕ) → blocks_ask U total n b i ≡ blocks_ask T total n b i
unfolding blocks_ask
lengths-same T U total h zero b i = refl
lengths-same T U total h (suc n) b i = rw (h b, lengths-same T U total h n (suc b) (i + head_of T b))

-- a blank block is among those that are filled
blank-listed : (blocks : List ℕ) (n low b : ℕ) → is_blank blocks b ≡ true → low ≤ b → b < low + n → Member b (blanks_from blocks n low)
unfolding blanks_from
blank-listed blocks zero low b e l h = absurd (omega arith)
blank-listed blocks (suc n) low b e l h =
    by_equality b low (λ q. rw (← q, e) first)
    (λ d. let rest = blank-listed blocks n (suc low) b e (omega arith) (omega arith) in
    by_test (is_blank blocks low) (λ q. rw q (later rest)) (λ q. rw q rest))

member-later : {b d : ℕ} {ds : List ℕ} → Member b (d ∷ ds) → (b ≡ d → ⊥) → Member b ds
member-later first n = absurd (n refl)
member-later (later m) n = m

-- what holds of every offered row, and of the table's own for a block that is not filled, holds of the row in force
force-holds : (Q : List ℕ → Type 0) (T offered ds ks : List ℕ) (b : ℕ) → Choice (offers offered) (length ds) ks
    → ((k : ℕ) → k < offers offered → Q (offered_row offered k)) → ((Member b ds → ⊥) → Q (words_of T b)) → Q (in_force T offered ds ks b)
force-holds Q T offered [] ks b C each own = own (no_member b)
force-holds Q T offered (d ∷ ds) [] b C each own = elim C [ ]
force-holds Q T offered (d ∷ ds) (k ∷ ks) b (more p C) each own =
    pick-both Q (eqb b d) _ _ (λ q. each k p)
    (λ q. force-holds Q T offered ds ks b C each (λ n. own (λ m. n (member-later m (eqb-false b d q)))))

module _ (types tags : List ℕ) (C : Code) (offered c : List ℕ) (K : Choice (offers offered) (length (blanks_of C.blocks)) c) where
  abbrev full : List ℕ
  full = (filled_with types tags C offered c).blocks

  same_rows : rows full ≡ rows C.blocks
  same_rows = rows-filled offered C.blocks (blanks_of C.blocks) c

  lengths-filled : lengths_ask full (length C.code) ≡ lengths_ask C.blocks (length C.code)
  unfolding lengths_ask
  lengths-filled =
      rw same_rows (lengths-same C.blocks full (length C.code) (head-filled offered C.blocks (blanks_of C.blocks) c K) _ 0 0)

  abbrev Well : List ℕ → Type 0
  Well row = every register_count 0 (λ r. annotation_well (rows types) (get_or row r 0)) ≡ true

  module _ (A : AllPassed (open_questions types tags C offered)) where
    own-well : (b : ℕ) → b < rows C.blocks → (Member b (blanks_of C.blocks) → ⊥) → Well (words_of C.blocks b)
    unfolding open_annotations_ask annotation_ask
    own-well b h n =
        let (a, (d, (t, (l, (q, rest))))) = A in
        by_test (is_blank C.blocks b) (λ e. absurd (n (blank-listed C.blocks (rows C.blocks) 0 b e (omega arith) (omega arith))))
        (λ e. (ask-ok _ _ _ (rw e at ((each-exactly _ _).0 q b h))).0)

    offered-well : (k : ℕ) → k < offers offered → Well (offered_row offered k)
    unfolding offered_rows_ask
    offered-well k h =
        let (a, (d, (t, (l, (q, (m, (o, (r, u)))))))) = A in
        (ask-ok _ _ _ ((each-exactly _ _).0 r k h)).0

    row-passes : (b : ℕ) → b < rows C.blocks → annotation_ask (rows types) full b ≡ ok tt
    unfolding annotation_ask
    row-passes b h =
        let n = rows C.blocks in
        let e = in-force offered n C.blocks (blanks_of C.blocks) c 0 b (omega arith) (blanks-rising C.blocks n n 0 (omega arith)) K h in
        ok-ask _ _ _ (rw (← e) (force-holds Well C.blocks offered (blanks_of C.blocks) c b K offered-well (own-well b h)))

    pub filled-tables : tables_ask types tags (filled_with types tags C offered c) ≡ ok tt
    unfolding tables_ask annotations_ask
    filled-tables =
        let (a, (d, (t, (l, rest)))) = A in
        passed-all (table_questions types tags (filled_with types tags C offered c)) (
          a,
          (
            ap (λ (n : ℕ). code_lengths_ask n (length C.code)) (length-filled offered C.blocks (blanks_of C.blocks) c) ∙ d,
            (t, (lengths-filled ∙ l, ((each-exactly _ _).1 (λ b h. row-passes b (rw same_rows at h)), tt))),
          ),
        )

-- ---- a routine that the check accepts has no blank row

-- a blank word has the mark, which no annotation may have
blank-marked : (blocks : List ℕ) (b count : ℕ) → is_blank blocks b ≡ true → annotation_ask count blocks b ≡ ok tt → ⊥
unfolding is_blank annotation_ask annotation_well
blank-marked blocks b count e a =
    let w : get_or (words_of blocks b) 0 0 ≡ 4294967295 = eqb-true _ _ (every_true 8 0 _ e 0 (omega arith) (omega arith)) in
    let well : not (locked_of (get_or (words_of blocks b) 0 0)) ≡ true = (and-true _ _ (every_true 8 0 _ (ask-ok _ _ _ a).0 0 (omega arith) (omega arith))).0 in
    false≢true (rw w at well)

pub accepted-filled : (types tags : List ℕ) (C : Code) → (check types tags C).number ≡ 0 → blanks_of C.blocks ≡ []
unfolding check check_ask tables_ask annotations_ask blanks_from
accepted-filled types tags C z =
    let (u, t, j) = then_ok _ _ (verdict-ok (check_ask types tags C) z) in
    let rows_ok = (all-passed (table_questions types tags C) t).1.1.1.1.0 in
    none-blank (rows C.blocks) 0 (λ b lo hi. first_no-ok (rows C.blocks) 0 _ rows_ok b lo hi)
  where
    none-blank : (n b : ℕ) → ((k : ℕ) → b ≤ k → k < b + n → annotation_ask (rows types) C.blocks k ≡ ok tt) → blanks_from C.blocks n b ≡ []
    none-blank zero b h = refl
    none-blank (suc n) b h =
        by_test (is_blank C.blocks b) (λ q. absurd (blank-marked C.blocks b (rows types) q (h b (omega arith) (omega arith))))
        (λ q. rw q (none-blank n (suc b) (λ k lo hi. h k (omega arith) (omega arith))))
