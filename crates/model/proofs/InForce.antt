-- The annotation row in force is that of the filled table.
use mathlib.Core.Path.{◌≡◌, refl, sym, ap, ◌∙◌}
use mathlib.Core.List.{List, [], ◌∷◌}
use Prim.Native.Nat.{ℕ, zero, suc, ◌+◌, ◌*◌, ◌≤◌, ◌<◌}
use native.Mathlib.Omega.{arith}
use lib.Dec.{eqb}
use lib.ListN.{length, drop, length-take, length-drop}
use lib.Seq.{ext_get_or}
use borrow.Author.Tests.{eq-eqb, ne_eqb}
use Rattle.model.specs.Question.{pick}
use Rattle.model.specs.Table.{type_words, rows, words_of}
use Rattle.model.specs.Reading.{laid_at}
use Rattle.model.specs.Blank.{is_blank, blanks_from, blanks_of, offered_row, offers, filled, in_force, Choice, more, RowsInForce}
use Rattle.model.proofs.Logic.{by_test, by_equality, by_less}
use Rattle.model.proofs.Lists.{length-laid, laid-below, laid-above, laid-at}
use Rattle.model.proofs.Rows.{word_at, words-length}

-- ---- one row laid into a table

module _ (T row : List ℕ) (d : ℕ) (eight : length row ≡ type_words) where
  abbrev laid : List ℕ
  laid = laid_at T (d * 9 + 1) row

  laid-eight : (b : ℕ) → b * 9 + 9 ≤ length T → length (words_of laid b) ≡ 8
  laid-eight b h = words-length laid b (rw (length-laid T (d * 9 + 1) row) h)

  -- it is the row of its block
  laid_same : d * 9 + 9 ≤ length T → words_of laid d ≡ row
  laid_same h =
      ext_get_or 0 (words_of laid d) row (laid-eight d h ∙ sym eight) (λ i k.
      let n = laid-eight d h in
      let z : d * 9 + (i + 1) ≡ d * 9 + 1 + i = omega arith in
      word_at laid d i (omega arith) ∙ rw z (laid-at T (d * 9 + 1) row i (omega arith) (omega arith)))

  -- and no other block's
  laid-other : (b : ℕ) → b * 9 + 9 ≤ length T → (b ≡ d → ⊥) → words_of laid b ≡ words_of T b
  laid-other b h e =
      ext_get_or 0 (words_of laid b) (words_of T b) (laid-eight b h ∙ sym (words-length T b h)) (λ i k.
      let n = laid-eight b h in
      let at = b * 9 + (i + 1) in
      word_at laid b i (omega arith)
      ∙ by_less b d (λ u. laid-below T (d * 9 + 1) row at (omega arith)) (λ u. laid-above T (d * 9 + 1) row at (omega arith))
      ∙ sym (word_at T b i (omega arith)))

-- ---- blocks in ascending order, from low on and below high

pub data Rising (high : ℕ) : ℕ → List ℕ → Type 0 where
  empty : {low : ℕ} → Rising high low []
  next : {low d : ℕ} {ds : List ℕ} → low ≤ d → d < high → Rising high (suc d) ds → Rising high low (d ∷ ds)

rising-lower : (high lower low : ℕ) (ds : List ℕ) → lower ≤ low → Rising high low ds → Rising high lower ds
rising-lower high lower low [] m empty = empty
rising-lower high lower low (d ∷ ds) m (next l h R) = next {low = lower} {d = d} (omega arith) h R

pub blanks-rising : (blocks : List ℕ) (high n b : ℕ) → b + n ≤ high → Rising high b (blanks_from blocks n b)
unfolding blanks_from
blanks-rising blocks high zero b h = empty
blanks-rising blocks high (suc n) b h =
    let R = blanks-rising blocks high n (suc b) (omega arith) in
    by_test (is_blank blocks b) (λ q. rw q (next {low = b} {d = b} (omega arith) (omega arith) R))
    (λ q. rw q (rising-lower high b (suc b) (blanks_from blocks n (suc b)) (omega arith) R))

-- ---- the row in force

module _ (offered : List ℕ) where
  pub row-eight : (k : ℕ) → k < offers offered → length (offered_row offered k) ≡ type_words
  unfolding offered_row
  row-eight k h = omega (arith, length-take type_words (drop (k * type_words) offered), length-drop (k * type_words) offered)

  -- it goes by the words of the block alone
  same-words : (T U : List ℕ) (b : ℕ) → words_of T b ≡ words_of U b → (ds ks : List ℕ) → in_force T offered ds ks b ≡ in_force U offered ds ks b
  same-words T U b e [] ks = e
  same-words T U b e (d ∷ ds) [] = e
  same-words T U b e (d ∷ ds) (k ∷ ks) = ap (pick (eqb b d) (offered_row offered k)) (same-words T U b e ds ks)

  -- a block below the blank ones keeps its own
  below-own : (T : List ℕ) (high b : ℕ) (ds ks : List ℕ) → Rising high (suc b) ds → in_force T offered ds ks b ≡ words_of T b
  below-own T high b [] ks R = refl
  below-own T high b (d ∷ ds) [] R = refl
  below-own T high b (d ∷ ds) (k ∷ ks) (next l h R) =
      rw (ne_eqb b d (λ e. omega arith)) (below-own T high b ds ks (rising-lower high (suc b) (suc d) ds (omega arith) R))

  -- it is the filled table's, whatever ascending blocks are filled
  pub in-force : (high : ℕ) (T ds ks : List ℕ) (low b : ℕ) → high * 9 ≤ length T → Rising high low ds → Choice (offers offered) (length ds) ks
      → b < high → in_force T offered ds ks b ≡ words_of (filled T offered ds ks) b
  unfolding filled
  in-force high T [] ks low b h R C l = refl
  in-force high T (d ∷ ds) [] low b h R C l = elim C [ ]
  in-force high T (d ∷ ds) (k ∷ ks) low b h (next u v R) (more p C) l =
      let row = offered_row offered k in
      let eight = row-eight k p in
      let U = laid_at T (d * 9 + 1) row in
      let rest : in_force U offered ds ks b ≡ words_of (filled U offered ds ks) b =
      in-force high U ds ks (suc d) b (rw (length-laid T (d * 9 + 1) row) h) R C l in
      by_equality b d
      (λ e. rw (eq-eqb b d e)
      (sym (laid_same T row d eight (omega arith)) ∙ ap (words_of U) (sym e) ∙ sym (below-own U high b ds ks (rw e R)) ∙ rest))
      (λ e. rw (ne_eqb b d e) (same-words T U b (sym (laid-other T row d eight b (omega arith) e)) ds ks ∙ rest))

pub rows-in-force : RowsInForce
rows-in-force blocks offered c b C l =
    let n = rows blocks in
    in-force offered n blocks (blanks_of blocks) c 0 b (omega arith) (blanks-rising blocks n n 0 (omega arith)) C l
