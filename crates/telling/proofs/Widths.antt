-- What is made of a row that can be told: it is printable, and it is short.
use mathlib.Core.Bool.{Bool, true, false}
use mathlib.Core.Path.{◌≡◌, refl}
use mathlib.Core.List.{List, [], ◌∷◌, ◌++◌}
use Prim.Native.Nat.{ℕ, zero, suc, ◌*◌, ◌≤◌}
use native.Mathlib.Omega.{arith}
use lib.Dec.{leb, eqb}
use lib.ListN.{length, length-append}
use Rattle.model.specs.Question.{pick}
use Rattle.grammar.specs.Codes.{codes}
use Rattle.protocol.specs.Text.{decimal}
use Rattle.output.specs.Digits.{printable, all_from}
use Rattle.output.proofs.Decimals.{decimal-length, decimal-printable, all_append}
use Rattle.telling.specs.declared.Place.{Place}
use Rattle.telling.specs.Row.{bar, letter_a, letter_b, after_byte, column_of, letter_text, written, Fine}
use Rattle.telling.specs.Row.{has_place, answering, place, place_text, answer_text}
use Rattle.telling.specs.Told.{Told}

-- ---- widths

first-longer : (is_bar : Bool) (b : ℕ) (column bs : List ℕ) → length column ≤ length bs → length (pick is_bar [] (b ∷ column)) ≤ suc (length bs)
first-longer true b column bs h = omega arith
first-longer false b column bs h = omega arith

-- a column is no longer than its row
pub column-long : (row : List ℕ) (k : ℕ) → length (column_of k row) ≤ length row
unfolding column_of
column-long [] zero = omega arith
column-long [] (suc k) = omega arith
column-long (b ∷ bs) zero = first-longer (eqb b bar) b (column_of 0 bs) bs (column-long bs zero)
column-long (b ∷ bs) (suc k) = omega (arith, column-long bs (after_byte (suc k) b))

letter-wide : (is_a is_b : Bool) (first second b : ℕ) → length (pick is_a (decimal first) (pick is_b (decimal second) (b ∷ []))) ≤ 20
letter-wide true is_b first second b = decimal-length first
letter-wide false true first second b = decimal-length second
letter-wide false false first second b = omega arith

-- no letter is written as more than twenty bytes
pub letter-long : (at : Place) (b : ℕ) → length (letter_text at b) ≤ 20
letter-long at b = letter-wide (eqb b letter_a) (eqb b letter_b) at.first at.second b

pub written-long : (at : Place) (bs : List ℕ) → length (written at bs) ≤ 20 * length bs
unfolding written
written-long at [] = omega arith
written-long at (b ∷ bs) = omega (arith, length-append (letter_text at b) (written at bs), letter-long at b, written-long at bs)

-- ---- printable

-- both tests of a byte and what holds of the bytes after it
tail_of : (a b : Bool) {x : Bool} → pick a (pick b x false) false ≡ true → x ≡ true
tail_of true true e = e
tail_of true false e = let z : ◌≡◌ {A = ℕ} 0 1 = cc in absurd (omega arith)
tail_of false b e = let z : ◌≡◌ {A = ℕ} 0 1 = cc in absurd (omega arith)

other-tail : (a b x : Bool) {y : Bool} → pick a (pick b x false) false ≡ true → y ≡ true → pick a (pick b y false) false ≡ true
other-tail true true x e h = h
other-tail true false x e h = e
other-tail false b x e h = e

module _ (b : ℕ) (bs : List ℕ) where
  seen-tail : printable (b ∷ bs) ≡ true → printable bs ≡ true
  unfolding all_from
  seen-tail e = tail_of (leb 32 b) (leb b 126) e

  seen_other : (cs : List ℕ) → printable (b ∷ bs) ≡ true → printable cs ≡ true → printable (b ∷ cs) ≡ true
  unfolding all_from
  seen_other cs e h = other-tail (leb 32 b) (leb b 126) (printable bs) e h

  -- the first column takes the byte, or ends before it
  seen_first : (is_bar : Bool) → printable (b ∷ bs) ≡ true → printable (column_of 0 bs) ≡ true → printable (pick is_bar [] (b ∷ column_of 0 bs)) ≡ true
  unfolding all_from
  seen_first true e h = refl
  seen_first false e h = seen_other (column_of 0 bs) e h

pub seen-column : (row : List ℕ) (k : ℕ) → printable row ≡ true → printable (column_of k row) ≡ true
unfolding column_of
seen-column [] zero e = e
seen-column [] (suc k) e = e
seen-column (b ∷ bs) zero e = seen_first b bs (eqb b bar) e (seen-column bs zero (seen-tail b bs e))
seen-column (b ∷ bs) (suc k) e = seen-column bs (after_byte (suc k) b) (seen-tail b bs e)

seen-letter : (is_a is_b : Bool) (first second b : ℕ) → printable (b ∷ []) ≡ true
    → printable (pick is_a (decimal first) (pick is_b (decimal second) (b ∷ []))) ≡ true
seen-letter true is_b first second b e = decimal-printable first
seen-letter false true first second b e = decimal-printable second
seen-letter false false first second b e = e

seen-written : (at : Place) (bs : List ℕ) → printable bs ≡ true → printable (written at bs) ≡ true
unfolding written all_from
seen-written at [] e = refl
seen-written at (b ∷ bs) e =
    all_append 32 126 (letter_text at b) (written at bs)
    (seen-letter (eqb b letter_a) (eqb b letter_b) at.first at.second b (seen_other b bs [] e refl))
    (seen-written at bs (seen-tail b bs e))

-- ---- a row that can be told

module _ (row : List ℕ) (f : Fine row) where
  pub column-short : (k : ℕ) → length (column_of k row) ≤ 700
  column-short k = omega (arith, column-long row k, f.short)

  -- a column with numbers
  pub written-short : (at : Place) (k : ℕ) → length (written at (column_of k row)) ≤ 14000
  written-short at k = omega (arith, written-long at (column_of k row), column-short k)

  -- ---- an answer in words

  place-seen : (number first second : ℕ) (has : Bool)
      → printable (pick has (codes "; at " ++ written (answering first second) (place row)) []) ≡ true
  unfolding all_from
  place-seen number first second true = seen-written (answering first second) (place row) (seen-column row 4 f.seen)
  place-seen number first second false = refl

  place_short : (number first second : ℕ) (has : Bool)
      → length (pick has (codes "; at " ++ written (answering first second) (place row)) []) ≤ 14005
  place_short number first second true = omega (arith, written-short (answering first second) 4)
  place_short number first second false = omega arith

  answer-seen : (number first second : ℕ) → printable (answer_text number first second row) ≡ true
  unfolding all_from
  answer-seen number first second =
      all_append 32 126 (column_of 0 row) _ (seen-column row 0 f.seen)
      (all_append 32 126 (column_of 1 row) (place_text number first second row) (seen-column row 1 f.seen)
      (place-seen number first second (has_place number)))

  answer-short : (number first second : ℕ) → length (answer_text number first second row) ≤ 16000
  answer-short number first second =
      let rest = column_of 1 row ++ place_text number first second row in
      omega (
        arith,
        length-append (column_of 0 row) (codes ": " ++ rest),
        length-append (column_of 1 row) (place_text number first second row),
        column-short 0,
        column-short 1,
        place_short number first second (has_place number),
      )

  -- ---- what is promised

  pub told-column : {before after : List ℕ} (k : ℕ) → after ≡ before ++ column_of k row → Told (column_of k) before after
  told-column k x = record { row = row; seen = seen-column row k f.seen; short = omega (arith, column-short k); appended = x }

  pub told-answer : {before after : List ℕ} (number first second : ℕ) → after ≡ before ++ answer_text number first second row
      → Told (answer_text number first second) before after
  told-answer number first second x =
      record { row = row; seen = answer-seen number first second; short = answer-short number first second; appended = x }
