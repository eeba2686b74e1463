-- The fold's law; a number read in one piece is the number read byte by byte.
use Rattle.std.proofs.Common.{◌≡◌, ℕ, suc, ◌+◌, ◌-◌, ◌*◌, ◌<◌, ◌≤◌, true, eqb, ltb, List, [], ◌∷◌, ◌++◌, drop, refl, ap, ◌∙◌, add-one, arith, ltb-true, lt-ltb, eqb-true}
use borrow.Author.Tests.{eqb-false}
use mathlib.Core.Bool.{false≢true}
use Rattle.model.proofs.Logic.{by_test}
use Rattle.grammar.specs.Grammar.{word_end}
use Rattle.grammar.specs.declared.Phase.{Phase}
use Rattle.grammar.specs.declared.Phase.TheVariants.{Empty, Name, Gap, Zero, Digits, Prefix, Comment, Malformed}
use Rattle.grammar.specs.Phase.{in_number, in_parts, blank}
use Rattle.numeral.specs.Digit.{nought, ex, numeral, base, digit_to}
use Rattle.numeral.specs.Scan.{scanned, closed, scan, scan_decimal, scan_hex, scan_number}
use Rattle.numeral.proofs.Numerals.{digit-no-blank, digit-no-ex, base-most, base-some, to-on, to-decimal, digit-grows}
use Rattle.numeral.proofs.Scans.{none_found, found-same, of_first}
use Rattle.reader.specs.declared.Line.{Line}
use Rattle.model.specs.Question.{pick}
use Rattle.reader.specs.Reader.{Reader, reader_over, on_line, past, line_of, shifted, malformed, bound_of, digit_read, number_in, number_read}
use Rattle.reader.specs.Reader.{after, finished, word_taken, count_taken, long_taken, taken, blank_in, blank_read, act_in, act, step, reads}
use Rattle.protocol.specs.Ahead.{inside, ended}

-- ---- the fold

-- however the bytes are cut
pub reads-cut : (r : Reader) (xs ys : List ℕ) → reads (reads r xs) ys ≡ reads r (xs ++ ys)
unfolding reads
reads-cut r [] ys = refl
reads-cut r (x ∷ xs) ys = reads-cut (step r x) xs ys

-- ---- one byte of a number

-- a digit is no x
number-digit : (p : Phase) (l : Line) (b : ℕ) → numeral b < 16 → number_in p l b ≡ digit_read l b
number-digit Zero l b d = rw (digit-no-ex b d)
number-digit _ l b d = refl

-- a byte in a part is a blank or of a number
act-part : (p : Phase) (r : Reader) (b : ℕ) → in_parts p ≡ true → act_in p r b ≡ pick (blank b) (blank_read r) (on_line r (number_read r.line b))
act-part Empty r b h = absurd (false≢true h)
act-part Name r b h = absurd (false≢true h)
act-part Comment r b h = absurd (false≢true h)
act-part Malformed r b h = absurd (false≢true h)
act-part _ r b h = refl

part-number : (p : Phase) → in_number p ≡ true → in_parts p ≡ true
part-number Gap h = refl
part-number _ h = h

-- the blank after a number that has a digit
blank-number : (p : Phase) (r : Reader) → in_number p ≡ true → (p ≡ Prefix → ⊥) → blank_in p r ≡ taken r
blank-number Gap r h n = absurd (false≢true h)
blank-number Prefix r h n = absurd (n refl)
blank-number _ r h n = refl

-- a digit goes on in the number, whatever phase it is in
digit-reads : (l : Line) (b : ℕ) → numeral b < base l.phase → l.value * base l.phase + numeral b < bound_of l
    → number_read l b ≡ line_of l (digit_to l.phase (numeral b)) l.at l.stop (l.value * base l.phase + numeral b)
unfolding number_read digit_read
digit-reads l b d h = number-digit l.phase l b (omega (arith, base-most l.phase)) ∙ rw (lt-ltb _ _ d, lt-ltb _ _ h)

module _ (r : Reader) (p : Phase) (v j b : ℕ) (number : in_number p ≡ true) where
  -- a digit that keeps the value below the bound
  pub step-digit : numeral b < base p → v * base p + numeral b < bound_of r.line
      → step (inside r p v j) b ≡ inside r (digit_to p (numeral b)) (v * base p + numeral b) (j + 1)
  unfolding step act
  step-digit d l =
      let e : past (past r.line.at j) 1 ≡ past r.line.at (j + 1) = omega arith in
      let m = digit-reads (inside r p v j).line b d l in
      let n = digit-no-blank b (omega (arith, base-most p)) in
      rw (act-part p (inside r p v j) b (part-number p number), n) (rw (m, e))

  -- what is taken does not depend on the phase
  taken-phase : taken (inside r p v j) ≡ taken (inside r Digits v j)
  unfolding taken word_taken count_taken long_taken finished after malformed
  taken-phase = refl

  -- the blank at its end
  pub step_end : (p ≡ Prefix → ⊥) → blank b ≡ true → step (inside r p v j) b ≡ ended r v j
  unfolding step act blank_read
  step_end s n =
      let e : past (past r.line.at j) 1 ≡ past r.line.at (j + 1) = omega arith in
      rw (act-part p (inside r p v j) b (part-number p number), n) (rw (blank-number p (inside r p v j) number s, taken-phase, e))

-- the first digit
pub step-first : (r : Reader) (b : ℕ) → r.line.phase ≡ Gap → r.line.value ≡ 0 → numeral b < 10 → numeral b < bound_of r.line
    → step r b ≡ inside r (digit_to Gap (numeral b)) (numeral b) 1
unfolding step act base
step-first r b p v d l =
    let f = r.line.phase in
    let ten : base f ≡ 10 = rw p in
    let m : r.line.value * base f + numeral b < bound_of r.line = rw ten (omega arith) in
    let w : r.line.value * 10 + numeral b ≡ numeral b = omega arith in
    rw (act-part f r b (rw p), digit-no-blank b (omega arith))
    (rw (digit-reads r.line b (rw ten d) m, ten, w, p))

-- the x after one 0
step-ex : (r : Reader) (j : ℕ) → step (inside r Zero 0 j) ex ≡ inside r Prefix 0 (j + 1)
unfolding step act number_read blank
step-ex r j = let e : past (past r.line.at j) 1 ≡ past r.line.at (j + 1) = omega arith in rw e

-- ---- the key: a number in one piece is its bytes, one by one

-- inside a number, a digit before a rest that is read
inside-digit : (r : Reader) (p : Phase) (v j k w b : ℕ) (bs : List ℕ) → in_number p ≡ true → numeral b < base p → suc j < k
    → v * base p + numeral b < bound_of r.line
    → reads (inside r (digit_to p (numeral b)) (v * base p + numeral b) (suc j)) bs ≡ reads (ended r w (k - 1)) (drop (k - suc j) bs)
    → reads (inside r p v j) (b ∷ bs) ≡ reads (ended r w (k - 1)) (drop (k - j) (b ∷ bs))
unfolding reads
inside-digit r p v j k w b bs i d l h s =
    let g : k - j ≡ suc (k - suc j) = omega arith in
    rw (step-digit r p v j b i d h, add-one j, g) s

-- and the blank that ends it
inside-end : (r : Reader) (p : Phase) (v j k w b : ℕ) (bs : List ℕ) → in_number p ≡ true → (p ≡ Prefix → ⊥) → blank b ≡ true → suc j ≡ k → v ≡ w
    → reads (inside r p v j) (b ∷ bs) ≡ reads (ended r w (k - 1)) (drop (k - j) (b ∷ bs))
unfolding reads
inside-end r p v j k w b bs i n q ek ev =
    let g : k - 1 ≡ j = omega arith in
    let u : k - j ≡ suc 0 = omega arith in
    rw (step_end r p v j b i n q, ← ev, g, u)

-- inside a number; its value only grows, so that every digit's value is below what the last is below
scan-inside : (xs : List ℕ) (r : Reader) (radix o : ℕ) (p : Phase) (v j k w : ℕ) → in_number p ≡ true → base p ≡ radix → (p ≡ Prefix → j ≡ o)
    → scan radix o v j xs ≡ scanned k w → 0 < k → w < bound_of r.line
    → (j < k) × (v ≤ w) × (reads (inside r p v j) xs ≡ reads (ended r w (k - 1)) (drop (k - j) xs))
unfolding scan closed
scan-inside [] r radix o p v j k w i eb ho e hk hw = absurd (none_found e)
scan-inside (b ∷ bs) r radix o p v j k w i eb ho e hk hw =
    by_test (ltb (numeral b) radix)
    (λ d. by_test (ltb (v * radix + numeral b) word_end)
    (λ q.
    let t = v * radix + numeral b in
    let e' : scan radix o t (suc j) bs ≡ scanned k w = rw (d, q) at e in
    let n = to-on p (numeral b) i in
    let (l, m, s) = scan-inside bs r radix o (digit_to p (numeral b)) t (suc j) k w n.inside (n.same ∙ eb) (λ z. absurd (n.some z)) e' hk hw in
    let f : numeral b < base p = rw eb (ltb-true _ _ d) in
    let h : v * base p + numeral b < bound_of r.line = rw eb (omega arith) in
    let y : v ≤ t = digit-grows v radix (numeral b) (omega (arith, base-some p)) in
    (omega arith, omega arith, inside-digit r p v j k w b bs i f l h (rw eb s)))
    (λ q. absurd (none_found (rw (d, q) at e))))
    (λ d. by_test (blank b)
    (λ q. by_test (eqb j o)
    (λ z. absurd (none_found (rw (d, q, z) at e)))
    (λ z.
    let e' : scanned (suc j) v ≡ scanned k w = rw (d, q, z) at e in
    let (ek, ev) = found-same e' in
    (omega arith, omega arith, inside-end r p v j k w b bs i (λ y. eqb-false j o z (ho y)) q ek ev)))
    (λ q. absurd (none_found (rw (d, q) at e))))

-- from the gap before it
module _ (r : Reader) (k w : ℕ) (p : r.line.phase ≡ Gap) (z : r.line.value ≡ 0) (hk : 0 < k) (hw : w < bound_of r.line) where
  decimal-reads : (xs : List ℕ) → scan_decimal xs ≡ scanned k w → reads r xs ≡ reads (ended r w (k - 1)) (drop k xs)
  unfolding scan closed reads base
  decimal-reads [] e = absurd (none_found e)
  decimal-reads (b ∷ bs) e =
      by_test (ltb (numeral b) 10)
      (λ d. by_test (ltb (0 * 10 + numeral b) word_end)
      (λ q.
      let n : 0 * 10 + numeral b ≡ numeral b = omega arith in
      let e' : scan 10 0 (numeral b) 1 bs ≡ scanned k w = rw (d, q, n) at e in
      let f = digit_to Gap (numeral b) in
      let t = to-decimal (numeral b) in
      let (l, m, s) = scan-inside bs r 10 0 f (numeral b) 1 k w t.inside t.ten (λ y. absurd (t.some y)) e' hk hw in
      let h : numeral b < bound_of r.line = omega arith in
      let g : k ≡ suc (k - 1) = omega arith in
      let o : drop k (b ∷ bs) ≡ drop (k - 1) bs = ap (λ (x : ℕ). drop x (b ∷ bs)) g in
      rw (step-first r b p z (ltb-true _ _ d) h, o) s)
      (λ q. absurd (none_found (rw (d, q) at e))))
      (λ d. by_test (blank b)
      (λ q. absurd (none_found (rw (d, q) at e)))
      (λ q. absurd (none_found (rw (d, q) at e))))

  -- after 0x
  prefixed-reads : (bs : List ℕ) → scan 16 2 0 2 bs ≡ scanned k w
      → reads r (nought ∷ ex ∷ bs) ≡ reads (ended r w (k - 1)) (drop k (nought ∷ ex ∷ bs))
  unfolding reads numeral digit_to base
  prefixed-reads bs e =
      let (l, m, s) = scan-inside bs r 16 2 Prefix 0 2 k w refl refl (λ y. refl) e hk hw in
      let f : step r nought ≡ inside r Zero 0 1 = step-first r nought p z (omega arith) (omega arith) in
      let g : k ≡ suc (suc (k - 2)) = omega arith in
      let o : drop k (nought ∷ ex ∷ bs) ≡ drop (k - 2) bs = ap (λ (x : ℕ). drop x (nought ∷ ex ∷ bs)) g in
      rw (f, step-ex r 1, o) s

  hex-reads : (xs : List ℕ) → scan_hex xs ≡ scanned k w → reads r xs ≡ reads (ended r w (k - 1)) (drop k xs)
  unfolding scan_hex
  hex-reads [] e = absurd (none_found e)
  hex-reads (a ∷ []) e = absurd (none_found e)
  hex-reads (a ∷ b ∷ bs) e =
      by_test (eqb a nought)
      (λ q. by_test (eqb b ex)
      (λ y. rw (eqb-true a nought q, eqb-true b ex y) (prefixed-reads bs (rw (q, y) at e)))
      (λ y. absurd (none_found (rw (q, y) at e))))
      (λ q. absurd (none_found (rw q at e)))

  pub scan-reads : (xs : List ℕ) → scan_number xs ≡ scanned k w → reads r xs ≡ reads (ended r w (k - 1)) (drop k xs)
  unfolding scan_number
  scan-reads xs e = of_first (scan_decimal xs) (scan_hex xs) e (decimal-reads xs) (hex-reads xs)

-- a number taken in one piece
pub ended-made : (l x : Line) (w e n w' e' n' : List ℕ) (v k a a' : ℕ) → 0 < k → a ≡ past l.at (k - 1) → a' ≡ past l.at k
    → reader_over x w' e' n' ≡ taken (reader_over (line_of l Digits a l.stop v) w e n)
    → reader_over (line_of x x.phase a' x.stop x.value) w' e' n' ≡ ended (reader_over l w e n) v (k - 1)
ended-made l x w e n w' e' n' v k a a' h ea ea' q =
    let q' : reader_over x w' e' n' ≡ taken (reader_over (line_of l Digits (past l.at (k - 1)) l.stop v) w e n) = rw ea at q in
    let g : a' ≡ past l.at (k - 1 + 1) = omega arith in
    ap (λ (t : Reader). shifted a' t) q' ∙ rw g
