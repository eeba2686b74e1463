-- Laws of reading a byte: a digit, and those that are cited above.
use Rattle.std.proofs.Common.{◌≡◌, ℕ, ◌+◌, ◌-◌, ◌*◌, ◌<◌, ◌≤◌, ltb, Option, None, Some, List, set, ap, arith, true, refl, le-ltb, lt-ltb, ltb-true, ltb-false}
use mathlib.Core.Bool.{false≢true}
use Rattle.model.specs.Question.{pick}
use Rattle.model.proofs.Logic.{by_test}
use Rattle.grammar.specs.Grammar.{pool, below}
use Rattle.grammar.specs.declared.Phase.{Phase}
use Rattle.grammar.specs.declared.Phase.TheVariants.{Empty, Name, Gap, Zero, Digits, Prefix, Hex, Comment, Malformed}
use Rattle.grammar.specs.Phase.{is_over, space}
use Rattle.grammar.proofs.Rows.{below-some, below_none}
use Rattle.numeral.specs.Digit.{numeral, digit, base, digit_to}
use Rattle.numeral.proofs.Numerals.{digit-some, digit_none}
use Rattle.reader.specs.declared.Line.{Line}
use Rattle.reader.specs.Reader.{Reader, reader_over, on_line, line_of, placed, malformed, bound_of}
use Rattle.reader.specs.Reader.{digit_read, word_taken, taken, act_in, act, settled, at_end}

-- ---- digits

-- what a number with one more digit comes to
abbrev grows : ℕ → ℕ → Option ℕ
grows m v = pick (ltb m v) None (Some v)

grows-some : (m v w : ℕ) → Some w ≡ grows m v → (w ≡ v) × (v ≤ m)
grows-some m v w e =
    by_test (ltb m v)
    (λ q. let f : ◌≡◌ {A = Option ℕ} (Some w) None = rw q at e in cc)
    (λ q. let f : Some w ≡ Some v = rw q at e in let g : w ≡ v = cc in (g, ltb-false m v q))

grows_none : (m v : ℕ) → None ≡ grows m v → m < v
grows_none m v e =
    by_test (ltb m v)
    (λ q. ltb-true m v q)
    (λ q. let f : ◌≡◌ {A = Option ℕ} None (Some v) = rw q at e in cc)

module _ (l : Line) (b : ℕ) where
  pub digit-other : (x : Line) → x ≡ malformed l → None ≡ digit (base l.phase) b → x ≡ digit_read l b
  unfolding digit_read
  digit-other x q e = let g = digit_none _ _ e in rw (q, le-ltb (numeral b) (base l.phase) g)

  module _ (d : ℕ) (e : Some d ≡ digit (base l.phase) b) where
    digit-over : (x : Line) → x ≡ malformed l → bound_of l ≤ l.value * base l.phase + d → x ≡ digit_read l b
    unfolding digit_read
    digit-over x q h =
        let (g, k) = digit-some _ _ d e in
        rw (q, ← g, lt-ltb d (base l.phase) k, le-ltb (l.value * base l.phase + d) (bound_of l) h)

    pub digit-unwanted : (x : Line) → x ≡ malformed l → None ≡ below (bound_of l) → x ≡ digit_read l b
    digit-unwanted x q n = let z = below_none (bound_of l) n in digit-over x q (omega arith)

    module _ (m : ℕ) (h : Some m ≡ below (bound_of l)) where
      pub digit-large : (x : Line) → x ≡ malformed l → None ≡ grows m (l.value * base l.phase + d) → x ≡ digit_read l b
      digit-large x q n =
          let z = below-some (bound_of l) m h in
          let o = grows_none m (l.value * base l.phase + d) n in
          digit-over x q (omega arith)

      pub digit-on : (v : ℕ) (f : Phase) → Some v ≡ grows m (l.value * base l.phase + d) → f ≡ digit_to l.phase d → line_of l f l.at l.stop v ≡ digit_read l b
      unfolding digit_read
      digit-on v f o ef =
          let (g, k) = digit-some _ _ d e in
          let z = below-some (bound_of l) m h in
          let (ev, most) = grows-some m (l.value * base l.phase + d) v o in
          rw (ef, ev, ← g, lt-ltb d (base l.phase) k, lt-ltb (l.value * base l.phase + d) (bound_of l) (omega arith))

-- ---- what is taken

module _ (l : Line) (w e n : List ℕ) where
  pub word_on : (x : Line) → x ≡ placed l l.part (l.left - 1) (l.used + 1) l.marked l.stored → l.used < pool → 2 ≤ l.left
      → reader_over x (set w l.used l.value) e n ≡ word_taken (reader_over l w e n)
  unfolding word_taken
  word_on x q h m = rw (q, lt-ltb _ _ h, le-ltb _ _ m)

module _ (r : Reader) where
  pub taken_word : 0 < r.line.left → word_taken r ≡ taken r
  unfolding taken
  taken_word h = rw (lt-ltb 0 r.line.left h)

-- ---- a byte

past-in : (p : Phase) (r : Reader) (b : ℕ) → is_over p ≡ true → r ≡ act_in p r b
past-in Comment r b h = refl
past-in Malformed r b h = refl
past-in Empty r b h = absurd (false≢true h)
past-in Name r b h = absurd (false≢true h)
past-in Gap r b h = absurd (false≢true h)
past-in Zero r b h = absurd (false≢true h)
past-in Digits r b h = absurd (false≢true h)
past-in Prefix r b h = absurd (false≢true h)
past-in Hex r b h = absurd (false≢true h)

pub act-past : (r : Reader) (b : ℕ) → is_over r.line.phase ≡ true → r ≡ act r b
unfolding act
act-past r b h = past-in r.line.phase r b h

-- ---- the line's end

pub end-made : (r : Reader) (l x : Line) (w e n : List ℕ) → x ≡ settled l → reader_over l w e n ≡ act r space → reader_over x w e n ≡ at_end r
unfolding at_end
end-made r l x w e n q a = rw q (ap (λ (t : Reader). on_line t (settled t.line)) a)
