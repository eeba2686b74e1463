-- What every line keeps.
use Rattle.std.proofs.Common.{◌≡◌, ℕ, ◌+◌, ◌*◌, ◌<◌, ◌≤◌, true, eqb, ltb, Option, None, Some, set, sym, refl, arith, ltb-false, ltb-true}
use mathlib.Core.Bool.{false≢true}
use Rattle.model.proofs.Logic.{by_test}
use Rattle.grammar.specs.declared.Form.{Form}
use Rattle.grammar.specs.Grammar.{pool, row_length, parts_most, longs_most, long_end, is_table, named, begun}
use Rattle.grammar.specs.declared.Phase.{Phase}
use Rattle.grammar.specs.declared.Phase.TheVariants.{Empty, Name, Gap, Zero, Prefix, Comment, Malformed}
use Rattle.grammar.specs.Phase.{in_number, in_parts, hash, blank}
use Rattle.grammar.proofs.Rows.{bound-done, part-past, given_inside}
use Rattle.numeral.specs.Digit.{ex, numeral, base, digit_to}
use Rattle.reader.specs.declared.Line.{Line}
use Rattle.reader.specs.Reader.{Reader, reader_over, fresh_line, past, line_of, placed, malformed, kind, bound_of, grown}
use Rattle.reader.specs.Reader.{digit_read, number_in, number_read, after, finished, word_taken, count_taken, long_taken, taken, letters_end}
use Rattle.reader.specs.Reader.{name_ended, name_read, first_read, blank_in, blank_read, act_in, act, step, Fine}

-- where a number fits, the row is not at its end
pub room-part : (l : Line) (v : ℕ) → Fine l → v < bound_of l → l.part < row_length
room-part l v F h =
    by_test (ltb l.part row_length)
    (λ q. ltb-true _ _ q)
    (λ q. by_test (ltb 0 l.left)
    (λ z. F.inside (ltb-true _ _ z))
    (λ z.
    let p = part-past l.form l.part (ltb-false l.part row_length q) in
    let g : bound_of l ≡ 0 = bound-done (kind l) l.left l.used (ltb-false 0 l.left z) (sym p) in
    absurd (omega arith)))

-- in a part, and not in the gap between its numbers
pub past-gap : (p : Phase) → in_parts p ≡ true → (p ≡ Gap → ⊥) → in_number p ≡ true
past-gap Gap h n = absurd (n refl)
past-gap _ h n = h

-- ---- lines made of a line

fine-malformed : (l : Line) → Fine l → Fine (malformed l)
unfolding malformed
fine-malformed l F = record {
  used = F.used;
  part = F.part;
  inside = F.inside;
  number = λ g. absurd (false≢true g);
  gap = λ e. cc;
  counted = F.counted;
}

-- in a number whose value is below the bound
pub fine-inside : (l : Line) (p : Phase) (a s v : ℕ) → Fine l → in_number p ≡ true → a < long_end → l.part < row_length → v < bound_of l → Fine (line_of l p a s v)
fine-inside l p a s v F hp ha hl hv = record {
  used = F.used;
  part = F.part;
  inside = F.inside;
  number = λ g. (hl, hv);
  gap = λ e. let z : in_number Gap ≡ true = rw e at hp in absurd (false≢true z);
  counted = ha;
}

-- in no number
fine-outside : (l : Line) (p : Phase) (v : ℕ) → Fine l → (in_number p ≡ true → ⊥) → (p ≡ Gap → ⊥) → Fine (line_of l p l.at l.stop v)
fine-outside l p v F hp hg = record {
  used = F.used;
  part = F.part;
  inside = F.inside;
  number = λ g. absurd (hp g);
  gap = λ e. absurd (hg e);
  counted = F.counted;
}

fine-placed : (l : Line) (p f u m s : ℕ) → Fine l → u ≤ pool → p ≤ row_length → (0 < f → p < row_length) → Fine (placed l p f u m s)
fine-placed l p f u m s F hu hp hf = record {
  used = hu;
  part = hp;
  inside = hf;
  number = λ g. absurd (false≢true g);
  gap = λ e. refl;
  counted = F.counted;
}

fine-after : (l : Line) (u m s : ℕ) → Fine l → u ≤ pool → l.part < row_length → Fine (after l u m s)
unfolding after
fine-after l u m s F hu hp = fine-placed l _ _ u m s F hu (omega arith) (λ z. given_inside l.form (l.part + 1) z)

pub fine-at : (l : Line) (a : ℕ) → Fine l → a < long_end → Fine (line_of l l.phase a l.stop l.value)
fine-at l a F h = record {
  used = F.used;
  part = F.part;
  inside = F.inside;
  number = F.number;
  gap = F.gap;
  counted = h;
}

pub fine-fresh : (x : Line) → x ≡ fresh_line → Fine x
fine-fresh x q = rw q record {
  used = omega arith;
  part = omega arith;
  inside = λ e. absurd (omega arith);
  number = λ g. absurd (false≢true g);
  gap = λ e. refl;
  counted = omega arith;
}

-- ---- what is taken

fine-finished : (r : Reader) (u : ℕ) → Fine r.line → u ≤ pool → r.line.part < row_length → Fine (finished r u).line
unfolding finished
fine-finished r u F hu hp =
    by_test (ltb r.line.marked parts_most)
    (λ q. rw q (fine-after r.line u _ _ F hu hp))
    (λ q. rw q (fine-malformed r.line F))

fine-word : (r : Reader) → Fine r.line → r.line.part < row_length → Fine (word_taken r).line
unfolding word_taken
fine-word r F hp =
    by_test (ltb r.line.used pool)
    (λ q.
    let u : r.line.used < pool = ltb-true _ _ q in
    let w = set r.words r.line.used r.line.value in
    by_test (ltb r.line.left 2)
    (λ z. rw (q, z) (fine-finished (reader_over r.line w r.ends r.longs) (r.line.used + 1) F (omega arith) hp))
    (λ z. rw (q, z) (fine-placed r.line _ _ _ _ _ F (omega arith) (omega arith) (λ _. hp))))
    (λ q. rw q (fine-malformed r.line F))

fine-count : (r : Reader) → Fine r.line → r.line.part < row_length → Fine (count_taken r).line
unfolding count_taken
fine-count r F hp =
    by_test (eqb r.line.value 0)
    (λ q. rw q (fine-finished r r.line.used F F.used hp))
    (λ q. rw q (fine-placed r.line _ _ _ _ _ F F.used (omega arith) (λ _. hp)))

fine-long : (r : Reader) → Fine r.line → r.line.part < row_length → Fine (long_taken r).line
unfolding long_taken
fine-long r F hp =
    by_test (ltb r.line.stored longs_most)
    (λ q. rw q (fine-after r.line _ _ _ F F.used hp))
    (λ q. rw q (fine-malformed r.line F))

pub fine-taken : (r : Reader) → Fine r.line → r.line.part < row_length → Fine (taken r).line
unfolding taken
fine-taken r F hp =
    by_test (ltb 0 r.line.left)
    (λ q. rw q (fine-word r F hp))
    (λ q. by_test (is_table (kind r.line))
    (λ z. rw (q, z) (fine-count r F hp))
    (λ z. rw (q, z) (fine-long r F hp)))

-- ---- a byte

to_number : (p : Phase) (d : ℕ) → in_number (digit_to p d) ≡ true
unfolding digit_to
to_number Gap d = by_test (eqb d 0) (λ q. rw q) (λ q. rw q)
to_number _ d = refl

fine-digit : (l : Line) (b : ℕ) → Fine l → Fine (digit_read l b)
unfolding digit_read
fine-digit l b F =
    by_test (ltb (numeral b) (base l.phase))
    (λ q. by_test (ltb (grown l b) (bound_of l))
    (λ z.
    let h = ltb-true _ _ z in
    rw (q, z) (fine-inside l _ l.at l.stop _ F (to_number l.phase (numeral b)) F.counted (room-part l _ F h) h))
    (λ z. rw (q, z) (fine-malformed l F)))
    (λ q. rw q (fine-malformed l F))

fine-number-in : (p : Phase) (l : Line) (b : ℕ) → l.phase ≡ p → Fine l → Fine (number_in p l b)
fine-number-in Zero l b e F =
    by_test (eqb b ex)
    (λ z. let (hl, hv) = F.number (rw e) in rw z (fine-inside l Prefix l.at l.stop 0 F refl F.counted hl (omega arith)))
    (λ z. rw z (fine-digit l b F))
fine-number-in _ l b e F = fine-digit l b F

fine-number : (l : Line) (b : ℕ) → Fine l → Fine (number_read l b)
unfolding number_read
fine-number l b F = fine-number-in l.phase l b refl F

fine-ended : (l : Line) (f : Option Form) → Fine l → Fine (name_ended l f)
fine-ended l None F = fine-malformed l F
fine-ended l (Some form) F = record {
  used = omega arith;
  part = omega arith;
  inside = λ e. omega arith;
  number = λ g. absurd (false≢true g);
  gap = λ e. refl;
  counted = F.counted;
}

fine-name : (l : Line) (b : ℕ) → Fine l → Fine (name_read l b)
unfolding name_read
fine-name l b F =
    by_test (blank b)
    (λ q. rw q (fine-ended l (named l.value) F))
    (λ q. by_test (ltb l.value letters_end)
    (λ z. by_test (begun (l.value * 256 + b))
    (λ y. rw (q, z, y) (fine-outside l Name _ F false≢true (λ e. cc)))
    (λ y. rw (q, z, y) (fine-malformed l F)))
    (λ z. rw (q, z) (fine-malformed l F)))

fine-first : (l : Line) (b : ℕ) → Fine l → Fine (first_read l b)
unfolding first_read
fine-first l b F =
    by_test (blank b)
    (λ q. rw q F)
    (λ q. by_test (eqb b hash)
    (λ z. rw (q, z) (fine-outside l Comment 0 F false≢true (λ e. cc)))
    (λ z. rw (q, z) (fine-name l b F)))

fine-blank-in : (p : Phase) (r : Reader) → r.line.phase ≡ p → Fine r.line → in_parts p ≡ true → Fine (blank_in p r).line
fine-blank-in Gap r e F h = F
fine-blank-in Prefix r e F h = fine-malformed r.line F
fine-blank-in _ r e F h = fine-taken r F (F.number (rw e h)).0

fine-blank : (r : Reader) → Fine r.line → in_parts r.line.phase ≡ true → Fine (blank_read r).line
unfolding blank_read
fine-blank r F h = fine-blank-in r.line.phase r refl F h

fine-act-in : (p : Phase) (r : Reader) (b : ℕ) → r.line.phase ≡ p → Fine r.line → Fine (act_in p r b).line
fine-act-in Empty r b e F = fine-first r.line b F
fine-act-in Name r b e F = fine-name r.line b F
fine-act-in Comment r b e F = F
fine-act-in Malformed r b e F = F
fine-act-in _ r b e F = by_test (blank b) (λ q. rw q (fine-blank r F (rw e))) (λ q. rw q (fine-number r.line b F))

pub fine-act : (r : Reader) (b : ℕ) → Fine r.line → Fine (act r b).line
unfolding act
fine-act r b F = fine-act-in r.line.phase r b refl F

pub fine-step : (r : Reader) (b : ℕ) → Fine r.line → Fine (step r b).line
unfolding step
fine-step r b F = fine-at (act r b).line (past r.line.at 1) (fine-act r b F) (omega arith)

-- over an equation of readers
pub fine-by : (x y : Reader) → x ≡ y → Fine y.line → Fine x.line
fine-by x y q F = rw q F
