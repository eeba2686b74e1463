-- Words and numbers read ahead.
use Rattle.std.proofs.Common.{◌≡◌, ℕ, suc, ◌+◌, ◌-◌, ◌<◌, ◌≤◌, Some, true, List, [], ◌∷◌, length, get_or, take, drop, set, sym, refl, ap, ◌∙◌, add-one, arith, length-drop, drop_of_length-le, drop-cons, drop-drop, ltb-true}
use mathlib.Core.Bool.{false≢true}
use Rattle.std.proofs.lemmas.List.{take_all}
use native.Mathlib.Nat.{sub_self}
use Rattle.grammar.specs.Grammar.{pool, word_end, long_end}
use Rattle.grammar.specs.declared.Phase.{Phase}
use Rattle.grammar.specs.declared.Phase.TheVariants.{Gap, Digits}
use Rattle.grammar.specs.Phase.{is_over}
use Rattle.grammar.proofs.Rows.{bound-word}
use Rattle.numeral.specs.declared.Found.{Found}
use Rattle.numeral.specs.Scan.{scanned, scan_number}
use Rattle.numeral.proofs.Scans.{found}
use Rattle.reader.specs.declared.Line.{Line}
use Rattle.reader.specs.declared.Pools.{Pools}
use Rattle.reader.specs.Reader.{Reader, reader, reader_over, past, line_of, shifted, kind, bound_of, taken, step, reads, Fine}
use Rattle.reader.proofs.Steps.{word_on, taken_word, act-past}
use Rattle.reader.proofs.Keeps.{room-part, fine-inside, fine-taken, fine-at}
use Rattle.protocol.specs.Ahead.{Goes, gone_to, words_in, in_words, inside, ended}
use Rattle.protocol.proofs.Numbers.{scan-reads}

-- ---- what a line keeps

pub fine-gone : (l x : Line) (k u f : ℕ) → x ≡ gone_to l k u f → Fine l → u ≤ pool → 0 < l.left → Fine x
fine-gone l x k u f q F hu hl = rw q record {
  used = hu;
  part = F.part;
  inside = λ e. F.inside hl;
  number = λ g. absurd (false≢true g);
  gap = λ e. refl;
  counted = omega arith;
}

pub fine-ended : (r : Reader) (w j : ℕ) → Fine r.line → w < bound_of r.line → Fine (ended r w j).line
fine-ended r w j F h =
    let p = room-part r.line w F h in
    let G = fine-inside r.line Digits (past r.line.at j) r.line.stop w F refl (omega arith) p h in
    fine-at (taken (inside r Digits w j)).line (past r.line.at (j + 1)) (fine-taken (inside r Digits w j) G p) (omega arith)

-- ---- words of a part

words-in : (p : Phase) (left : ℕ) → words_in p left ≡ true → (p ≡ Gap) × (1 < left)
words-in Gap left e = (refl, ltb-true 1 left e)
words-in _ left e = absurd (false≢true e)

pub in-words : (l : Line) → in_words l ≡ true → (l.phase ≡ Gap) × (1 < l.left)
unfolding in_words
in-words l e = words-in l.phase l.left e

-- before the first of them
gone-none : (l : Line) (from : ℕ) → l.phase ≡ Gap → l.value ≡ 0 → l.at < long_end → l ≡ gone_to l (from - from) l.used l.left
gone-none l from p v h =
    let a : past l.at 0 ≡ l.at = omega arith in
    rw (sub_self, a, ← p) (ap (λ (x : ℕ). line_of l l.phase l.at l.stop x) v)

-- one more
module _ (l : Line) (words e n : List ℕ) (j used left k w : ℕ) (hu : used < pool) (hl : 1 < left) (hk : 0 < k) where
  word-ended : ended (reader_over (gone_to l j used left) words e n) w (k - 1) ≡ reader_over (gone_to l (j + k) (used + 1) (left - 1)) (set words used w) e n
  word-ended =
      let i = inside (reader_over (gone_to l j used left) words e n) Digits w (k - 1) in
      let t = sym (word_on i.line words e n _ refl hu hl ∙ taken_word i (omega arith)) in
      let a : past (past l.at j) (k - 1 + 1) ≡ past l.at (j + k) = omega arith in
      ap (λ (x : Reader). shifted (past (past l.at j) (k - 1 + 1)) x) t ∙ rw a

  word_read : (bytes : List ℕ) (at from : ℕ) → j ≡ at - from → from ≤ at → w < word_end → scanned k w ≡ scan_number (drop at bytes)
      → reads (reader_over (gone_to l j used left) words e n) (drop at bytes)
      ≡ reads (reader_over (gone_to l (at + k - from) (used + 1) (left - 1)) (set words used w) e n) (drop (at + k) bytes)
  word_read bytes at from hj hf hw s =
      let r = reader_over (gone_to l j used left) words e n in
      let b : 4294967295 + 1 ≡ bound_of r.line = bound-word (kind l) left used (omega arith) in
      let g : at + k - from ≡ j + k = omega arith in
      scan-reads r k w refl refl hk (omega arith) (drop at bytes) (sym s)
      ∙ rw (word-ended, drop-drop k at bytes, g)

-- the pools with a word at a place
abbrev put : Pools → ℕ → ℕ → Pools
put p used w = record { words = set p.words used w; ends = p.ends; longs = p.longs }

-- words were read ahead up to a place, and the line goes on from there as it would have from the first
pub record Reached (bytes : List ℕ) (l : Line) (before after : Pools) (from at used left : ℕ) : Type 0 where
  pub same : reads (reader l before) (drop from bytes) ≡ reads (reader (gone_to l (at - from) used left) after) (drop at bytes)
  pub on : from ≤ at
  pub within : at ≤ length bytes
  pub small : used ≤ pool

pub reached-none : (bytes : List ℕ) (l : Line) (p : Pools) (from : ℕ) → Fine l → l.phase ≡ Gap → from ≤ length bytes
    → Reached bytes l p p from from l.used l.left
reached-none bytes l p from F q h =
    let g = gone-none l from q (F.gap q) F.counted in
    record {
      same = ap (λ (x : Line). reads (reader x p) (drop from bytes)) g;
      on = omega arith;
      within = h;
      small = F.used;
    }

module _ (bytes : List ℕ) (l : Line) (before after : Pools) (from at used left : ℕ) (R : Reached bytes l before after from at used left) where
  pub reached-more : (k w : ℕ) → used < pool → 1 < left → scanned k w ≡ scan_number (drop at bytes)
      → Reached bytes l before (put after used w) from (at + k) (used + 1) (left - 1)
  reached-more k w hu hl s =
      let f = found bytes at k w R.within s in
      record {
        same = R.same ∙ word_read l after.words after.ends after.longs (at - from) used left k w hu hl f.some bytes at from refl R.on f.word s;
        on = omega arith;
        within = f.within;
        small = omega arith;
      }

  pub reached-goes : (x : Line) (a : ℕ) → Fine l → 0 < l.left → (x ≡ gone_to l (at - from) used left) × (a ≡ at)
      → Goes bytes (reader l before) (reader x after) from a
  reached-goes x a F hl (q, z) = rw z record {
    same = R.same ∙ ap (λ (y : Line). reads (reader y after) (drop at bytes)) (sym q);
    on = R.on;
    within = R.within;
    fine = fine-gone l x _ used left q F R.small hl;
  }

-- what was found in the bytes from a place on
pub onwards : (f : Found) (bytes : List ℕ) (at : ℕ) → Some f ≡ scan_number (take (length bytes - at) (drop at bytes))
    → scanned f.count f.value ≡ scan_number (drop at bytes)
onwards f bytes at e = let h : length (drop at bytes) ≤ length bytes - at = omega (arith, length-drop at bytes) in rw (take_all (length bytes - at) (drop at bytes) h) at e

-- ---- a number, or a byte

module _ (r x : Reader) (bytes : List ℕ) (at : ℕ) where
  pub some_number : (k w : ℕ) → r.line.phase ≡ Gap → r.line.value ≡ 0 → scanned k w ≡ scan_number (drop at bytes) → 0 < k → w < bound_of r.line
      → x ≡ ended r w (k - 1)
      → reads r (drop at bytes) ≡ reads x (drop (at + k) bytes)
  some_number k w p v s hk hw q = scan-reads r k w p v hk hw (drop at bytes) (sym s) ∙ rw (← q, drop-drop k at bytes)

  pub some_byte : at < length bytes → x ≡ step r (get_or bytes at 0) → reads r (drop at bytes) ≡ reads x (drop (at + 1) bytes)
  unfolding reads
  some_byte h q = rw (drop-cons bytes at 0 h, q, add-one at)

pub goes_on : (bytes : List ℕ) (r s t : Reader) (i j k : ℕ) → Goes bytes r s i j → Goes bytes s t j k → Goes bytes r t i k
goes_on bytes r s t i j k g h = record { same = g.same ∙ h.same; on = omega arith; within = h.within; fine = h.fine }

pub reads-past : (r : Reader) (bytes : List ℕ) (i : ℕ) → length bytes ≤ i → reads r (drop i bytes) ≡ r
unfolding reads
reads-past r bytes i h = rw (drop_of_length-le bytes h)

-- ---- the rest of a line that is over

-- a comment and a malformed line pass over whatever follows
rest-reads : (bs : List ℕ) (r : Reader) → is_over r.line.phase ≡ true → r.line.at < long_end → reads r bs ≡ shifted (past r.line.at (length bs)) r
unfolding reads step
rest-reads [] r p c = let a : past r.line.at 0 ≡ r.line.at = omega arith in rw a
rest-reads (b ∷ bs) r p c =
    let s = sym (act-past r b p) in
    let a : past (past r.line.at 1) (length bs) ≡ past r.line.at (suc (length bs)) = omega arith in
    rw s (rest-reads bs (shifted (past r.line.at 1) r) p (omega arith) ∙ rw a)

pub rest_goes : (bytes w e n : List ℕ) (l : Line) (at a : ℕ) → Fine l → is_over l.phase ≡ true → at ≤ length bytes → a ≡ past l.at (length bytes - at)
    → Goes bytes (reader_over l w e n) (reader_over (line_of l l.phase a l.stop l.value) w e n) at (length bytes)
rest_goes bytes w e n l at a F p h q =
    let k : length (drop at bytes) ≡ length bytes - at = length-drop at bytes in
    record {
      same = rest-reads (drop at bytes) (reader_over l w e n) p F.counted ∙ rw (k, ← q) (sym (reads-past _ bytes (length bytes) (omega arith)));
      on = h;
      within = omega arith;
      fine = fine-at l a F (omega arith);
    }
