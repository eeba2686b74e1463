-- What a line says does not depend on what an earlier line has left in the pools.
use Rattle.std.proofs.Common.{◌≡◌, ℕ, zero, suc, ◌+◌, ◌-◌, ◌*◌, ◌<◌, ◌≤◌, eqb, ltb, Option, None, Some, List, [], ◌∷◌, ◌++◌, length, take, drop, set, replicate, sym, refl, ap, ◌∙◌, add-one, arith, length-set, take-take, take-suc-set, ltb-true}
use native.Mathlib.Nat.{sub-zero}
use lib.ListN.{length-replicate}
use lib.Seq.{take-nil}
use Rattle.reader.specs.declared.Line.{Line}
use Rattle.grammar.specs.declared.Form.{Form}
use Rattle.grammar.specs.Grammar.{pool, parts_most, longs_most, is_table, wanted, named, begun}
use Rattle.grammar.specs.declared.Phase.{Phase}
use Rattle.grammar.specs.declared.Phase.TheVariants.{Empty, Name, Gap, Zero, Prefix, Comment, Malformed}
use Rattle.grammar.specs.Phase.{hash, space, blank}
use Rattle.numeral.specs.Digit.{ex, numeral, base}
use Rattle.reader.specs.Reader.{Reader, reader_over, on_line, fresh_line, past, line_of, malformed, kind, bound_of, grown}
use Rattle.reader.specs.Reader.{digit_read, number_in, number_read, after, finished, word_taken, count_taken, long_taken, taken, letters_end}
use Rattle.reader.specs.Reader.{name_ended, name_read, first_read, blank_in, blank_read, act_in, act, step, reads, settled_in, settled, at_end}
use Rattle.protocol.specs.Said.{slice, cuts, said_in, said, start, line_says, PoolsForgotten}
use Rattle.model.proofs.Logic.{by_test}

-- ---- lists

-- a part that ends in what is the same is the same
slice-take : (from to : ℕ) (xs : List ℕ) → slice from to xs ≡ drop from (take to xs)
slice-take zero to xs = rw sub-zero
slice-take (suc from) zero xs = let e : zero - suc from ≡ 0 = omega arith in rw e
slice-take (suc from) (suc to) [] = take-nil (suc to - suc from)
slice-take (suc from) (suc to) (x ∷ xs) = let e : suc to - suc from ≡ to - from = omega arith in rw e (slice-take from to xs)

slice-same : (u from to : ℕ) (xs ys : List ℕ) → to ≤ u → take u xs ≡ take u ys → slice from to xs ≡ slice from to ys
slice-same u from to xs ys h q =
    slice-take from to xs
    ∙ ap (λ (l : List ℕ). drop from l) (sym (take-take to u xs h) ∙ ap (λ (l : List ℕ). take to l) q ∙ take-take to u ys h)
    ∙ sym (slice-take from to ys)

Below : ℕ → List ℕ → Type 0
Below u [] = Unit
Below u (x ∷ xs) = (x ≤ u) × Below u xs

below_more : (u v : ℕ) (xs : List ℕ) → u ≤ v → Below u xs → Below v xs
unfolding Below
below_more u v [] h b = tt
below_more u v (x ∷ xs) h b = (omega arith, below_more u v xs h b.1)

below-also : (u x : ℕ) (xs : List ℕ) → Below u xs → x ≤ u → Below u (xs ++ (x ∷ []))
unfolding Below
below-also u x [] b h = (h, tt)
below-also u x (y ∷ ys) b h = (b.0, below-also u x ys b.1 h)

cuts-same : (u from : ℕ) (es xs ys : List ℕ) → Below u es → take u xs ≡ take u ys → cuts from es xs ≡ cuts from es ys
unfolding Below
cuts-same u from [] xs ys b q = refl
cuts-same u from (e ∷ es) xs ys b q = rw (slice-same u from e xs ys b.0 q, cuts-same u e es xs ys b.1 q)

-- one more at the end of what is the same
more_same : (i a m : ℕ) (xs ys : List ℕ) → length xs ≡ m → length ys ≡ m → i < m → take i xs ≡ take i ys
    → take (i + 1) (set xs i a) ≡ take (i + 1) (set ys i a)
more_same i a m xs ys lx ly h q =
    let hx : i < length xs = omega arith in
    let hy : i < length ys = omega arith in
    rw (add-one i, take-suc-set xs i a hx, take-suc-set ys i a hy, q)

-- ---- pools

record Sized (w e n : List ℕ) : Type 0 where
  words : length w ≡ pool
  ends : length e ≡ parts_most
  longs : length n ≡ longs_most

-- the same as far as u words, m ends and k long numbers
record Same (u m k : ℕ) (w e n w' e' n' : List ℕ) : Type 0 where
  words : take u w ≡ take u w'
  ends : take m e ≡ take m e'
  longs : take k n ≡ take k n'
  small : Below u (take m e)
  left : Sized w e n
  right : Sized w' e' n'

record Alike (r s : Reader) : Type 0 where
  line : r.line ≡ s.line
  same : Same r.line.used r.line.marked r.line.stored r.words r.ends r.longs s.words s.ends s.longs

module _ (l : Line) (w e n w' e' n' : List ℕ) (S : Same l.used l.marked l.stored w e n w' e' n') where
  alike-line : (x : Line) → x.used ≡ l.used → x.marked ≡ l.marked → x.stored ≡ l.stored → Alike (reader_over x w e n) (reader_over x w' e' n')
  alike-line x u m k = record { line = refl; same = rw (u, m, k) S }

  alike-first : (x : Line) → x.used ≡ 0 → x.marked ≡ 0 → x.stored ≡ 0 → Alike (reader_over x w e n) (reader_over x w' e' n')
  unfolding Below
  alike-first x u m k = record {
    line = refl;
    same = rw (u, m, k) record { words = refl; ends = refl; longs = refl; small = tt; left = S.left; right = S.right };
  }

-- ---- what is taken

alike-finished : (l : Line) (u : ℕ) (w e n w' e' n' : List ℕ) → l.used ≤ u → Below l.used (take l.marked e)
    → Same u l.marked l.stored w e n w' e' n'
    → Alike (finished (reader_over l w e n) u) (finished (reader_over l w' e' n') u)
unfolding finished after malformed
alike-finished l u w e n w' e' n' h b S =
    by_test (ltb l.marked parts_most)
    (λ q.
    let m : l.marked < parts_most = ltb-true _ _ q in
    let hm : l.marked < length e = omega (arith, S.left.ends) in
    rw q record {
      line = refl;
      same = record {
        words = S.words;
        ends = more_same l.marked u parts_most e e' S.left.ends S.right.ends m S.ends;
        longs = S.longs;
        small = rw (add-one l.marked, take-suc-set e l.marked u hm) (below-also u u (take l.marked e) S.small (omega arith));
        left = record { words = S.left.words; ends = length-set e _ _ ∙ S.left.ends; longs = S.left.longs };
        right = record { words = S.right.words; ends = length-set e' _ _ ∙ S.right.ends; longs = S.right.longs };
      };
    })
    (λ q. rw q record {
      line = refl;
      same = record {
        words = sym (take-take l.used u w h) ∙ ap (λ (x : List ℕ). take l.used x) S.words ∙ take-take l.used u w' h;
        ends = S.ends;
        longs = S.longs;
        small = b;
        left = S.left;
        right = S.right;
      };
    })

module _ (l : Line) (w e n w' e' n' : List ℕ) (S : Same l.used l.marked l.stored w e n w' e' n') where
  -- one more word in the pool
  word_same : l.used < pool
      → Same (l.used + 1) l.marked l.stored (set w l.used l.value) e n (set w' l.used l.value) e' n'
  word_same h = record {
    words = more_same l.used l.value pool w w' S.left.words S.right.words h S.words;
    ends = S.ends;
    longs = S.longs;
    small = below_more l.used (l.used + 1) (take l.marked e) (omega arith) S.small;
    left = record { words = length-set w _ _ ∙ S.left.words; ends = S.left.ends; longs = S.left.longs };
    right = record { words = length-set w' _ _ ∙ S.right.words; ends = S.right.ends; longs = S.right.longs };
  }

  alike-word : Alike (word_taken (reader_over l w e n)) (word_taken (reader_over l w' e' n'))
  unfolding word_taken malformed
  alike-word =
      by_test (ltb l.used pool)
      (λ q.
      let u = word_same (ltb-true _ _ q) in
      by_test (ltb l.left 2)
      (λ z. rw (q, z) (alike-finished l (l.used + 1) _ e n _ e' n' (omega arith) S.small u))
      (λ z. rw (q, z) record { line = refl; same = u }))
      (λ q. rw q (alike-line l w e n w' e' n' S _ refl refl refl))

  alike-count : Alike (count_taken (reader_over l w e n)) (count_taken (reader_over l w' e' n'))
  unfolding count_taken
  alike-count =
      by_test (eqb l.value 0)
      (λ q. rw q (alike-finished l l.used w e n w' e' n' (omega arith) S.small S))
      (λ q. rw q (alike-line l w e n w' e' n' S _ refl refl refl))

  alike-long : Alike (long_taken (reader_over l w e n)) (long_taken (reader_over l w' e' n'))
  unfolding long_taken after malformed
  alike-long =
      by_test (ltb l.stored longs_most)
      (λ q. rw q record {
        line = refl;
        same = record {
          words = S.words;
          ends = S.ends;
          longs = more_same l.stored l.value longs_most n n' S.left.longs S.right.longs (ltb-true _ _ q) S.longs;
          small = S.small;
          left = record { words = S.left.words; ends = S.left.ends; longs = length-set n _ _ ∙ S.left.longs };
          right = record { words = S.right.words; ends = S.right.ends; longs = length-set n' _ _ ∙ S.right.longs };
        };
      })
      (λ q. rw q (alike-line l w e n w' e' n' S _ refl refl refl))

  alike-taken : Alike (taken (reader_over l w e n)) (taken (reader_over l w' e' n'))
  unfolding taken
  alike-taken =
      by_test (ltb 0 l.left)
      (λ q. rw q alike-word)
      (λ q. by_test (is_table (kind l)) (λ z. rw (q, z) alike-count) (λ z. rw (q, z) alike-long))

  -- ---- a byte

  alike-digit : (b : ℕ) → Alike (reader_over (digit_read l b) w e n) (reader_over (digit_read l b) w' e' n')
  unfolding digit_read malformed
  alike-digit b =
      by_test (ltb (numeral b) (base l.phase))
      (λ q. by_test (ltb (grown l b) (bound_of l))
      (λ z. rw (q, z) (alike-line l w e n w' e' n' S _ refl refl refl))
      (λ z. rw (q, z) (alike-line l w e n w' e' n' S _ refl refl refl)))
      (λ q. rw q (alike-line l w e n w' e' n' S _ refl refl refl))

  alike-number-in : (p : Phase) (b : ℕ) → Alike (reader_over (number_in p l b) w e n) (reader_over (number_in p l b) w' e' n')
  alike-number-in Zero b =
      by_test (eqb b ex)
      (λ z. rw z (alike-line l w e n w' e' n' S _ refl refl refl))
      (λ z. rw z (alike-digit b))
  alike-number-in _ b = alike-digit b

  alike-number : (b : ℕ) → Alike (reader_over (number_read l b) w e n) (reader_over (number_read l b) w' e' n')
  unfolding number_read
  alike-number b = alike-number-in l.phase b

  alike-ended : (f : Option Form) → Alike (reader_over (name_ended l f) w e n) (reader_over (name_ended l f) w' e' n')
  unfolding malformed
  alike-ended None = alike-line l w e n w' e' n' S _ refl refl refl
  alike-ended (Some form) = alike-first l w e n w' e' n' S _ refl refl refl

  alike-name : (b : ℕ) → Alike (reader_over (name_read l b) w e n) (reader_over (name_read l b) w' e' n')
  unfolding name_read malformed
  alike-name b =
      by_test (blank b)
      (λ q. rw q (alike-ended (named l.value)))
      (λ q. by_test (ltb l.value letters_end)
      (λ z. by_test (begun (l.value * 256 + b))
      (λ y. rw (q, z, y) (alike-line l w e n w' e' n' S _ refl refl refl))
      (λ y. rw (q, z, y) (alike-line l w e n w' e' n' S _ refl refl refl)))
      (λ z. rw (q, z) (alike-line l w e n w' e' n' S _ refl refl refl)))

  alike-begun : (b : ℕ) → Alike (reader_over (first_read l b) w e n) (reader_over (first_read l b) w' e' n')
  unfolding first_read
  alike-begun b =
      by_test (blank b)
      (λ q. rw q (alike-line l w e n w' e' n' S _ refl refl refl))
      (λ q. by_test (eqb b hash)
      (λ z. rw (q, z) (alike-line l w e n w' e' n' S _ refl refl refl))
      (λ z. rw (q, z) (alike-name b)))

  alike-blank-in : (p : Phase) → Alike (blank_in p (reader_over l w e n)) (blank_in p (reader_over l w' e' n'))
  unfolding malformed
  alike-blank-in Gap = alike-line l w e n w' e' n' S l refl refl refl
  alike-blank-in Prefix = alike-line l w e n w' e' n' S _ refl refl refl
  alike-blank-in _ = alike-taken

  alike-blank : Alike (blank_read (reader_over l w e n)) (blank_read (reader_over l w' e' n'))
  unfolding blank_read
  alike-blank = alike-blank-in l.phase

  alike-act-in : (p : Phase) (b : ℕ) → Alike (act_in p (reader_over l w e n) b) (act_in p (reader_over l w' e' n') b)
  alike-act-in Empty b = alike-begun b
  alike-act-in Name b = alike-name b
  alike-act-in Comment b = alike-line l w e n w' e' n' S l refl refl refl
  alike-act-in Malformed b = alike-line l w e n w' e' n' S l refl refl refl
  alike-act-in _ b = by_test (blank b) (λ x. rw x alike-blank) (λ x. rw x (alike-number b))

  alike-act : (b : ℕ) → Alike (act (reader_over l w e n) b) (act (reader_over l w' e' n') b)
  unfolding act
  alike-act b = alike-act-in l.phase b

-- ---- a line

-- readers that are alike have one line
on-one-line : (r s : Reader) → Alike r s → s ≡ on_line s r.line
on-one-line r s A = ap (λ (x : Line). on_line s x) (sym A.line)

alike-acts : (r s : Reader) (b : ℕ) → Alike r s → Alike (act r b) (act s b)
alike-acts r s b A = rw (on-one-line r s A) (alike-act r.line r.words r.ends r.longs s.words s.ends s.longs A.same b)

alike-step : (r s : Reader) (b : ℕ) → Alike r s → Alike (step r b) (step s b)
unfolding step
alike-step r s b A =
    let B = alike-acts r s b A in
    let t = (act s b).line in
    record {
      line = ap (λ (x : Line). line_of x x.phase (past r.line.at 1) x.stop x.value) B.line
          ∙ ap (λ (x : Line). line_of t t.phase (past x.at 1) t.stop t.value) A.line;
      same = B.same;
    }

alike-reads : (r s : Reader) (bytes : List ℕ) → Alike r s → Alike (reads r bytes) (reads s bytes)
unfolding reads
alike-reads r s [] A = A
alike-reads r s (b ∷ bs) A = alike-reads (step r b) (step s b) bs (alike-step r s b A)

settled-counts-in : (p : Phase) (l : Line)
    → ((settled_in p l).used ≡ l.used) × ((settled_in p l).marked ≡ l.marked) × ((settled_in p l).stored ≡ l.stored)
unfolding malformed
settled-counts-in Gap l = by_test (wanted (kind l) l.left) (λ z. rw z (refl, refl, refl)) (λ z. rw z (refl, refl, refl))
settled-counts-in _ l = (refl, refl, refl)

settled-counts : (l : Line) → ((settled l).used ≡ l.used) × ((settled l).marked ≡ l.marked) × ((settled l).stored ≡ l.stored)
unfolding settled
settled-counts l = settled-counts-in l.phase l

alike_end : (r s : Reader) → Alike r s → Alike (at_end r) (at_end s)
unfolding at_end
alike_end r s A =
    let B = alike-acts r s space A in
    let t = act r space in
    let c = settled-counts t.line in
    record { line = ap settled B.line; same = rw (c.0, c.1, c.2) B.same }

-- ---- what it says

module _ (l : Line) (w e n w' e' n' : List ℕ) (S : Same l.used l.marked l.stored w e n w' e' n') where
  said-in : (p : Phase) → said_in p (reader_over l w e n) ≡ said_in p (reader_over l w' e' n')
  said-in Malformed = refl
  said-in Gap =
      let parts : cuts 0 (take l.marked e) w ≡ cuts 0 (take l.marked e') w' =
      cuts-same l.used 0 (take l.marked e) w w' S.small S.words ∙ ap (λ (x : List ℕ). cuts 0 x w') S.ends
      in
      rw (parts, S.longs)
  said-in _ = refl

said-alike : (r s : Reader) → Alike r s → said r ≡ said s
unfolding said
said-alike r s A = rw (on-one-line r s A) (said-in r.line r.words r.ends r.longs s.words s.ends s.longs A.same r.line.phase)

zeros : Sized (replicate pool 0) (replicate parts_most 0) (replicate longs_most 0)
zeros = record {
  words = length-replicate {A = ℕ} pool 0;
  ends = length-replicate {A = ℕ} parts_most 0;
  longs = length-replicate {A = ℕ} longs_most 0;
}

start-alike : (w e n : List ℕ) → Sized w e n → Alike (reader_over fresh_line w e n) start
unfolding start Below
start-alike w e n P = record {
  line = refl;
  same = record {
    words = refl;
    ends = refl;
    longs = refl;
    small = tt;
    left = P;
    right = zeros;
  };
}

pub pools-forgotten : PoolsForgotten
unfolding line_says
pools-forgotten bytes w e n hw he hn =
    let A = start-alike w e n record { words = hw; ends = he; longs = hn } in
    said-alike _ _ (alike_end _ _ (alike-reads _ _ bytes A))
