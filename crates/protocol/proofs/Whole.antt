-- A request has all the parts of its row, one after the other in the pool.
use Rattle.std.proofs.Common.{◌≡◌, ℕ, zero, suc, ◌+◌, ◌*◌, ◌<◌, ◌≤◌, Option, None, Some, Bool, true, false, eqb, ltb, List, [], ◌∷◌, ◌++◌, length, get_or, take, drop, set, sym, refl, ap, ◌∙◌, add-one, arith, length-set, drop-cons, take-suc-set, ltb-false, ltb-true, le-ltb, lt-ltb, eqb-true}
use lib.ListN.{get_or-eq_default}
use mathlib.Core.Bool.{false≢true}
use Rattle.reader.specs.declared.Line.{Line}
use Rattle.model.specs.Question.{pick}
use Rattle.grammar.specs.declared.Form.{Form}
use Rattle.grammar.specs.declared.Form.TheVariants.{Check, Memory, Entry, Run}
use Rattle.grammar.specs.declared.Part.{Part}
use Rattle.grammar.specs.declared.Part.TheVariants.{Done, Table, Long, Words}
use Rattle.grammar.specs.Grammar.{pool, parts_most, longs_most, is_table, is_long, given, row_of, part_at, is_words, word_parts, long_parts}
use Rattle.grammar.specs.Grammar.{wanted, named, begun}
use Rattle.grammar.specs.declared.Phase.{Phase}
use Rattle.grammar.specs.declared.Phase.TheVariants.{Empty, Name, Gap, Zero, Prefix, Comment, Malformed}
use Rattle.grammar.specs.Phase.{in_parts, hash, space, blank}
use Rattle.numeral.specs.Digit.{ex, numeral, base}
use Rattle.reader.specs.Reader.{Reader, reader_over, on_line, fresh_line, line_of, malformed, kind, bound_of, grown, letters_end}
use Rattle.reader.specs.Reader.{digit_read, number_in, number_read, after, finished, word_taken, count_taken, long_taken, taken}
use Rattle.reader.specs.Reader.{name_ended, name_read, first_read, blank_in, blank_read, act_in, act, step, reads, settled_in, settled, at_end, Fine}
use Rattle.protocol.specs.Said.{InOrder, Whole, RequestsWhole}
use Rattle.model.proofs.Logic.{by_test}
use Rattle.grammar.proofs.Rows.{wanted-word, wanted-count, wanted-other, bound-none}
use Rattle.reader.proofs.Keeps.{fine-fresh, fine-act, fine-step}

-- ---- rows

clash : {P : Type 0} → ◌≡◌ {A = Bool} true false → P
clash e = let z : ◌≡◌ {A = ℕ} 0 1 = cc in absurd (omega arith)

-- after a part that is neither words nor a long number there is none
none : Part → Bool
none k = pick (is_words k) false (pick (is_long k) false true)

tidy : List Part → Bool
tidy [] = true
tidy (k ∷ ks) = pick (none k) (pick (eqb (word_parts ks) 0) (eqb (long_parts ks) 0) false) (tidy ks)

tidy-rows : (f : Form) → tidy (row_of f) ≡ true
unfolding row_of tidy none is_words word_parts long_parts
tidy-rows Check = refl
tidy-rows Memory = refl
tidy-rows Entry = refl
tidy-rows Run = refl

-- the counts of a row with one part more in front
none-counts : (k : Part) (ks : List Part) → none k ≡ true → (word_parts (k ∷ ks) ≡ word_parts ks) × (long_parts (k ∷ ks) ≡ long_parts ks)
unfolding none word_parts long_parts
none-counts k ks e =
    by_test (is_words k)
    (λ q. clash (sym (rw q at e)))
    (λ q. by_test (is_long k)
    (λ z. clash (sym (rw (q, z) at e)))
    (λ z. (rw q, rw z)))

words-less : (k : Part) (ks : List Part) → word_parts (k ∷ ks) ≡ 0 → word_parts ks ≡ 0
unfolding word_parts
words-less k ks a = by_test (is_words k) (λ q. let z : suc (word_parts ks) ≡ 0 = rw q at a in absurd (omega arith)) (λ q. rw q at a)

longs-less : (k : Part) (ks : List Part) → long_parts (k ∷ ks) ≡ 0 → long_parts ks ≡ 0
unfolding long_parts
longs-less k ks b = by_test (is_long k) (λ q. let z : suc (long_parts ks) ≡ 0 = rw q at b in absurd (omega arith)) (λ q. rw q at b)

all_none : (ks : List Part) (p : ℕ) → word_parts ks ≡ 0 → long_parts ks ≡ 0 → (word_parts (drop p ks) ≡ 0) × (long_parts (drop p ks) ≡ 0)
all_none ks zero a b = (a, b)
all_none [] (suc p) a b = (a, b)
all_none (k ∷ ks) (suc p) a b = all_none ks p (words-less k ks a) (longs-less k ks b)

tidy-rest : (ks : List Part) → tidy ks ≡ true → (p : ℕ) → none (get_or ks p Done) ≡ true → (word_parts (drop p ks) ≡ 0) × (long_parts (drop p ks) ≡ 0)
unfolding tidy word_parts long_parts
tidy-rest [] t p e = all_none [] p refl refl
tidy-rest (k ∷ ks) t zero e =
    let (a, b) = none-counts k ks e in
    by_test (eqb (word_parts ks) 0)
    (λ q. let t' : eqb (long_parts ks) 0 ≡ true = rw (e, q) at t in (a ∙ eqb-true _ _ q, b ∙ eqb-true _ _ t'))
    (λ q. clash (sym (rw (e, q) at t)))
tidy-rest (k ∷ ks) t (suc p) e =
    by_test (none k)
    (λ q. by_test (eqb (word_parts ks) 0)
    (λ z. let t' : eqb (long_parts ks) 0 ≡ true = rw (q, z) at t in all_none ks p (eqb-true _ _ z) (eqb-true _ _ t'))
    (λ z. clash (sym (rw (q, z) at t))))
    (λ q. tidy-rest ks (rw q at t) p e)

-- ---- one part

given-words : (k : Part) → 0 < given k → is_words k ≡ true
unfolding is_words
given-words k h = by_test (is_table k) (λ q. rw q) (λ q. rw (q, lt-ltb 0 (given k) h))

table-words : (k : Part) → is_table k ≡ true → is_words k ≡ true
unfolding is_words
table-words k e = rw e

words-some : (k : Part) → is_words k ≡ true → k ≡ Done → ⊥
unfolding is_words
words-some k w e = clash (sym (rw e at w))

long-some : (k : Part) → is_long k ≡ true → k ≡ Done → ⊥
long-some k w e = clash (sym (rw e at w))

-- a table has no words before its count
table-none : (k : Part) → is_table k ≡ true → given k ≡ 0
table-none Done w = clash (sym w)
table-none Table w = refl
table-none Long w = clash (sym w)
table-none (Words n) w = clash (sym w)

words-not-long : (k : Part) → is_words k ≡ true → is_long k ≡ false
unfolding is_words
words-not-long Done w = refl
words-not-long Table w = refl
words-not-long Long w = clash (sym w)
words-not-long (Words n) w = refl

words_count : (k : Part) (ks : List Part) → is_words k ≡ true → (word_parts (k ∷ ks) ≡ suc (word_parts ks)) × (long_parts (k ∷ ks) ≡ long_parts ks)
unfolding word_parts long_parts
words_count k ks w = (rw w, rw (words-not-long k w))

long-count : (k : Part) (ks : List Part) → is_long k ≡ true → (word_parts (k ∷ ks) ≡ word_parts ks) × (long_parts (k ∷ ks) ≡ suc (long_parts ks))
unfolding word_parts long_parts is_words
long-count Done ks e = clash (sym e)
long-count Table ks e = clash (sym e)
long-count Long ks e = (refl, refl)
long-count (Words n) ks e = clash (sym e)

rest-cons : (f : Form) (p : ℕ) → (part_at f p ≡ Done → ⊥) → drop p (row_of f) ≡ part_at f p ∷ drop (p + 1) (row_of f)
unfolding part_at
rest-cons f p n =
    by_test (ltb p (length (row_of f)))
    (λ q. rw (add-one p) (drop-cons (row_of f) p Done (ltb-true _ _ q)))
    (λ q. absurd (n (get_or-eq_default (row_of f) Done (ltb-false _ _ q))))

-- ---- ends in order

order-more : (a t u : ℕ) (es : List ℕ) → t ≤ u → InOrder a es t → InOrder a es u
unfolding InOrder
order-more a t u [] h o = omega arith
order-more a t u (e ∷ es) h o = (o.0, order-more e t u es h o.1)

order-also : (a t u : ℕ) (es : List ℕ) → t ≤ u → InOrder a es t → InOrder a (es ++ (u ∷ [])) u
unfolding InOrder
order-also a t u [] h o = (omega arith, omega arith)
order-also a t u (e ∷ es) h o = (o.0, order-also e t u es h o.1)

-- ---- what a line keeps inside its parts

record Inner (form : Form) (part left used marked stored : ℕ) (ends : List ℕ) : Type 0 where
  marks : marked + word_parts (drop part (row_of form)) ≡ word_parts (row_of form)
  stores : stored + long_parts (drop part (row_of form)) ≡ long_parts (row_of form)
  inside : 0 < left → is_words (part_at form part) ≡ true
  begun : 0 < given (part_at form part) → 0 < left
  ordered : InOrder 0 (take marked ends) used

abbrev InnerOf : Line → List ℕ → Type 0
InnerOf l e = Inner l.form l.part l.left l.used l.marked l.stored e

record Kept (r : Reader) : Type 0 where
  sized : length r.ends ≡ parts_most
  inner : in_parts r.line.phase ≡ true → InnerOf r.line r.ends

-- the next part after words, and after a long number
inner-words : (l : Line) (e : List ℕ) (u : ℕ) → InnerOf l e → is_words (kind l) ≡ true → l.used ≤ u → l.marked < length e
    → InnerOf (after l u (l.marked + 1) l.stored) (set e l.marked u)
unfolding after
inner-words l e u I w h m =
    let c = rest-cons l.form l.part (words-some (kind l) w) in
    let (a, b) = words_count (kind l) (drop (l.part + 1) (row_of l.form)) w in
    let x = ap word_parts c ∙ a in
    let y = ap long_parts c ∙ b in
    record {
      marks = omega (arith, I.marks);
      stores = omega (arith, I.stores);
      inside = λ g. given-words _ g;
      begun = λ g. g;
      ordered = rw (add-one l.marked, take-suc-set e l.marked u m) (order-also 0 l.used u (take l.marked e) h I.ordered);
    }

inner-long : (l : Line) (e : List ℕ) → InnerOf l e → is_long (kind l) ≡ true → InnerOf (after l l.used l.marked (l.stored + 1)) e
unfolding after
inner-long l e I k =
    let c = rest-cons l.form l.part (long-some (kind l) k) in
    let (a, b) = long-count (kind l) (drop (l.part + 1) (row_of l.form)) k in
    let x = ap word_parts c ∙ a in
    let y = ap long_parts c ∙ b in
    record {
      marks = omega (arith, I.marks);
      stores = omega (arith, I.stores);
      inside = λ g. given-words _ g;
      begun = λ g. g;
      ordered = I.ordered;
    }

-- ---- what is taken

kept-malformed : (l : Line) (w e n : List ℕ) → length e ≡ parts_most → Kept (reader_over (malformed l) w e n)
unfolding malformed
kept-malformed l w e n s = record { sized = s; inner = λ g. absurd (false≢true g) }

module _ (l : Line) (w e n : List ℕ) (s : length e ≡ parts_most) (I : InnerOf l e) where
  kept_line : (p : Phase) (a t v : ℕ) → Kept (reader_over (line_of l p a t v) w e n)
  kept_line p a t v = record { sized = s; inner = λ g. I }

  kept-finished : (x : List ℕ) (u : ℕ) → is_words (kind l) ≡ true → l.used ≤ u → Kept (finished (reader_over l x e n) u)
  unfolding finished
  kept-finished x u k h =
      by_test (ltb l.marked parts_most)
      (λ q. rw q record { sized = length-set e _ _ ∙ s; inner = λ g. inner-words l e u I k h (omega (arith, ltb-true l.marked parts_most q)) })
      (λ q. rw q (kept-malformed l x e n s))

  kept_word : 0 < l.left → Kept (word_taken (reader_over l w e n))
  unfolding word_taken
  kept_word h =
      by_test (ltb l.used pool)
      (λ q. by_test (ltb l.left 2)
      (λ z. rw (q, z) (kept-finished _ (l.used + 1) (I.inside h) (omega arith)))
      (λ z.
      let more = ltb-false l.left 2 z in
      rw (q, z) record {
        sized = s;
        inner = λ g. record {
          marks = I.marks;
          stores = I.stores;
          inside = λ _. I.inside h;
          begun = λ _. omega arith;
          ordered = order-more 0 l.used (l.used + 1) (take l.marked e) (omega arith) I.ordered;
        };
      }))
      (λ q. rw q (kept-malformed l w e n s))

  kept-count : is_table (kind l) ≡ true → Kept (count_taken (reader_over l w e n))
  unfolding count_taken
  kept-count k =
      by_test (eqb l.value 0)
      (λ q. rw q (kept-finished w l.used (table-words _ k) (omega arith)))
      (λ q. rw q record {
        sized = s;
        inner = λ g. record {
          marks = I.marks;
          stores = I.stores;
          inside = λ _. table-words _ k;
          begun = λ z. absurd (omega (arith, table-none (kind l) k));
          ordered = I.ordered;
        };
      })

  kept-long : is_long (kind l) ≡ true → Kept (long_taken (reader_over l w e n))
  unfolding long_taken
  kept-long k =
      by_test (ltb l.stored longs_most)
      (λ q. rw q record { sized = s; inner = λ g. inner-long l e I k })
      (λ q. rw q (kept-malformed l w e n s))

  -- where a number fits that is no word and no count, it is a long one
  kept-taken : l.value < bound_of l → Kept (taken (reader_over l w e n))
  unfolding taken
  kept-taken v =
      by_test (ltb 0 l.left)
      (λ q. rw q (kept_word (ltb-true _ _ q)))
      (λ q. by_test (is_table (kind l))
      (λ z. rw (q, z) (kept-count z))
      (λ z. by_test (is_long (kind l))
      (λ y. rw (q, z) (kept-long y))
      (λ y.
      let u = sym (wanted-other (kind l) l.left (ltb-false 0 l.left q) z) ∙ y in
      let g = bound-none (kind l) l.left l.used u in
      absurd (omega arith))))

  -- ---- a byte

  kept-digit : (b : ℕ) → Kept (reader_over (digit_read l b) w e n)
  unfolding digit_read
  kept-digit b =
      by_test (ltb (numeral b) (base l.phase))
      (λ q. by_test (ltb (grown l b) (bound_of l))
      (λ z. rw (q, z) (kept_line _ _ _ _))
      (λ z. rw (q, z) (kept-malformed l w e n s)))
      (λ q. rw q (kept-malformed l w e n s))

  kept-number-in : (p : Phase) (b : ℕ) → Kept (reader_over (number_in p l b) w e n)
  kept-number-in Zero b = by_test (eqb b ex) (λ z. rw z (kept_line _ _ _ _)) (λ z. rw z (kept-digit b))
  kept-number-in _ b = kept-digit b

  kept-number : (b : ℕ) → Kept (reader_over (number_read l b) w e n)
  unfolding number_read
  kept-number b = kept-number-in l.phase b

first_inner : (f : Form) (e : List ℕ) → Inner f 0 (given (part_at f 0)) 0 0 0 e
unfolding InOrder
first_inner f e = record {
  marks = omega arith;
  stores = omega arith;
  inside = λ g. given-words _ g;
  begun = λ g. g;
  ordered = omega arith;
}

module _ (l : Line) (w e n : List ℕ) (s : length e ≡ parts_most) where
  kept-ended : (f : Option Form) → Kept (reader_over (name_ended l f) w e n)
  kept-ended None = kept-malformed l w e n s
  kept-ended (Some form) = record { sized = s; inner = λ g. first_inner _ e }

  kept-name : (b : ℕ) → Kept (reader_over (name_read l b) w e n)
  unfolding name_read
  kept-name b =
      by_test (blank b)
      (λ q. rw q (kept-ended (named l.value)))
      (λ q. by_test (ltb l.value letters_end)
      (λ z. by_test (begun (l.value * 256 + b))
      (λ y. rw (q, z, y) record { sized = s; inner = λ g. absurd (false≢true g) })
      (λ y. rw (q, z, y) (kept-malformed l w e n s)))
      (λ z. rw (q, z) (kept-malformed l w e n s)))

  kept-first : (b : ℕ) → Kept (reader_over l w e n) → Kept (reader_over (first_read l b) w e n)
  unfolding first_read
  kept-first b K =
      by_test (blank b)
      (λ q. rw q K)
      (λ q. by_test (eqb b hash)
      (λ z. rw (q, z) record { sized = s; inner = λ g. absurd (false≢true g) })
      (λ z. rw (q, z) (kept-name b)))

kept-blank-in : (p : Phase) (r : Reader) → r.line.phase ≡ p → Fine r.line → Kept r → in_parts p ≡ true → Kept (blank_in p r)
kept-blank-in Gap r e F K h = K
kept-blank-in Prefix r e F K h = kept-malformed r.line r.words r.ends r.longs K.sized
kept-blank-in _ r e F K h = kept-taken r.line r.words r.ends r.longs K.sized (K.inner (rw e h)) (F.number (rw e h)).1

kept-blank : (r : Reader) → Fine r.line → Kept r → in_parts r.line.phase ≡ true → Kept (blank_read r)
unfolding blank_read
kept-blank r F K h = kept-blank-in r.line.phase r refl F K h

kept-act-in : (p : Phase) (r : Reader) (b : ℕ) → r.line.phase ≡ p → Fine r.line → Kept r → Kept (act_in p r b)
kept-act-in Empty r b e F K = kept-first r.line r.words r.ends r.longs K.sized b K
kept-act-in Name r b e F K = kept-name r.line r.words r.ends r.longs K.sized b
kept-act-in Comment r b e F K = K
kept-act-in Malformed r b e F K = K
kept-act-in _ r b e F K =
    by_test (blank b)
    (λ x. rw x (kept-blank r F K (rw e)))
    (λ x. rw x (kept-number r.line r.words r.ends r.longs K.sized (K.inner (rw e)) b))

kept-act : (r : Reader) (b : ℕ) → Fine r.line → Kept r → Kept (act r b)
unfolding act
kept-act r b F K = kept-act-in r.line.phase r b refl F K

kept_step : (r : Reader) (b : ℕ) → Fine r.line → Kept r → Kept (step r b)
unfolding step
kept_step r b F K = let A = kept-act r b F K in record { sized = A.sized; inner = λ g. A.inner g }

kept-reads : (r : Reader) (bytes : List ℕ) → Fine r.line → Kept r → Fine (reads r bytes).line × Kept (reads r bytes)
unfolding reads
kept-reads r [] F K = (F, K)
kept-reads r (b ∷ bs) F K = kept-reads (step r b) bs (fine-step r b F) (kept_step r b F K)

-- ---- at the end

-- where nothing more is wanted, the row is at its end
row-ended : (l : Line) (e : List ℕ) → InnerOf l e → wanted (kind l) l.left ≡ false → none (kind l) ≡ true
unfolding none is_words
row-ended l e I u =
    by_test (ltb 0 l.left)
    (λ q. clash (wanted-word (kind l) l.left (ltb-true _ _ q) ∙ u))
    (λ q.
    let z = ltb-false 0 l.left q in
    by_test (is_table (kind l))
    (λ y. clash (wanted-count (kind l) l.left z y ∙ u))
    (λ y.
    let g : given (kind l) ≤ 0 = by_test (ltb 0 (given (kind l))) (λ x. absurd (omega (arith, I.begun (ltb-true _ _ x)))) (λ x. ltb-false 0 _ x) in
    rw (y, le-ltb 0 (given (kind l)) g, wanted-other (kind l) l.left z y ∙ u)))

settled-whole-in : (p : Phase) (l : Line) → l.phase ≡ p → (settled_in p l).phase ≡ Gap
    → (settled_in p l ≡ l) × (p ≡ Gap) × (wanted (kind l) l.left ≡ false)
unfolding malformed
settled-whole-in Gap l e p =
    by_test (wanted (kind l) l.left)
    (λ z. let y : ◌≡◌ {A = Phase} Malformed Gap = rw z at p in cc)
    (λ z. (rw z, refl, z))
settled-whole-in _ l e p = cc

settled-whole : (l : Line) → (settled l).phase ≡ Gap → (settled l ≡ l) × (l.phase ≡ Gap) × (wanted (kind l) l.left ≡ false)
unfolding settled
settled-whole l p = settled-whole-in l.phase l refl p

whole_by : (r : Reader) → Fine r.line → Kept r → r.line.phase ≡ Gap → wanted (kind r.line) r.line.left ≡ false → Whole r
unfolding part_at
whole_by r F K p u =
    let I = K.inner (rw p) in
    let (a, b) = tidy-rest (row_of r.line.form) (tidy-rows r.line.form) r.line.part (row-ended r.line r.ends I u) in
    record { parts = omega (arith, I.marks); longs = omega (arith, I.stores); ordered = I.ordered; held = F.used }

whole-at : (r : Reader) → Fine r.line → Kept r → (on_line r (settled r.line)).line.phase ≡ Gap → Whole (on_line r (settled r.line))
whole-at r F K p =
    let (e, g, u) = settled-whole r.line p in
    rw e (whole_by r F K g u)

pub requests-whole : RequestsWhole
unfolding at_end
requests-whole bytes w e n s p =
    let start = reader_over fresh_line w e n in
    let K : Kept start = record { sized = s; inner = λ g. absurd (false≢true g) } in
    let (F, J) = kept-reads start bytes (fine-fresh fresh_line refl) K in
    whole-at (act (reads start bytes) space) (fine-act (reads start bytes) space F) (kept-act (reads start bytes) space F J) p
