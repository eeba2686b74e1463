-- The questions of tables, Q1 to Q6, Q16 and Q17, have no no exactly when the rules of specs/Exactness.antt hold.
use mathlib.Core.Path.{◌≡◌, refl, sym, ap, ◌∙◌}
use mathlib.Core.Logic.{◌↔◌}
use mathlib.Core.Bool.{Bool, true, false}
use mathlib.Core.List.{List}
use Prim.Native.Nat.{ℕ, zero, suc, ◌+◌, ◌≤◌, ◌<◌}
use native.Mathlib.Omega.{arith}
use native.Mathlib.Nat.{add-zero}
use lib.Dec.{ltb, leb, eqb}
use lib.ListN.{length, get_or}
use borrow.Author.Tests.{eqb-true, eq-eqb, ltb-true, lt-ltb, le-ltb, leb-true, le-leb}
use Rattle.model.specs.Question.{◌and◌, pick, Refusal, Outcome, ok, asked, first_no, AllPassed}
use Rattle.model.specs.Word.{locked_of}
use Rattle.model.specs.Table.{memory_most, fields_most, type_words, length_most, register_count, rows, head_of, words_of, tables_of, Code, routine_of, start_of}
use Rattle.model.specs.Table.{whole_rows, type_lengths_ask, code_lengths_ask, well_made, count_ask, field_well, fields_ask, tag_ask, types_questions}
use Rattle.model.specs.Table.{blocks_ask, lengths_ask, annotation_well, annotation_ask, annotations_ask, start_ask, memory_length_ask}
use Rattle.model.specs.Exactness.{WholeRows, TypesPass, BlocksPass, AnnotationsPass}
use Rattle.model.proofs.Logic.{by_equality, by_less, and-true, true-and, not-true, every_true, true-every, ask-ok, ok-ask, first_no-ok, ok-first_no}

-- ---- one question, and one question of each row

pub asked-exactly : (b : Bool) (r : Refusal) → (asked b r ≡ ok tt) ↔ (b ≡ true)
asked-exactly b r = (λ e. (ask-ok b r _ e).0, λ e. ok-ask b r _ e)

pub each-exactly : (n : ℕ) (f : ℕ → Outcome (Unit {0})) → (first_no n 0 f ≡ ok tt) ↔ ((k : ℕ) → k < n → f k ≡ ok tt)
each-exactly n f = (λ e k h. first_no-ok n 0 f e k (omega arith) (omega arith), λ h. ok-first_no n 0 f (λ k lo hi. h k (omega arith)))

-- two numbers within bounds
between : (lo hi n : ℕ) → (leb lo n and leb n hi ≡ true) ↔ ((lo ≤ n) × (n ≤ hi))
between lo hi n = (
  λ e. let (a, b) = and-true _ _ e in (leb-true _ _ a, leb-true _ _ b),
  λ (a, b). true-and _ _ (le-leb _ _ a) (le-leb _ _ b),
)

-- ---- Q1 and Q17

whole-exactly : (most n : ℕ) → (whole_rows most n ≡ true) ↔ WholeRows most n
whole-exactly most n = (
  λ e. let (a, e₁) = and-true _ _ e in let (b, c) = and-true _ _ e₁ in (eqb-true _ _ a, leb-true _ _ b, leb-true _ _ c),
  λ (a, b, c). true-and _ _ (eq-eqb _ _ a) (true-and _ _ (le-leb _ _ b) (le-leb _ _ c)),
)

pub type-lengths : (types tags : ℕ) → (type_lengths_ask types tags ≡ ok tt) ↔ (WholeRows 64 types × (tags ≤ 64))
unfolding type_lengths_ask
type-lengths types tags = (
  λ e. let (a, e₁) = ask-ok _ _ _ e in ((whole-exactly 64 types).0 a, leb-true _ _ (ask-ok _ _ _ e₁).0),
  λ (a, b). ok-ask _ _ _ ((whole-exactly 64 types).1 a) ∙ ok-ask _ _ _ (le-leb _ _ b),
)

pub code-lengths : (blocks code : ℕ) → (code_lengths_ask blocks code ≡ ok tt) ↔ (WholeRows 256 blocks × ((1 ≤ code) × (code ≤ 8192)))
unfolding code_lengths_ask
code-lengths blocks code = (
  λ e. let (a, e₁) = ask-ok _ _ _ e in ((whole-exactly 256 blocks).0 a, (between 1 8192 code).0 (ask-ok _ _ _ e₁).0),
  λ (a, b). ok-ask _ _ _ ((whole-exactly 256 blocks).1 a) ∙ ok-ask _ _ _ ((between 1 8192 code).1 b),
)

pub memory-bounds : (n : ℕ) → (memory_length_ask n ≡ ok tt) ↔ ((1 ≤ n) × (n ≤ memory_most))
unfolding memory_length_ask
memory-bounds n = (λ e. (between 1 memory_most n).0 (ask-ok _ _ _ e).0, λ h. ok-ask _ _ _ ((between 1 memory_most n).1 h))

-- ---- Q2, Q3 and Q4

module _ (types tags : List ℕ) where
  abbrev size : ℕ → ℕ
  size t = head_of types t

  abbrev word : ℕ → ℕ → ℕ
  word t f = get_or (words_of types t) f 0

  count-exactly : (t : ℕ) → (count_ask (tables_of types tags) t ≡ ok tt) ↔ ((1 ≤ size t) × (size t ≤ fields_most))
  unfolding count_ask tables_of
  count-exactly t = (λ e. (between 1 fields_most (size t)).0 (ask-ok _ _ _ e).0, λ h. ok-ask _ _ _ ((between 1 fields_most (size t)).1 h))

  tag-exactly : (k : ℕ) → (tag_ask (tables_of types tags) k ≡ ok tt) ↔ (get_or tags k 0 < rows types)
  unfolding tag_ask tables_of
  tag-exactly k = (λ e. ltb-true _ _ (ask-ok _ _ _ e).0, λ h. ok-ask _ _ _ (lt-ltb _ _ h))

  -- the eight words of a row: those of its fields are well made, those past them zero
  pub record WordsWell (t : ℕ) : Type 0 where
    pub fields : (f : ℕ) → f < size t → f < type_words → well_made (rows types) (size t) (word t f) ≡ true
    pub past : (f : ℕ) → size t ≤ f → f < type_words → word t f ≡ 0

  fields-exactly : (t : ℕ) → (fields_ask (tables_of types tags) t ≡ ok tt) ↔ WordsWell t
  unfolding fields_ask field_well tables_of
  fields-exactly t = (
    λ e. let each : (f : ℕ) → f < type_words → pick (ltb f (size t)) (well_made (rows types) (size t) (word t f)) (eqb (word t f) 0) ≡ true =
        λ f h. every_true type_words 0 _ (ask-ok _ _ _ e).0 f (omega arith) (omega arith) in
        record { fields = λ f l h. rw (lt-ltb f (size t) l) at (each f h); past = λ f l h. eqb-true _ _ (rw (le-ltb f (size t) l) at (each f h)) },
    λ W. ok-ask _ _ _ (true-every type_words 0 _ (λ f lo hi.
        by_less f (size t) (λ l. rw (lt-ltb f (size t) l) (W.fields f l (omega arith)))
        (λ l. rw (le-ltb f (size t) l) (eq-eqb _ _ (W.past f l (omega arith)))))),
  )

  pub types-pass : type_lengths_ask (length types) (length tags) ≡ ok tt → AllPassed (types_questions types tags) → TypesPass types tags
  types-pass e (c, (w, (k, u))) =
      let (a, b) = (type-lengths (length types) (length tags)).0 e in
      let counts : (t : ℕ) → t < rows types → (1 ≤ size t) × (size t ≤ fields_most) = λ t h. (count-exactly t).0 ((each-exactly _ _).0 c t h) in
      let well : (t : ℕ) → t < rows types → WordsWell t = λ t h. (fields-exactly t).0 ((each-exactly _ _).0 w t h) in
      record {
        type_rows = a;
        tag_words = b;
        counts = counts;
        fields = λ t f h l. (well t h).fields f l (omega (arith, (counts t h).1));
        past = λ t f h l m. (well t h).past f l m;
        tagged = λ i h. (tag-exactly i).0 ((each-exactly _ _).0 k i h);
      }

  pub pass-types : TypesPass types tags → (type_lengths_ask (length types) (length tags) ≡ ok tt) × AllPassed (types_questions types tags)
  pass-types T = (
    (type-lengths (length types) (length tags)).1 (T.type_rows, T.tag_words),
    (
      (each-exactly _ _).1 (λ t h. (count-exactly t).1 (T.counts t h)),
      (
        (each-exactly _ _).1 (λ t h. (fields-exactly t).1 (record { fields = λ f l m. T.fields t f h l; past = λ f l m. T.past t f h l m })),
        ((each-exactly _ _).1 (λ k h. (tag-exactly k).1 (T.tagged k h)), tt),
      ),
    ),
  )

-- ---- Q5

module _ (blocks : List ℕ) where
  start-on : (b n : ℕ) → start_of blocks (b + suc n) ≡ start_of blocks (suc b + n)
  start-on b n = let e : b + suc n ≡ suc b + n = omega arith in rw e

  start-grows : (n b : ℕ) → start_of blocks b ≤ start_of blocks (b + n)
  unfolding start_of
  start-grows zero b = rw (add-zero b) (omega arith)
  start-grows (suc n) b = let h = start-grows n (suc b) in rw (start-on b n) (omega arith)

  pub record LengthsWell (total n b : ℕ) : Type 0 where
    pub each : (j : ℕ) → b ≤ j → j < b + n → (1 ≤ head_of blocks j) × (head_of blocks j ≤ length_most)
    pub sum : start_of blocks (b + n) ≡ total

  blocks-well : (total n b i : ℕ) → i ≡ start_of blocks b → blocks_ask blocks total n b i ≡ ok tt → LengthsWell total n b
  unfolding blocks_ask start_of
  blocks-well total zero b i e q =
      record { each = λ j lo hi. absurd (omega arith); sum = rw (add-zero b) (sym e ∙ eqb-true _ _ (ask-ok _ _ _ q).0) }
  blocks-well total (suc n) b i e q =
      let (h, q₁) = ask-ok _ _ _ q in
      let (h₁, h₂) = and-true _ _ h in
      let (h₃, h₄) = and-true _ _ h₂ in
      let W = blocks-well total n (suc b) (i + head_of blocks b) (ap (λ (x : ℕ). x + head_of blocks b) e) q₁ in
      record {
        each = λ j lo hi. by_equality j b (λ s. rw s (leb-true _ _ h₁, leb-true _ _ h₃)) (λ d. W.each j (omega arith) (omega arith));
        sum = start-on b n ∙ W.sum;
      }

  well-blocks : (total n b i : ℕ) → i ≡ start_of blocks b → LengthsWell total n b → blocks_ask blocks total n b i ≡ ok tt
  unfolding blocks_ask start_of
  well-blocks total zero b i e W = ok-ask _ _ _ (eq-eqb _ _ (e ∙ ap (start_of blocks) (sym (add-zero b)) ∙ W.sum))
  well-blocks total (suc n) b i e W =
      let (l, m) = W.each b (omega arith) (omega arith) in
      let sum = sym (start-on b n) ∙ W.sum in
      let inside : i + head_of blocks b ≤ total = let h = start-grows n (suc b) in omega arith in
      let rest : LengthsWell total n (suc b) = record { each = λ j lo hi. W.each j (omega arith) (omega arith); sum = sum } in
      ok-ask _ _ _ (true-and _ _ (le-leb _ _ l) (true-and _ _ (le-leb _ _ m) (le-leb _ _ inside)))
      ∙ well-blocks total n (suc b) (i + head_of blocks b) (ap (λ (x : ℕ). x + head_of blocks b) e) rest

module _ (C : Code) where
  abbrev count : ℕ
  count = rows C.blocks

  pub blocks-pass : code_lengths_ask (length C.blocks) (length C.code) ≡ ok tt → lengths_ask C.blocks (length C.code) ≡ ok tt → BlocksPass C
  unfolding lengths_ask start_of
  blocks-pass e q =
      let (a, b) = (code-lengths (length C.blocks) (length C.code)).0 e in
      let W = blocks-well C.blocks (length C.code) count 0 0 refl q in
      let z : 0 + count ≡ count = omega arith in
      record { block_rows = a; code_words = b; lengths = λ j h. W.each j (omega arith) (omega arith); sum = rw z at W.sum }

  pub pass-blocks : BlocksPass C
      → (code_lengths_ask (length C.blocks) (length C.code) ≡ ok tt) × (lengths_ask C.blocks (length C.code) ≡ ok tt)
  unfolding lengths_ask start_of
  pass-blocks B =
      let z : 0 + count ≡ count = omega arith in (
        (code-lengths (length C.blocks) (length C.code)).1 (B.block_rows, B.code_words),
        well-blocks C.blocks (length C.code) count 0 0 refl
            (record { each = λ j lo hi. B.lengths j (omega arith); sum = ap (start_of C.blocks) z ∙ B.sum }),
      )

  -- ---- Q6 and Q16

  annotation-exactly : (n w : ℕ) → (annotation_well n w ≡ true) ↔ ((locked_of w ≡ false) × (well_made n register_count w ≡ true))
  unfolding annotation_well
  annotation-exactly n w = (λ e. let (m, h) = and-true _ _ e in (not-true _ m, h), λ (m, h). true-and _ _ (rw m refl) h)

  pub annotations-exactly : (n : ℕ) → (annotations_ask n C.blocks ≡ ok tt) ↔ AnnotationsPass n C
  unfolding annotations_ask annotation_ask
  annotations-exactly n = (
    λ e. let each : (b r : ℕ) → b < count → r < register_count → annotation_well n (get_or (words_of C.blocks b) r 0) ≡ true =
        λ b r h l. every_true 8 0 _ (ask-ok _ _ _ ((each-exactly _ _).0 e b h)).0 r (omega arith) (omega arith) in
        record { words = λ b r h l. ((annotation-exactly n _).0 (each b r h l)).1; unmarked = λ b r h l. ((annotation-exactly n _).0 (each b r h l)).0 },
    λ A. (each-exactly _ _).1 (λ b h. ok-ask _ _ _ (true-every 8 0 _
        (λ r lo hi. (annotation-exactly n _).1 (A.unmarked b r h (omega arith), A.words b r h (omega arith))))),
  )

  pub start-exactly : (b : ℕ) → (start_ask C.blocks b ≡ ok tt) ↔ (b < (routine_of C).count)
  unfolding start_ask routine_of
  start-exactly b = (λ e. ltb-true _ _ (ask-ok _ _ _ e).0, λ h. ok-ask _ _ _ (lt-ltb _ _ h))
