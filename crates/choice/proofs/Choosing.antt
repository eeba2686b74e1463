-- Laws of the search: what striking out comes to, and the first choice that is left.
use mathlib.Core.Path.{◌≡◌, refl, sym, ap, ◌∙◌}
use mathlib.Core.Logic.{◌⊎◌, inl, inr}
use mathlib.Core.Bool.{Bool, true, false, false≢true}
use mathlib.Core.List.{List, [], ◌∷◌}
use Rattle.std.specs.Prelude.{Option, Some, None}
use Prim.Native.Nat.{ℕ, ◌+◌, ◌-◌, ◌*◌, ◌/◌, ◌%◌, ◌<◌, ◌≤◌}
use native.Mathlib.Omega.{arith}
use lib.Dec.{eqb}
use lib.ListN.{length, get_or, set, length-set, replicate, get_or-replicate}
use lib.Seq.{get_or-set_same, get_or-set_other}
use borrow.Author.Tests.{eq-eqb, eqb-true}
use Rattle.model.specs.Question.{◌and◌, Outcome, ok, verdict_of}
use Rattle.model.specs.Word.{opcode_of}
use Rattle.model.specs.Table.{rows, start_of, code_of, Tables, Routine}
use Rattle.model.specs.Machine.{End, halt, jump, if_equal, if_less, end, instruction_at, well_formed, targets_exist}
use Rattle.model.specs.Check.{block_ask, judge}
use Rattle.model.specs.Blank.{offered_row, in_force}
use Rattle.model.proofs.Logic.{by_test, by_equality, either, and-true, verdict-ok, ok-verdict, first_no-ok, ok-first_no}
use Rattle.model.proofs.BlockReads.{AlikeAt, LeadsTo, block_reads}
use Rattle.instruction.specs.Form.{end_of, target_of}
use Rattle.instruction.proofs.Laws.{target-exists, next-exists, ends_as}
use Rattle.verify.specs.declared.lent.Routine.{Routine as Lent}
use Rattle.verify.specs.declared.lent.Block.{Block}
use Rattle.verify.proofs.Blocks.{part_of, block_at}
use Rattle.choice.specs.Choices.{places_of, is_choice, weights_of, alike, passes, BlockOf, Routines, Tried, Struck, Narrows, First, Searches}
use Rattle.choice.proofs.Numbers.{weight-read, weighs, Alike, alike_is, alike-choice}

-- ---- striking out

pub struck-none : (w : List ℕ) (passed left : List Bool) → Struck w passed left left 0
struck-none w passed left = record { long = refl; struck = λ i h k. absurd (omega arith); others = λ i h. refl }

pub struck-on : {w : List ℕ} {passed left left' : List Bool} {n : ℕ} → Struck w passed left left' n → length left ≡ 512 → n < 512 → (x : Bool)
    → x ≡ (get_or left' n false and get_or passed (alike w n) false) → Struck w passed left (set left' n x) (n + 1)
struck-on {w = w} {passed = passed} {left = left} {left' = left'} {n = n} S e h x ex =
    record {
      long = length-set left' n x ∙ S.long;
      struck = λ i l k.
          by_equality i n
          (λ q. rw q (get_or-set_same left' n x false (omega (arith, S.long))
          ∙ ex
          ∙ ap (λ (y : Bool). y and get_or passed (alike w n) false) (S.others n (omega arith))))
          (λ d. get_or-set_other left' n i x false d ∙ S.struck i (omega arith) k);
      others = λ i l. get_or-set_other left' n i x false (λ q. omega arith) ∙ S.others i (omega arith);
    }

-- ---- trying the choices

module _ {𝒯 : Tables} {P : ℕ → Routine} {m w : List ℕ} {b : ℕ} {passed : List Bool} {n : ℕ} (T : Tried 𝒯 P m w b passed n) where
  pub tried-on : n < length passed → (x : Bool) → (is_choice m n ≡ true → alike w n ≡ n → x ≡ passes 𝒯 (P n) b)
      → Tried 𝒯 P m w b (set passed n x) (n + 1)
  tried-on h x ex =
      record {
        at = λ i l c e.
            by_equality i n (λ q. rw q (get_or-set_same passed n x false h ∙ ex (rw q at c) (rw q at e)))
            (λ d. get_or-set_other passed n i x false d ∙ T.at i (omega arith) c e);
      }

-- ---- what a block cannot tell apart

-- the row in force of block t is the same with choices i and k, if they agree in the place of the blank block that t is
force-same : (blocks offered blanks : List ℕ) (i k t : ℕ) → length blanks ≡ 3
    → (t ≡ get_or blanks 0 0 → k / 64 ≡ i / 64) → (t ≡ get_or blanks 1 0 → k / 8 % 8 ≡ i / 8 % 8) → (t ≡ get_or blanks 2 0 → k % 8 ≡ i % 8)
    → in_force blocks offered blanks (places_of i) t ≡ in_force blocks offered blanks (places_of k) t
force-same blocks offered [] i k t e a b c = absurd (omega arith)
force-same blocks offered (x ∷ []) i k t e a b c = absurd (omega arith)
force-same blocks offered (x ∷ y ∷ []) i k t e a b c = absurd (omega arith)
force-same blocks offered (x ∷ y ∷ z ∷ []) i k t e a b c =
    by_test (eqb t x) (λ q. rw q (ap (offered_row offered) (sym (a (eqb-true _ _ q)))))
    (λ q. rw q (by_test (eqb t y) (λ q. rw q (ap (offered_row offered) (sym (b (eqb-true _ _ q)))))
    (λ q. rw q (by_test (eqb t z) (λ q. rw q (ap (offered_row offered) (sym (c (eqb-true _ _ q))))) (λ q. rw q)))))
force-same blocks offered (x ∷ y ∷ z ∷ u ∷ l) i k t e a b c = absurd (omega arith)

-- target is that of the block's last word, where it has one
module _ (𝒯 : Tables) {P : ℕ → Routine} {blocks offered blanks m : List ℕ} {b first : ℕ} {part : List ℕ}
    (three : length blanks ≡ 3) (B : BlockOf P blocks offered blanks m b first part) (exists : b * 9 + 9 ≤ length blocks) (target : ℕ)
    (leads : let w = get_or part (length part - 1) 0 in well_formed w ≡ true → (0 < opcode_of w → 9 < opcode_of w) → target ≡ target_of (end_of w)) where
  abbrev w : List ℕ
  w = weights_of blanks b target

  module _ (i : ℕ) (h : i < 512) (c : is_choice m i ≡ true) where
    abbrev k : ℕ
    k = alike w i

    abbrev a : Alike w (weighs blanks b target) i h
    a = alike_is w (weighs blanks b target) i h

    k-below : k < 512
    k-below = omega (arith, a.below)

    k-choice : is_choice m k ≡ true
    k-choice = alike-choice w (weighs blanks b target) i h m c

    -- a block that is read has the same row
    read_same : (t : ℕ) → t < rows blocks → (t ≡ b) ⊎ ((t ≡ b + 1) ⊎ (t ≡ target)) → (P i).annotation t ≡ (P k).annotation t
    read_same t l r =
        (B.annotated i h c).annotation t l
        ∙ force-same blocks offered blanks i k t three
        (λ e. a.first.1 (weight-read (get_or blanks 0 0) b target 64 t r e))
        (λ e. a.second.1 (weight-read (get_or blanks 1 0) b target 8 t r e))
        (λ e. a.third.1 (weight-read (get_or blanks 2 0) b target 1 t r e))
        ∙ sym ((B.annotated k k-below k-choice).annotation t l)

    block-alike : AlikeAt (P i) (P k) b
    block-alike =
        let A = B.annotated i h c in
        let A' = B.annotated k k-below k-choice in
        let D = B.at i h c in
        let D' = B.at k k-below k-choice in
        record {
          count = A.count ∙ sym A'.count;
          long = D.long ∙ sym D'.long;
          start = D.start ∙ sym D'.start;
          part = D.code ∙ sym D'.code;
        }

    -- the target of the last instruction, if it is an end
    led : (e : End) → instruction_at (P i) b ((P i).long b - 1) ≡ end e → target_of e ≡ target
    led e q =
        let D = B.at i h c in
        let E = ends_as (get_or part (length part - 1) 0) e (rw (D.code, D.long) at q) in
        ap target_of (sym E.is) ∙ sym (leads E.well E.ends)

    onward : (e : End) → instruction_at (P i) b ((P i).long b - 1) ≡ end e → targets_exist (P i).count b e ≡ true → (t : ℕ) → LeadsTo e b t
        → (P i).annotation t ≡ (P k).annotation t
    onward e q x t l =
        let x' : targets_exist (rows blocks) b e ≡ true = rw (B.annotated i h c).count at x in
        go e (led e q) x' t l
      where
        go : (e : End) → target_of e ≡ target → targets_exist (rows blocks) b e ≡ true → (t : ℕ) → LeadsTo e b t → (P i).annotation t ≡ (P k).annotation t
        go halt z x t l = absurd l
        go (jump c) z x t l =
            read_same t (let y = target-exists (rows blocks) b (jump c) x (omega arith) in omega arith) (inr (inr (l ∙ z)))
        go (if_equal r n c) z x t l =
            either l
            (λ q. read_same t (let y = target-exists (rows blocks) b (if_equal r n c) x (omega arith) in omega arith) (inr (inr (q ∙ z))))
            (λ q. read_same t (let y = next-exists (rows blocks) b (if_equal r n c) x refl in omega arith) (inr (inl (omega arith))))
        go (if_less r n c) z x t l =
            either l
            (λ q. read_same t (let y = target-exists (rows blocks) b (if_less r n c) x (omega arith) in omega arith) (inr (inr (q ∙ z))))
            (λ q. read_same t (let y = next-exists (rows blocks) b (if_less r n c) x refl in omega arith) (inr (inl (omega arith))))

    pub passes_same : passes 𝒯 (P i) b ≡ passes 𝒯 (P k) b
    passes_same =
        ap (λ (o : Outcome (Unit {0})). eqb (verdict_of o).number 0)
        (block_reads 𝒯 (P i) (P k) b block-alike (read_same b (omega arith) (inl refl)) onward)

  -- no row is read that is chosen: all choices come to the same
  pub narrow-once : get_or w 0 0 + get_or w 1 0 + get_or w 2 0 ≡ 0 → (left : List Bool) → is_choice m 0 ≡ true → (r : Bool) → r ≡ passes 𝒯 (P 0) b
      → Narrows 𝒯 P m b left left r
  unfolding ◌and◌
  narrow-once z left c₀ r e =
      let same : (i : ℕ) → i < 512 → is_choice m i ≡ true → passes 𝒯 (P i) b ≡ r =
      λ i h c. passes_same i h c ∙ ap (λ (j : ℕ). passes 𝒯 (P j) b) ((alike_is w (weighs blanks b target) i h).none z) ∙ sym e in
      record { kept = λ t i h c. rw (same i h c ∙ t) (sym (and-yes (get_or left i false))); none = λ f i h c. same i h c ∙ f }
    where
      and-yes : (a : Bool) → (a and true) ≡ a
      and-yes true = refl
      and-yes false = refl

  pub narrow-each : (passed left left' : List Bool) → Tried 𝒯 P m w b passed 512 → Struck w passed left left' 512 → Narrows 𝒯 P m b left left' true
  narrow-each passed left left' T S =
      record {
        kept = λ t i h c.
            let W = weighs blanks b target in
            let A = alike_is w W i h in
            let tried =
            T.at (alike w i) (omega (arith, A.below)) (alike-choice w W i h m c) A.again
            ∙ sym (passes_same i h c) in
            S.struck i h h ∙ ap (λ (q : Bool). get_or left i false and q) tried;
        none = λ f. absurd (false≢true (sym f));
      }

-- ---- all blocks

-- block b of the routines that the choices make, as the routine hands it out
pub block_of : (r : Lent) (b : ℕ) → b < rows r.blocks.now → (x : Block)
    → (x.number ≡ b) × (x.first ≡ start_of r.blocks.now b) × (x.code.now ≡ part_of (code_of r.blocks.now r.code.now) b)
    → {P : ℕ → Routine} {offered blanks m : List ℕ} → Routines P (code_of r.blocks.now r.code.now) offered blanks m
    → BlockOf P r.blocks.now offered blanks m x.number x.first x.code.now
block_of r b h x e R =
    record {
      annotated = R.annotated;
      at = λ i l k. block_at (code_of r.blocks.now r.code.now) r.starts.now b r.tabled r.placed h x e _ (R.divided i l k);
    }

module _ (𝒯 : Tables) (P : ℕ → Routine) (m : List ℕ) where
  abbrev PassBelow : ℕ → ℕ → Type 0
  PassBelow i b = (k : ℕ) → k < b → block_ask 𝒯 (P i) k ≡ ok tt

  -- the choices that are left are those with which the blocks below b pass
  pub record LeftSo (left : List Bool) (b : ℕ) : Type 0 where
    pub kept : (i : ℕ) → i < 512 → is_choice m i ≡ true → get_or left i false ≡ true → PassBelow i b
    pub gone : (i : ℕ) → i < 512 → is_choice m i ≡ true → PassBelow i b → get_or left i false ≡ true

  pass-ok : (i b : ℕ) → passes 𝒯 (P i) b ≡ true → block_ask 𝒯 (P i) b ≡ ok tt
  pass-ok i b h = verdict-ok (block_ask 𝒯 (P i) b) (eqb-true _ _ h)

  ok-pass : (i b : ℕ) → block_ask 𝒯 (P i) b ≡ ok tt → passes 𝒯 (P i) b ≡ true
  ok-pass i b h = eq-eqb _ _ (ok-verdict (block_ask 𝒯 (P i) b) h)

  pub left-ones : LeftSo (replicate 512 true) 0
  left-ones = record { kept = λ i l c n k z. absurd (omega arith); gone = λ i l c p. get_or-replicate {A = Bool} 512 i true false l }

  pub left-on : (left left' : List Bool) (b : ℕ) (some : Bool) → LeftSo left b → Narrows 𝒯 P m b left left' some → some ≡ true → LeftSo left' (b + 1)
  unfolding ◌and◌
  left-on left left' b some L N t =
      record {
        kept = λ i l c n k h.
            let (was, now) = and-true (get_or left i false) _ (sym (N.kept t i l c) ∙ n) in
            by_equality k b (λ z. rw z (pass-ok i b now)) (λ d. L.kept i l c was k (omega arith));
        gone = λ i l c p.
            N.kept t i l c ∙ rw (L.gone i l c (λ k h. p k (omega arith)), ok-pass i b (p b (omega arith)));
      }

  module _ (n : ℕ) (count : (i : ℕ) → i < 512 → is_choice m i ≡ true → (P i).count ≡ n) where
    all_pass : (i : ℕ) → i < 512 → is_choice m i ≡ true → judge 𝒯 (P i) ≡ ok tt → PassBelow i n
    unfolding judge
    all_pass i l c e k h = first_no-ok (P i).count 0 _ e k (omega arith) (let z = count i l c in omega arith)

    pass_all : (i : ℕ) → i < 512 → is_choice m i ≡ true → PassBelow i n → judge 𝒯 (P i) ≡ ok tt
    unfolding judge
    pass_all i l c p = ok-first_no (P i).count 0 _ (λ k lo hi. p k (let z = count i l c in omega arith))

    pub search-stops : (left left' : List Bool) (b : ℕ) (some : Bool) → b < n → Narrows 𝒯 P m b left left' some → some ≡ false → Searches 𝒯 P m None
    search-stops left left' b some h N f = λ i l c e. false≢true (sym (N.none f i l c) ∙ ok-pass i b (all_pass i l c e b h))

    pub search-ends : (left : List Bool) (b : ℕ) (r : Option ℕ) → LeftSo left b → b ≡ n → First m left r → Searches 𝒯 P m r
    search-ends left b None L e F = λ i l c j. F i l c (L.gone i l c (λ k h. all_pass i l c j k (omega arith)))
    search-ends left b (Some r) L e F =
        record {
          within = F.within;
          is = F.is;
          has = pass_all r F.within F.is (λ k h. L.kept r F.within F.is F.has k (omega arith));
          before = λ i l c j.
              let i-below : i < 512 = omega (arith, F.within) in
              F.before i l c (L.gone i i-below c (λ k h. all_pass i i-below c j k (omega arith)));
        }
