-- The answers of `targets_exist`, `target` and `form` at each of their returns.
use mathlib.Core.Path.{◌≡◌, refl, sym, ap, ◌∙◌}
use mathlib.Core.Bool.{Bool, true, false, false≢true}
use Prim.Native.Nat.{ℕ, suc, ◌+◌, ◌/◌, ◌%◌, ◌<◌, ◌≤◌}
use native.Mathlib.Omega.{arith}
use lib.Dec.{ltb}
use borrow.Author.Tests.{lt-ltb, le-ltb, ltb-true}
use Rattle.std.specs.Prelude.{Result}
use Rattle.model.specs.Question.{◌and◌, provided, ok, refused}
use Rattle.model.specs.declared.questions.Question.{Question}
use Rattle.model.specs.declared.questions.Question.TheVariants.{Instruction as q7, BlockEnd as q8, Target as q9}
use Rattle.model.specs.Word.{opcode_of, a_of, b_of, c_of}
use Rattle.model.specs.Machine.{Plain, constant, copy, add, subtract, multiply, divide, move, load, store, End, halt, jump, if_equal, if_less}
use Rattle.model.specs.Machine.{Instruction, plain, end, malformed, decode, has_form, well_formed, targets_exist, form_ask}
use Rattle.model.proofs.Logic.{by_test, by_equality, by_less, and-true}
use Rattle.instruction.proofs.Forms.{decode-0, decode-1, decode-2, decode-3, decode-4, decode-5, decode-6, decode-7, decode-8, decode-9}
use Rattle.instruction.proofs.Forms.{decode-10, decode-11, decode-12, decoded}
use Rattle.instruction.proofs.Parts.{known, registers, halt-c}
use Rattle.instruction.specs.Form.{form_no, plain_of, end_of, target_of, forks, Inside, Ending}

-- ---- the instruction of a well-formed word

plain-not : {x : Plain} {e : End} → plain x ≡ end e → ⊥
plain-not h = let z : ◌≡◌ {A = ℕ} 0 1 = cc in omega arith

end_same : {x y : End} → end x ≡ end y → x ≡ y
end_same h = cc

pub decode-plain : (w : ℕ) → well_formed w ≡ true → 0 < opcode_of w → opcode_of w < 10 → decode w ≡ plain (plain_of w)
unfolding plain_of
decode-plain w q l h =
    let a : ℕ = a_of w in
    let b : ℕ = b_of w in
    let c : ℕ = c_of w in
    by_less (opcode_of w) 2 (λ k. let o : opcode_of w ≡ 1 = omega arith in decoded w _ (plain (constant a c)) refl (decode-1 w o) q ∙ rw o)
    (λ g2. by_less (opcode_of w) 3 (λ k. let o : opcode_of w ≡ 2 = omega arith in decoded w _ (plain (copy a b)) refl (decode-2 w o) q ∙ rw o)
    (λ g3. by_less (opcode_of w) 4 (λ k. let o : opcode_of w ≡ 3 = omega arith in decoded w _ (plain (add a b c)) refl (decode-3 w o) q ∙ rw o)
    (λ g4. by_less (opcode_of w) 5 (λ k. let o : opcode_of w ≡ 4 = omega arith in decoded w _ (plain (subtract a b c)) refl (decode-4 w o) q ∙ rw o)
    (λ g5. by_less (opcode_of w) 6 (λ k. let o : opcode_of w ≡ 5 = omega arith in decoded w _ (plain (multiply a b c)) refl (decode-5 w o) q ∙ rw o)
    (λ g6. by_less (opcode_of w) 7 (λ k. let o : opcode_of w ≡ 6 = omega arith in decoded w _ (plain (divide a b c)) refl (decode-6 w o) q ∙ rw o)
    (λ g7. by_less (opcode_of w) 8 (λ k. let o : opcode_of w ≡ 7 = omega arith in decoded w _ (plain (move a b c)) refl (decode-7 w o) q ∙ rw o)
    (λ g8. by_less (opcode_of w) 9 (λ k. let o : opcode_of w ≡ 8 = omega arith in decoded w _ (plain (load a b c)) refl (decode-8 w o) q ∙ rw o)
    (λ g9. let o : opcode_of w ≡ 9 = omega arith in decoded w _ (plain (store a b c)) refl (decode-9 w o) q ∙ rw o))))))))

module _ (w : ℕ) where
  pub end-halt : opcode_of w ≡ 0 → end_of w ≡ halt
  unfolding end_of
  end-halt o = rw o

  pub end-jump : opcode_of w ≡ 10 → end_of w ≡ jump (c_of w)
  unfolding end_of
  end-jump o = rw o

  pub end-equal : opcode_of w ≡ 11 → end_of w ≡ if_equal (a_of w) (c_of w / 256) (c_of w % 256)
  unfolding end_of
  end-equal o = rw o

  pub end-less : opcode_of w ≡ 12 → end_of w ≡ if_less (a_of w) (b_of w) (c_of w)
  unfolding end_of
  end-less o = rw o

pub decode-end : (w : ℕ) → well_formed w ≡ true → (0 < opcode_of w → 9 < opcode_of w) → decode w ≡ end (end_of w)
decode-end w q h =
    let k = known w q in
    by_equality (opcode_of w) 0 (λ o. decoded w _ _ refl (decode-0 w o) q ∙ ap end (sym (end-halt w o)))
    (λ n0. by_equality (opcode_of w) 10 (λ o. decoded w _ _ refl (decode-10 w o) q ∙ ap end (sym (end-jump w o)))
    (λ n10. by_equality (opcode_of w) 11 (λ o. decoded w _ _ refl (decode-11 w o) q ∙ ap end (sym (end-equal w o)))
    (λ n11. let l = h (omega arith) in
    let o : opcode_of w ≡ 12 = omega arith in
    decoded w _ _ refl (decode-12 w o) q ∙ ap end (sym (end-less w o)))))

-- a word that is read as an end is well formed, and ends a block
pub record EndsAs (w : ℕ) (e : End) : Type 0 where
  pub well : well_formed w ≡ true
  pub ends : 0 < opcode_of w → 9 < opcode_of w
  pub is : end_of w ≡ e

pub ends_as : (w : ℕ) (e : End) → decode w ≡ end e → EndsAs w e
unfolding well_formed
ends_as w e d =
    let well : well_formed w ≡ true = rw d in
    let ends : 0 < opcode_of w → 9 < opcode_of w = λ l. by_less (opcode_of w) 10 (λ h. absurd (plain-not (sym (decode-plain w well l h) ∙ d))) (λ h. omega arith) in
    record { well = well; ends = ends; is = end_same (sym (decode-end w well ends) ∙ d) }

-- ---- Q9

module _ (w b count : ℕ) where
  pub jumps : opcode_of w ≡ 10 → ltb (c_of w) count ≡ targets_exist count b (end_of w)
  unfolding targets_exist
  jumps e = rw (end-jump w e)

  branch : (t : ℕ) → targets_exist count b (end_of w) ≡ ltb t count and ltb (suc b) count → count ≤ b + 1
      → false ≡ targets_exist count b (end_of w)
  unfolding ◌and◌
  branch t e h = sym (e ∙ by_test (ltb t count) (λ p. rw (p, le-ltb (suc b) count (omega arith))) (λ p. rw p))

  branch-on : (t : ℕ) → targets_exist count b (end_of w) ≡ ltb t count and ltb (suc b) count → b + 1 < count
      → ltb t count ≡ targets_exist count b (end_of w)
  unfolding ◌and◌
  branch-on t e h = sym (e ∙ by_test (ltb t count) (λ p. rw (p, lt-ltb (suc b) count (omega arith))) (λ p. rw p))

  if-equal : opcode_of w ≡ 11 → targets_exist count b (end_of w) ≡ ltb (c_of w % 256) count and ltb (suc b) count
  unfolding targets_exist
  if-equal e = rw (end-equal w e)

  if-less : opcode_of w ≡ 12 → targets_exist count b (end_of w) ≡ ltb (c_of w) count and ltb (suc b) count
  unfolding targets_exist
  if-less e = rw (end-less w e)

  pub no-next : opcode_of w ≤ 12 → 10 < opcode_of w → count ≤ b + 1 → false ≡ targets_exist count b (end_of w)
  no-next k l h = by_equality (opcode_of w) 11 (λ e. branch _ (if-equal e) h) (λ m. branch _ (if-less (omega arith)) h)

  pub equal-target : opcode_of w ≡ 11 → b + 1 < count → ltb (c_of w % 256) count ≡ targets_exist count b (end_of w)
  equal-target e h = branch-on _ (if-equal e) h

  pub less-target : opcode_of w ≤ 12 → 11 < opcode_of w → b + 1 < count → ltb (c_of w) count ≡ targets_exist count b (end_of w)
  less-target k l h = branch-on _ (if-less (omega arith)) h

-- the block of the taken edge exists, and the next where there is an untaken edge
module _ (count b : ℕ) where
  pub target-exists : (e : End) → targets_exist count b e ≡ true → 0 < count → target_of e < count
  unfolding targets_exist
  target-exists halt h p = p
  target-exists (jump t) h p = ltb-true t count h
  target-exists (if_equal x k t) h p = ltb-true t count (and-true _ _ h).0
  target-exists (if_less x y t) h p = ltb-true t count (and-true _ _ h).0

  pub next-exists : (e : End) → targets_exist count b e ≡ true → forks e ≡ true → b + 1 < count
  unfolding targets_exist
  next-exists halt h f = absurd (false≢true f)
  next-exists (jump t) h f = absurd (false≢true f)
  next-exists (if_equal x k t) h f = omega (arith, ltb-true (suc b) count (and-true (ltb t count) _ h).1)
  next-exists (if_less x y t) h f = omega (arith, ltb-true (suc b) count (and-true (ltb t count) _ h).1)

-- the target stands in the low part, or its low byte
module _ (w : ℕ) where
  pub target-equal : opcode_of w ≡ 11 → c_of w % 256 ≡ target_of (end_of w)
  target-equal o = rw (end-equal w o)

  pub target-other : well_formed w ≡ true → (0 < opcode_of w → 9 < opcode_of w) → (opcode_of w ≡ 11 → ⊥) → c_of w ≡ target_of (end_of w)
  target-other q h n =
      by_equality (opcode_of w) 0 (λ o. halt-c w q o ∙ rw (end-halt w o))
      (λ p. by_equality (opcode_of w) 10 (λ o. rw (end-jump w o))
      (λ m. let l = h (omega arith) in
      let k = known w q in
      let o : opcode_of w ≡ 12 = omega arith in rw (end-less w o)))

-- ---- Q7 to Q9

not-well : (x : Instruction) → has_form x ≡ false → x ≡ malformed
not-well (plain x) e = absurd (false≢true (sym e))
not-well (end x) e = absurd (false≢true (sym e))
not-well malformed e = refl

module _ (w : ℕ) (last : Bool) (b count : ℕ) where
  pub form-malformed : well_formed w ≡ false → refused q7 ≡ form_no (decode w) last b count
  unfolding well_formed form_no form_ask
  form-malformed e = rw (not-well (decode w) e)

  module _ (q : well_formed w ≡ true) where
    pub form-plain-last : 0 < opcode_of w → opcode_of w < 10 → last ≡ true → refused q8 ≡ form_no (decode w) last b count
    unfolding form_no form_ask provided
    form-plain-last l h t = rw (decode-plain w q l h, t)

    pub form-plain : 0 < opcode_of w → opcode_of w < 10 → last ≡ false → ok tt ≡ form_no (decode w) last b count
    unfolding form_no form_ask provided
    form-plain l h t = rw (decode-plain w q l h, t)

    module _ (h : 0 < opcode_of w → 9 < opcode_of w) where
      pub form-early : last ≡ false → refused q8 ≡ form_no (decode w) last b count
      unfolding form_no form_ask provided
      form-early t = rw (decode-end w q h, t)

      pub form-nowhere : last ≡ true → targets_exist count b (end_of w) ≡ false → refused q9 ≡ form_no (decode w) last b count
      unfolding form_no form_ask provided
      form-nowhere t e = rw (decode-end w q h, t, e)

      pub form-end : last ≡ true → targets_exist count b (end_of w) ≡ true → ok tt ≡ form_no (decode w) last b count
      unfolding form_no form_ask provided
      form-end t e = rw (decode-end w q h, t, e)

    pub form-halt : opcode_of w ≡ 0 → last ≡ true → ok tt ≡ form_no (decode w) last b count
    unfolding targets_exist
    form-halt o t = form-end (λ l. absurd (omega arith)) t (rw (end-halt w o))

-- what a word is where the form has no no
pub no_refusal : {q : Question} {o : Result (Unit {0}) Question} → ok tt ≡ o → refused q ≡ o → ⊥
no_refusal e f = let z : ◌≡◌ {A = ℕ} 0 1 = cc in omega arith

module _ (w b count : ℕ) where
  well-formed : (last : Bool) → ok tt ≡ form_no (decode w) last b count → well_formed w ≡ true
  well-formed last e = by_test (well_formed w) (λ q. q) (λ q. absurd (no_refusal e (form-malformed w last b count q)))

  pub inside-word : ok tt ≡ form_no (decode w) false b count → Inside 1 w
  inside-word e =
      let q = well-formed false e in
      let (x, y) = registers w q in
      let early = form-early w false b count q in
      record {
        well = q;
        from = by_equality (opcode_of w) 0 (λ o. absurd (no_refusal e (early (λ l. absurd (omega arith)) refl))) (λ o. omega arith);
        to = by_less (opcode_of w) 10 (λ o. omega arith) (λ o. absurd (no_refusal e (early (λ l. omega arith) refl)));
        a_exists = x;
        b_exists = y;
      }

  pub ending-word : ok tt ≡ form_no (decode w) true b count → Ending b count w
  ending-word e =
      let q = well-formed true e in
      let (x, y) = registers w q in
      let ends : 0 < opcode_of w → 9 < opcode_of w =
      λ l. by_less (opcode_of w) 10 (λ o. absurd (no_refusal e (form-plain-last w true b count q l o refl))) (λ o. omega arith) in
      record {
        well = q;
        ends = ends;
        known = known w q;
        a_exists = x;
        b_exists = y;
        exist = by_test (targets_exist count b (end_of w)) (λ t. t) (λ t. absurd (no_refusal e (form-nowhere w true b count q ends refl t)));
      }

pub same_no : {q r : Question} → ◌≡◌ {A = Result (Unit {0}) Question} (refused q) (refused r) → q ≡ r
same_no e = cc

-- inside a block it is of no account which block it is
pub form-anywhere : (x : Instruction) (b count b' count' : ℕ) → form_no x false b count ≡ form_no x false b' count'
unfolding form_no form_ask provided
form-anywhere malformed b count b' count' = refl
form-anywhere (plain x) b count b' count' = refl
form-anywhere (end e) b count b' count' = refl

-- what check and run go on with: the first no, the instruction inside a block, or the block's end
module _ {A : Type 0} (refuse : Question → A) (count b : ℕ) (inside : Plain → A) (at_end : End → A) where
  pub form-refuses : (last : Bool) (x : Instruction) (q : Question) → refused q ≡ form_no x last b count
      → refuse q ≡ form_ask refuse count b last inside at_end x
  unfolding form_no form_ask provided
  form-refuses last malformed q e = ap refuse (same_no e)
  form-refuses true (plain y) q e = ap refuse (same_no e)
  form-refuses false (plain y) q e = absurd (no_refusal (sym e) refl)
  form-refuses false (end y) q e = ap refuse (same_no e)
  form-refuses true (end y) q e =
      by_test (targets_exist count b y) (λ t. absurd (no_refusal (sym (e ∙ rw t)) refl)) (λ t. rw t (ap refuse (same_no (e ∙ rw t))))

  pub form-inside : (w : ℕ) → Inside 1 w → inside (plain_of w) ≡ form_ask refuse count b false inside at_end (decode w)
  unfolding form_ask provided
  form-inside w f = rw (decode-plain w f.well f.from (omega (arith, f.to)))

  pub form-ending : (w : ℕ) → Ending b count w → at_end (end_of w) ≡ form_ask refuse count b true inside at_end (decode w)
  unfolding form_ask provided
  form-ending w f = rw (decode-end w f.well f.ends, f.exist)
