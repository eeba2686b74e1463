-- Laws of one instruction before a block's end: new values, opcode 7, and the instructions beside loads and stores.
use mathlib.Core.Path.{◌≡◌, refl, ◌∙◌}
use mathlib.Core.Bool.{true, false}
use mathlib.Core.List.{List}
use Prim.Native.Nat.{ℕ, zero, suc, ◌+◌, ◌-◌, ◌%◌, ◌^◌, ◌<◌, ◌≤◌}
use native.Mathlib.Numerals.{add-one}
use native.Mathlib.Omega.{arith}
use lib.Dec.{eqb}
use lib.ListN.{get_or}
use borrow.Author.Tests.{ne_eqb, lt-ltb, le-ltb}
use Rattle.model.specs.Question.{◌and◌, ◌or◌, ok}
use Rattle.model.specs.declared.questions.Question.{Question}
use Rattle.model.specs.declared.questions.Refusal.{Refusal}
use Rattle.model.specs.Word.{kind_of, record_of, opcode_of, with_kind, signed}
use Rattle.model.specs.Types.{type_of}
use Rattle.model.specs.Table.{Tables, tables_of, head_of}
use Rattle.model.specs.Machine.{constant, copy, move}
use Rattle.model.specs.Values.{birthplace}
use Rattle.model.specs.Reading.{Reading, put_register, fresh, on_span, moves, is_size, walks, moved_word, power_of_two}
use Rattle.model.specs.Check.{value_in, read_plain}
use Rattle.model.specs.Cost.{plain_asked}
use Rattle.model.proofs.Logic.{by_equality, by_less}
use Rattle.instruction.specs.Form.{plain_of}
use Rattle.known.proofs.Numbers.{by_kind}
use Rattle.access.specs.State.{placing}
use Rattle.access.proofs.Fields.{Parts}

-- ---- opcode 7

module _ (n c : ℕ) where
  pub divides-one : n ≡ 1 → true ≡ power_of_two n and eqb (c % n) 0
  unfolding ◌and◌ ◌or◌
  divides-one e = let z : c % 1 ≡ 0 = omega arith in rw (e, z)

  pub divides-by : (k : ℕ) → power_of_two k ≡ true → n ≡ k → eqb (c % k) 0 ≡ power_of_two n and eqb (c % n) 0
  unfolding ◌and◌
  divides-by k s e = rw (e, s)

  pub divides-other : (n ≡ 1 → ⊥) → (n ≡ 2 → ⊥) → (n ≡ 4 → ⊥) → (n ≡ 8 → ⊥) → false ≡ power_of_two n and eqb (c % n) 0
  unfolding ◌and◌ ◌or◌
  divides-other n1 n2 n4 n8 = rw (ne_eqb n 1 n1, ne_eqb n 2 n2, ne_eqb n 4 n4, ne_eqb n 8 n8)

module _ (kind size c : ℕ) where
  pub walk_is : kind ≡ 8 → size ≤ 8 → eqb c size ≡ eqb kind 8 and is_size size (signed c)
  unfolding ◌and◌
  walk_is e h =
      by_less c (2 ^ 15)
      (λ l. rw (e, lt-ltb c (2 ^ 15) l) refl)
      (λ l. rw (e, le-ltb c (2 ^ 15) l, ne_eqb c size (λ q. omega arith)) refl)

  pub walk-not : (kind ≡ 8 → ⊥) → false ≡ eqb kind 8 and is_size size (signed c)
  unfolding ◌and◌
  walk-not n = rw (ne_eqb kind 8 n) refl

-- the kinds Run, From and In are the spans of rank 0, 1 and 2
in-kind : (k : ℕ) → 6 ≤ k → eqb (k - 6) 2 ≡ eqb k 8
in-kind k h = by_equality k 8 (λ e. rw e refl) (λ d. rw (ne_eqb k 8 d) (ne_eqb (k - 6) 2 (λ q. d (omega arith))))

module _ (types tags : List ℕ) (w c : ℕ) where
  abbrev 𝒯 : Tables
  𝒯 = tables_of types tags

  pub moved_other : kind_of w < 6 → 0 ≡ moved_word 𝒯 w c
  unfolding moved_word moves walks on_span type_of
  moved_other h =
      by_kind (kind_of w) (λ e. rw e) (λ e. rw e) (λ e. rw e) (λ e. rw e) (λ e. rw e) (λ e. rw e) (λ k e. absurd (omega arith))

  module _ (rank : ℕ) (e : kind_of w ≡ suc (suc (suc (suc (suc (suc rank)))))) where
    span-moves : moves 𝒯 (type_of w) c ≡ power_of_two (head_of types (record_of w)) and eqb (c % head_of types (record_of w)) 0
    unfolding moves on_span type_of tables_of
    span-moves = rw e refl

    span-walks : walks 𝒯 (type_of w) c ≡ eqb rank 2 and is_size (head_of types (record_of w)) (signed c)
    unfolding walks on_span type_of tables_of
    span-walks = rw e refl

  -- of a word of kind k, one of the three, and record type t of n words
  module _ (k t n : ℕ) (h : 6 ≤ k) (ek : k ≡ kind_of w) (et : t ≡ record_of w) (en : n ≡ head_of types t) where
    moves-is : moves 𝒯 (type_of w) c ≡ power_of_two n and eqb (c % n) 0
    moves-is = span-moves (k - 6) (omega arith) ∙ rw (en, et) refl

    walks-is : walks 𝒯 (type_of w) c ≡ eqb k 8 and is_size n (signed c)
    walks-is = span-walks (k - 6) (omega arith) ∙ rw (in-kind k h, en, et) refl

    pub moved-from : eqb k 8 and is_size n (signed c) ≡ true → with_kind 7 w ≡ moved_word 𝒯 w c
    unfolding moved_word
    moved-from o = rw (walks-is, o) refl

    module _ (o : eqb k 8 and is_size n (signed c) ≡ false) where
      pub moved-not : power_of_two n and eqb (c % n) 0 ≡ false → 0 ≡ moved_word 𝒯 w c
      unfolding moved_word
      moved-not q = rw (walks-is, o, moves-is, q) refl

      pub moved-run : power_of_two n and eqb (c % n) 0 ≡ true → with_kind 6 w ≡ moved_word 𝒯 w c
      unfolding moved_word
      moved-run q = rw (walks-is, o, moves-is, q) refl

-- ---- the parts of a word

module _ {w a b c : ℕ} (p : Parts w a b c) where
  plain-constant : opcode_of w ≡ 1 → plain_of w ≡ constant a c
  unfolding plain_of
  plain-constant e = rw (e, ← p.a-is, ← p.c-is)

  plain_copy : opcode_of w ≡ 2 → plain_of w ≡ copy a b
  unfolding plain_of
  plain_copy e = rw (e, ← p.a-is, ← p.b-is)

  plain-move : opcode_of w ≡ 7 → plain_of w ≡ move a b c
  unfolding plain_of
  plain-move e = rw (e, ← p.a-is, ← p.b-is, ← p.c-is)

-- ---- the other instructions

module _ {w a b c : ℕ} (p : Parts w a b c) (𝒯 : Tables) (place : Question → Refusal) (g : ℕ) (st : Reading) where
  pub step-copy : opcode_of w ≡ 2 → placing place (ok tt) (put_register st a (value_in st b)) ≡ read_plain 𝒯 place g (plain_of w) st
  unfolding placing read_plain
  step-copy o = rw (plain_copy p o)

  module _ (st' : Reading) where
    pub step-constant : opcode_of w ≡ 1 → st' ≡ fresh st g a 0 0 (c + 1) → placing place (ok tt) st' ≡ read_plain 𝒯 place g (plain_of w) st
    unfolding placing read_plain
    step-constant o es = rw (plain-constant p o, es, add-one c)

    pub step_move : opcode_of w ≡ 7 → (v m f : ℕ) → v ≡ value_in st b → m ≡ moved_word 𝒯 (get_or st.values.words v 0) c
        → f ≡ get_or st.values.frames (birthplace v) 0 → st' ≡ fresh st g a m f 0 → placing place (ok tt) st' ≡ read_plain 𝒯 place g (plain_of w) st
    unfolding placing read_plain
    step_move o v m f ev em ef es = rw (plain-move p o, ← ev, ← em, ← ef, es)

    pub step-arithmetic : 2 < opcode_of w → opcode_of w < 7 → st' ≡ fresh st g a 0 0 0 → placing place (ok tt) st' ≡ read_plain 𝒯 place g (plain_of w) st
    unfolding placing read_plain plain_of
    step-arithmetic l h es =
        by_less (opcode_of w) 4 (λ k. let o : opcode_of w ≡ 3 = omega arith in rw (es, o, p.a-is))
        (λ g4. by_less (opcode_of w) 5 (λ k. let o : opcode_of w ≡ 4 = omega arith in rw (es, o, p.a-is))
        (λ g5. by_less (opcode_of w) 6 (λ k. let o : opcode_of w ≡ 5 = omega arith in rw (es, o, p.a-is))
        (λ g6. let o : opcode_of w ≡ 6 = omega arith in rw (es, o, p.a-is))))

-- ---- of instructions inside a block, only a store puts fit questions

pub plain-unasked : (𝒯 : Tables) (w : ℕ) (st : Reading) → opcode_of w < 8 → 0 ≡ plain_asked 𝒯 (plain_of w) st
unfolding plain_asked plain_of
plain-unasked 𝒯 w st h = go (opcode_of w) refl
  where
    go : (o : ℕ) → opcode_of w ≡ o → 0 ≡ plain_asked 𝒯 (plain_of w) st
    go zero e = rw e
    go (suc zero) e = rw e
    go (suc (suc zero)) e = rw e
    go (suc (suc (suc zero))) e = rw e
    go (suc (suc (suc (suc zero)))) e = rw e
    go (suc (suc (suc (suc (suc zero))))) e = rw e
    go (suc (suc (suc (suc (suc (suc zero)))))) e = rw e
    go (suc (suc (suc (suc (suc (suc (suc zero))))))) e = rw e
    go (suc (suc (suc (suc (suc (suc (suc (suc k)))))))) e = absurd (omega arith)
