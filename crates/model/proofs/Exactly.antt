-- A routine is accepted exactly when at every instruction no question has a no; the verdict otherwise names the first.
use mathlib.Core.Path.{◌≡◌, refl, sym, ap, ◌∙◌}
use mathlib.Core.Logic.{◌↔◌}
use mathlib.Core.List.{List}
use Prim.Native.Nat.{ℕ, zero, suc, ◌+◌, ◌≤◌, ◌<◌}
use native.Mathlib.Omega.{arith}
use lib.ListN.{length}
use Rattle.model.specs.Question.{Refusal, Outcome, ok, refused, then}
use Rattle.model.specs.Table.{Tables, tables_of, Routine, routine_of, type_lengths_ask, code_lengths_ask, types_ask, lengths_ask, annotations_ask, Code}
use Rattle.model.specs.Table.{rows, table_questions, tables_ask}
use Rattle.model.specs.Reading.{Reading, entry}
use Rattle.model.specs.Check.{read_at, read_on, block_ask, judge, reading_at, check_ask, check}
use Rattle.model.proofs.Logic.{by_equality, ok-then, passed_then, first_no-ok, ok-first_no, first_no-refused}
use Rattle.model.proofs.Logic.{all-passed, passed-all}
use Rattle.model.proofs.Logic.{not-ok, refused-same, verdict-ok, ok-verdict}
use Rattle.model.proofs.BlockSound.{passed-block}

module _ (𝒯 : Tables) (P : Routine) where
  -- the questions put at an instruction, after those before it in its block
  abbrev pub questions_at : ℕ → ℕ → Outcome Reading
  questions_at b j = then (reading_at 𝒯 P b j) (λ st. read_at 𝒯 P b j st)

  -- no question has a no at the instruction
  abbrev pub NoNo : ℕ → ℕ → Type 0
  NoNo b j = (st : Reading) × (questions_at b j ≡ ok st)

  pub record FirstAt (b : ℕ) (r : Refusal) : Type 0 where
    pub offset : ℕ
    pub within : offset < P.long b
    pub here : questions_at b offset ≡ refused r
    pub before : (j : ℕ) → j < offset → NoNo b j

  -- the instruction with the first no: every earlier one, in its block and in the blocks before, had none
  pub record FirstNoOf (r : Refusal) : Type 0 where
    pub block : ℕ
    pub exists : block < P.count
    pub in_block : FirstAt block r
    pub earlier : (b j : ℕ) → b < block → j < P.long b → NoNo b j

module _ (𝒯 : Tables) (P : Routine) where
  -- ---- accepted: no question has a no anywhere

  block-passes : (b n j : ℕ) (st : Reading) → reading_at 𝒯 P b j ≡ ok st → ((i : ℕ) → j ≤ i → i < j + n → NoNo 𝒯 P b i) → read_on 𝒯 P b n j st ≡ ok tt
  unfolding read_on reading_at
  block-passes b zero j st r h = refl
  block-passes b (suc n) j st r h =
      let (st', q) = h j (omega arith) (omega arith) in
      let p : read_at 𝒯 P b j st ≡ ok st' = sym (ok-then _ _ st r) ∙ q in
      ok-then _ _ st' p ∙ block-passes b n (suc j) st' q (λ i lo hi. h i (omega arith) (omega arith))

  pub judge-exactly : (judge 𝒯 P ≡ ok tt) ↔ ((b j : ℕ) → b < P.count → j < P.long b → NoNo 𝒯 P b j)
  unfolding judge block_ask reading_at
  judge-exactly = (
    λ q b j h l.
        let Q = passed-block 𝒯 P b (first_no-ok _ 0 _ q b (omega arith) (omega arith)) j l in
        (Q.afterwards, ok-then _ _ Q.before Q.reads ∙ Q.passes),
    λ h. ok-first_no _ 0 _ (λ b lo hi. block-passes b (P.long b) 0 (entry (P.annotation b)) refl (λ i l k. h b i (omega arith) (omega arith))),
  )

  -- ---- refused: the first no, and none before it

  record FirstFrom (b n j : ℕ) (r : Refusal) : Type 0 where
    offset : ℕ
    low : j ≤ offset
    high : offset < j + n
    here : questions_at 𝒯 P b offset ≡ refused r
    before : (i : ℕ) → j ≤ i → i < offset → NoNo 𝒯 P b i

  block_refused : (b n j : ℕ) (st : Reading) (r : Refusal) → reading_at 𝒯 P b j ≡ ok st → read_on 𝒯 P b n j st ≡ refused r → FirstFrom b n j r
  unfolding read_on reading_at
  block_refused b zero j st r e q = absurd (not-ok (sym q))
  block_refused b (suc n) j st r e q = go (read_at 𝒯 P b j st) refl (λ st' e' q'. block_refused b n (suc j) st' r e' q') q
    where
      go : (o : Outcome Reading) → read_at 𝒯 P b j st ≡ o
          → ((st' : Reading) → questions_at 𝒯 P b j ≡ ok st' → read_on 𝒯 P b n (suc j) st' ≡ refused r → FirstFrom b n (suc j) r)
          → then o (λ st'. read_on 𝒯 P b n (suc j) st') ≡ refused r → FirstFrom b (suc n) j r
      go (ok st') h rest q =
          let asked_here : questions_at 𝒯 P b j ≡ ok st' = ok-then _ _ st e ∙ h in
          let F = rest st' asked_here (unfold then in q) in
          record {
            offset = F.offset;
            low = omega (arith, F.low);
            high = omega (arith, F.high);
            here = F.here;
            before = λ i lo hi. by_equality i j (λ s. rw s (st', asked_here)) (λ d. F.before i (omega arith) hi);
          }
      go (refused x) h rest q =
          record {
            offset = j;
            low = omega arith;
            high = omega arith;
            here = ok-then _ _ st e ∙ h ∙ ap {B = Outcome Reading} refused (refused-same {A = Unit {0}} (unfold then in q));
            before = λ i lo hi. absurd (omega arith);
          }

  -- the instruction at which a judged routine is refused
  pub judge-refused : (r : Refusal) → judge 𝒯 P ≡ refused r → FirstNoOf 𝒯 P r
  unfolding judge block_ask reading_at
  judge-refused r q =
      let F = first_no-refused _ 0 _ r q in
      let G = block_refused F.row (P.long F.row) 0 (entry (P.annotation F.row)) r refl F.here in
      record {
        block = F.row;
        exists = omega (arith, F.high);
        in_block = record { offset = G.offset; within = omega (arith, G.high); here = G.here; before = λ j h. G.before j (omega arith) h };
        earlier = λ b j h l. let Q = passed-block 𝒯 P b (F.before b (omega arith) h) j l in (Q.afterwards, ok-then _ _ Q.before Q.reads ∙ Q.passes);
      }

-- ---- the public call

pub record Accepted (types tags : List ℕ) (C : Code) : Type 0 where
  pub type_lengths : type_lengths_ask (length types) (length tags) ≡ ok tt
  pub code_lengths : code_lengths_ask (length C.blocks) (length C.code) ≡ ok tt
  pub type_rows : types_ask types tags ≡ ok tt
  pub lengths : lengths_ask C.blocks (length C.code) ≡ ok tt
  pub annotations : annotations_ask (rows types) C.blocks ≡ ok tt
  pub instructions : (b j : ℕ) → b < (routine_of C).count → j < (routine_of C).long b → NoNo (tables_of types tags) (routine_of C) b j

-- Q5 of tables without a no
pub passed-lengths : (types tags : List ℕ) (C : Code) → tables_ask types tags C ≡ ok tt → lengths_ask C.blocks (length C.code) ≡ ok tt
unfolding tables_ask
passed-lengths types tags C e = let (a, (c, (t, (l, rest)))) = all-passed (table_questions types tags C) e in l

-- and Q1 to Q4 of the types
pub passed-types : (types tags : List ℕ) (C : Code) → tables_ask types tags C ≡ ok tt
    → (type_lengths_ask (length types) (length tags) ≡ ok tt) × (types_ask types tags ≡ ok tt)
unfolding tables_ask
passed-types types tags C e = let (a, (c, (t, rest))) = all-passed (table_questions types tags C) e in (a, t)

pub check-exactly : (types tags : List ℕ) (C : Code) → ((check types tags C).number ≡ 0) ↔ Accepted types tags C
unfolding check check_ask tables_ask
check-exactly types tags C = (
  λ e. let (p, j) = passed_then _ _ (verdict-ok _ e) in
      let (a, (c, (t, (l, (s, u))))) = all-passed (table_questions types tags C) p in
      record {
        type_lengths = a;
        code_lengths = c;
        type_rows = t;
        lengths = l;
        annotations = s;
        instructions = (judge-exactly (tables_of types tags) (routine_of C)).0 j;
      },
  λ A. let tables = passed-all (table_questions types tags C) (A.type_lengths, (A.code_lengths, (A.type_rows, (A.lengths, (A.annotations, tt))))) in
      ok-verdict _ (ok-then _ _ tt tables ∙ (judge-exactly (tables_of types tags) (routine_of C)).1 A.instructions),
)
