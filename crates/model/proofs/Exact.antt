-- Demand 2 holds: each check names the first question with a no, with its place, and passes exactly when none has one.
use mathlib.Core.Path.{◌≡◌, refl, sym, ap, ◌∙◌}
use mathlib.Core.Logic.{◌⊎◌, inl, inr, ◌↔◌}
use mathlib.Core.Bool.{Bool, true, false, false≢true}
use mathlib.Core.List.{List, [], ◌∷◌}
use Prim.Native.Nat.{ℕ, ◌≤◌}
use native.Mathlib.Omega.{arith}
use lib.ListN.{length}
use Rattle.model.specs.Question.{q20, q21, Refusal, refusal, refusing, Outcome, ok, refused, asked, then, in_order, first_no, FirstNo}
use Rattle.model.specs.Types.{Ty}
use Rattle.model.specs.Table.{Tables, tables_of, Code, routine_of, rows, type_lengths_ask, types_ask, types_questions, memory_length_ask, tables_ask}
use Rattle.model.specs.Table.{code_lengths_ask, lengths_ask, annotations_ask}
use Rattle.model.specs.Meaning.{Meets}
use Rattle.model.specs.Allocation.{Allocated, allocations_ask, start_at, type_at, pairs}
use Rattle.model.specs.Machine.{Ready}
use Rattle.model.specs.Check.{check, check_ask, judge}
use Rattle.model.specs.MemoryCheck.{meets, field_ask, records_ask, register_ask, layout_ask, memory_ask, memory_check, routine_ask, routine_questions}
use Rattle.model.specs.MemoryCheck.{entry_ask, entry_check}
use Rattle.model.specs.Exactness.{instruction_no, LayoutPasses, layout_rows, LayoutNo, table_no, allocation_no, FieldMeets, FirstUnmetField}
use Rattle.model.specs.Exactness.{MemoryNo, layout_no, field_no, RegisterMeets, FirstUnmetRegister, EntryNo, routine_no, register_no, Demand2}
use Rattle.model.specs.Exactness.{table_rows, Accepts, CheckNo}
use Rattle.model.proofs.Logic.{by_test, either, no-then, in-order-append, first-refused, refused-first, all-passed, passed-all, verdict-refused}
use Rattle.model.proofs.Logic.{ask-ok, ok-ask, first_no-refused, no-first_no}
use Rattle.model.proofs.AllocationRules.{asked-no, allocations-no, record_ask, records-are}
use Rattle.model.proofs.MeetsDecide.{meets-decides, fields-meet, meet-fields, layout-exactly, positive-by, memory-exactly, entry-exactly}
use Rattle.model.proofs.Exactly.{judge-exactly, check-exactly, passed-lengths}
use Rattle.model.proofs.ReadingBlocks.{judge-obeys, judge-disobeys, disobeys-judge}
use Rattle.model.proofs.TableRules.{types-pass, pass-types, blocks-pass, pass-blocks, annotations-exactly}
use Rattle.model.proofs.RunEnds.{run-exact}

not-exactly : (b : Bool) (Q : Type 0) → (b ≡ true) ↔ Q → (b ≡ false) ↔ (Q → ⊥)
not-exactly b Q (f, g) = (λ e q. false≢true (sym e ∙ g q), λ n. by_test b (λ y. absurd (n (f y))) (λ y. y))

-- ---- the check

-- a routine is accepted exactly when the questions of its tables have no no and every instruction obeys the rules
pub check-accepts : (types tags : List ℕ) (C : Code) → ((check types tags C).number ≡ 0) ↔ Accepts types tags C
unfolding types_ask
check-accepts types tags C = (
  λ e. let A = (check-exactly types tags C).0 e in
      record {
        types_pass = types-pass types tags A.type_lengths (all-passed (types_questions types tags) A.type_rows);
        blocks_pass = blocks-pass C A.code_lengths A.lengths;
        annotations_pass = (annotations-exactly C (rows types)).0 A.annotations;
        instructions = (judge-obeys types tags C A.lengths).0 ((judge-exactly (tables_of types tags) (routine_of C)).1 A.instructions);
      },
  λ A. let (t, ts) = pass-types types tags A.types_pass in
      let (c, l) = pass-blocks C A.blocks_pass in
      (check-exactly types tags C).1 (record {
        type_lengths = t;
        code_lengths = c;
        type_rows = passed-all (types_questions types tags) ts;
        lengths = l;
        annotations = (annotations-exactly C (rows types)).1 A.annotations_pass;
        instructions = (judge-exactly (tables_of types tags) (routine_of C)).0 ((judge-obeys types tags C l).1 A.instructions);
      }),
)

module _ (types tags : List ℕ) (C : Code) where
  -- the questions of tables, those of types and tags one by one
  tables-are : tables_ask types tags C ≡ in_order (table_rows types tags C)
  unfolding tables_ask types_ask in_order
  tables-are =
      ap (λ (x : Outcome (Unit {0})). then (type_lengths_ask (length types) (length tags)) (λ _.
      then (code_lengths_ask (length C.blocks) (length C.code)) (λ _. x)))
      (sym (in-order-append (types_questions types tags) (lengths_ask C.blocks (length C.code) ∷ annotations_ask (rows types) C.blocks ∷ [])))

  -- a check names a refusal exactly when its question is the first with a no, and its place that question's
  pub check-names : (r : Refusal) → (check types tags C ≡ refusing r) ↔ CheckNo types tags C r
  unfolding check check_ask
  check-names r = (
    λ e. either ((no-then _ _ r).0 ((verdict-refused _ r).0 e))
        (λ t. table_no (first-refused (table_rows types tags C) r (sym tables-are ∙ t)))
        (λ (t, j). instruction_no (all-passed (table_rows types tags C) (sym tables-are ∙ t))
        (judge-disobeys types tags C (passed-lengths types tags C t) r j)),
    λ N. (verdict-refused _ r).1 ((no-then _ _ r).1 (named N)),
  )
    where
      named : CheckNo types tags C r
          → (tables_ask types tags C ≡ refused r) ⊎ ((tables_ask types tags C ≡ ok tt) × (judge (tables_of types tags) (routine_of C) ≡ refused r))
      named (table_no F) = inl (tables-are ∙ refused-first (table_rows types tags C) r F)
      named (instruction_no A F) =
          let t = tables-are ∙ passed-all (table_rows types tags C) A in
          inr (t, disobeys-judge types tags C (passed-lengths types tags C t) r F)

-- ---- the questions up to Q19

module _ (types tags allocations : List ℕ) (top : ℕ) where
  abbrev 𝒯 : Tables
  𝒯 = tables_of types tags

  -- four rows of questions, the last apart
  last_apart : (a b c d : Outcome (Unit {0})) → in_order (a ∷ b ∷ c ∷ d ∷ []) ≡ then (then a (λ _. then b (λ _. in_order (c ∷ [])))) (λ _. d)
  unfolding in_order then
  last_apart (ok u) (ok v) (ok w) (ok x) = refl
  last_apart (ok u) (ok v) (ok w) (refused r) = refl
  last_apart (ok u) (ok v) (refused r) d = refl
  last_apart (ok u) (refused r) c d = refl
  last_apart (refused r) b c d = refl

  layout-are : layout_ask types tags allocations top ≡ then (in_order (layout_rows types tags allocations top)) (λ _. allocations_ask 𝒯 top allocations)
  unfolding layout_ask types_ask in_order
  layout-are =
      last_apart (type_lengths_ask (length types) (length tags)) (types_ask types tags) (memory_length_ask top) (allocations_ask 𝒯 top allocations)
      ∙ ap (λ (x : Outcome (Unit {0})). then (then (type_lengths_ask (length types) (length tags)) (λ _. x)) (λ _. allocations_ask 𝒯 top allocations))
      (sym (in-order-append (types_questions types tags) (memory_length_ask top ∷ [])))

  abbrev R : List (Outcome (Unit {0}))
  R = layout_rows types tags allocations top

  named-layout : (r : Refusal) → LayoutNo types tags allocations top r
      → (in_order R ≡ refused r) ⊎ ((in_order R ≡ ok tt) × (allocations_ask 𝒯 top allocations ≡ refused r))
  named-layout r (table_no F) = inl (refused-first R r F)
  named-layout r (allocation_no A F) = inr (passed-all R A, (allocations-no 𝒯 top allocations r).1 F)

  pub layout-no : (r : Refusal) → (layout_ask types tags allocations top ≡ refused r) ↔ LayoutNo types tags allocations top r
  layout-no r = (
    λ e. either ((no-then _ _ r).0 (sym layout-are ∙ e)) (λ t. table_no (first-refused R r t))
        (λ (t, a). allocation_no (all-passed R t) ((allocations-no 𝒯 top allocations r).0 a)),
    λ N. layout-are ∙ (no-then _ _ r).1 (named-layout r N),
  )

-- ---- Q20

module _ (types tags allocations memory : List ℕ) (L : LayoutPasses types tags allocations (length memory)) where
  abbrev 𝒰 : Tables
  𝒰 = tables_of types tags

  positive : (p t : ℕ) → Allocated allocations p t → 1 ≤ 𝒰.size t
  positive = positive-by types tags allocations (length memory) L

  -- a question of a meaning has a yes exactly when the word meets it, else a no at its place
  meets-yes : (ty : Ty) (u : ℕ → ℕ) (p : ℕ) (x : Refusal) → (asked (meets 𝒰 allocations ty u p) x ≡ ok tt) ↔ Meets 𝒰 (Allocated allocations) u p ty
  meets-yes ty u p x =
      let D = meets-decides 𝒰 allocations positive ty u p in
      (λ e. D.0 (ask-ok _ _ _ e).0, λ m. ok-ask _ _ _ (D.1 m))

  meets-no : (ty : Ty) (u : ℕ → ℕ) (p : ℕ) (x r : Refusal)
      → (asked (meets 𝒰 allocations ty u p) x ≡ refused r) ↔ ((Meets 𝒰 (Allocated allocations) u p ty → ⊥) × (r ≡ x))
  meets-no ty u p x r =
      let N = not-exactly _ _ (meets-decides 𝒰 allocations positive ty u p) in
      (λ e. let (b, q) = (asked-no _ _ r).0 e in (N.0 b, q), λ (n, q). (asked-no _ _ r).1 (N.1 n, q))

  abbrev field_at : ℕ → ℕ → Outcome (Unit {0})
  field_at k f = field_ask 𝒰 allocations memory k (start_at allocations k) (type_at allocations k) f

  field-yes : (k f : ℕ) → (field_at k f ≡ ok tt) ↔ FieldMeets types tags allocations memory k f
  unfolding field_ask
  field-yes k f = meets-yes _ _ _ _

  field-no : (k f : ℕ) (r : Refusal) → (field_at k f ≡ refused r) ↔ ((FieldMeets types tags allocations memory k f → ⊥) × (r ≡ refusal q20 k f))
  unfolding field_ask
  field-no k f r = meets-no _ _ _ _ r

  first-unmet : (r : Refusal) → FirstNo (pairs allocations) 0 (record_ask 𝒰 allocations memory allocations) r
      → FirstUnmetField types tags allocations memory r
  first-unmet r F =
      let k = F.row in
      let G = first_no-refused _ 0 (field_at k) r F.here in
      let (n, p) = (field-no k G.row r).0 G.here in
      record {
        row = k;
        field = G.row;
        exists = omega (arith, F.high);
        within = omega (arith, G.high);
        unmet = n;
        before = λ f h. (field-yes k f).0 (G.before f (omega arith) h);
        earlier = λ j h. fields-meet 𝒰 allocations positive memory j (start_at allocations j) (type_at allocations j) (F.before j (omega arith) h);
        place = p;
      }

  unmet-first : (r : Refusal) → FirstUnmetField types tags allocations memory r
      → FirstNo (pairs allocations) 0 (record_ask 𝒰 allocations memory allocations) r
  unmet-first r F =
      record {
        row = F.row;
        low = omega arith;
        high = omega (arith, F.exists);
        here = no-first_no _ 0 (field_at F.row) r (record {
          row = F.field;
          low = omega arith;
          high = omega (arith, F.within);
          here = (field-no F.row F.field r).1 (F.unmet, F.place);
          before = λ f lo hi. (field-yes F.row f).1 (F.before f hi);
        });
        before = λ j lo hi. meet-fields 𝒰 allocations positive memory j (start_at allocations j) (type_at allocations j) (F.earlier j hi);
      }

  pub records-no : (r : Refusal)
      → (records_ask 𝒰 allocations memory allocations 0 ≡ refused r) ↔ FirstUnmetField types tags allocations memory r
  records-no r =
      let same = records-are 𝒰 allocations memory allocations L.all_laid.whole.0 in
      (λ e. first-unmet r (first_no-refused _ 0 _ r (sym same ∙ e)), λ F. same ∙ no-first_no _ 0 _ r (unmet-first r F))

  -- ---- Q21

  module _ (C : Code) (g : Ready) where
    abbrev register_at : ℕ → Outcome (Unit {0})
    register_at r = register_ask 𝒰 allocations ((routine_of C).annotation g.block) g.registers r

    abbrev Fine : ℕ → Type 0
    Fine q = RegisterMeets types tags allocations memory C g q

    register-yes : (q : ℕ) → (register_at q ≡ ok tt) ↔ Fine q
    unfolding register_ask
    register-yes q = meets-yes _ _ _ _

    register-no : (q : ℕ) (r : Refusal) → (register_at q ≡ refused r) ↔ ((Fine q → ⊥) × (r ≡ refusal q21 q 0))
    unfolding register_ask
    register-no q r = meets-no _ _ _ _ r

    first-register : (r : Refusal) → FirstNo 8 0 register_at r → FirstUnmetRegister types tags allocations memory C g r
    first-register r F =
        let (n, p) = (register-no F.row r).0 F.here in
        record {
          register = F.row;
          exists = omega (arith, F.high);
          unmet = n;
          before = λ q h. (register-yes q).0 (F.before q (omega arith) h);
          place = p;
        }

    register-first : (r : Refusal) → FirstUnmetRegister types tags allocations memory C g r → FirstNo 8 0 register_at r
    register-first r F =
        record {
          row = F.register;
          low = omega arith;
          high = omega (arith, F.exists);
          here = (register-no F.register r).1 (F.unmet, F.place);
          before = λ q lo hi. (register-yes q).1 (F.before q hi);
        }

    pub registers-no : (r : Refusal) → (first_no 8 0 register_at ≡ refused r) ↔ FirstUnmetRegister types tags allocations memory C g r
    registers-no r = (λ e. first-register r (first_no-refused 8 0 _ r e), λ F. no-first_no 8 0 _ r (register-first r F))

-- ---- the two checks

-- two rows of questions, the second apart
two-apart : (a b : Outcome (Unit {0})) → in_order (a ∷ b ∷ []) ≡ then a (λ _. b)
unfolding in_order then
two-apart (ok u) (ok v) = refl
two-apart (ok u) (refused r) = refl
two-apart (refused r) b = refl

module _ (types tags allocations memory : List ℕ) where
  abbrev asked-layout : Outcome (Unit {0})
  asked-layout = layout_ask types tags allocations (length memory)

  abbrev Laid : Type 0
  Laid = LayoutPasses types tags allocations (length memory)

  abbrev layout_of : (asked-layout ≡ ok tt) ↔ Laid
  layout_of = layout-exactly types tags allocations (length memory)

  named-memory : (r : Refusal) → MemoryNo types tags allocations memory r
      → (asked-layout ≡ refused r) ⊎ ((asked-layout ≡ ok tt) × (records_ask (tables_of types tags) allocations memory allocations 0 ≡ refused r))
  named-memory r (layout_no N) = inl ((layout-no types tags allocations (length memory) r).1 N)
  named-memory r (field_no L F) = inr (layout_of.1 L, (records-no types tags allocations memory L r).1 F)

  -- the memory check names a refusal exactly when its question is the first with a no
  pub memory-names : (r : Refusal) → (memory_check types tags allocations memory ≡ refusing r) ↔ MemoryNo types tags allocations memory r
  unfolding memory_check memory_ask
  memory-names r = (
    λ e. either ((no-then _ _ r).0 (sym (two-apart _ _) ∙ (verdict-refused _ r).0 e))
        (λ l. layout_no ((layout-no types tags allocations (length memory) r).0 l))
        (λ (l, q). let L = layout_of.0 l in field_no L ((records-no types tags allocations memory L r).0 q)),
    λ N. (verdict-refused _ r).1 (two-apart _ _ ∙ (no-then _ _ r).1 (named-memory r N)),
  )

  module _ (C : Code) (g : Ready) where
    abbrev Q : List (Outcome (Unit {0}))
    Q = routine_questions (rows types) C g.block

    abbrev asked-registers : Outcome (Unit {0})
    asked-registers = first_no 8 0 (register_ask (tables_of types tags) allocations ((routine_of C).annotation g.block) g.registers)

    named-rest : (r : Refusal) → EntryNo types tags allocations memory C g r
        → (asked-layout ≡ refused r) ⊎ ((asked-layout ≡ ok tt) × (in_order (routine_ask (rows types) C g.block ∷ asked-registers ∷ []) ≡ refused r))
    unfolding routine_ask
    named-rest r (layout_no N) = inl ((layout-no types tags allocations (length memory) r).1 N)
    named-rest r (routine_no L F) = inr (layout_of.1 L, two-apart _ _ ∙ (no-then _ _ r).1 (inl (refused-first Q r F)))
    named-rest r (register_no L A F) =
        inr (layout_of.1 L, two-apart _ _ ∙ (no-then _ _ r).1 (inr (passed-all Q A, (registers-no types tags allocations memory L C g r).1 F)))

    rest-named : (r : Refusal) → Laid → in_order (routine_ask (rows types) C g.block ∷ asked-registers ∷ []) ≡ refused r
        → EntryNo types tags allocations memory C g r
    unfolding routine_ask
    rest-named r L e =
        either ((no-then _ _ r).0 (sym (two-apart _ _) ∙ e)) (λ q. routine_no L (first-refused Q r q))
        (λ (q, m). register_no L (all-passed Q q) ((registers-no types tags allocations memory L C g r).0 m))

    -- so does the entry check
    pub entry-names : (r : Refusal) → (entry_check types tags allocations memory C g ≡ refusing r) ↔ EntryNo types tags allocations memory C g r
    unfolding entry_check entry_ask routine_of in_order
    entry-names r = (
      λ e. either ((no-then _ _ r).0 ((verdict-refused _ r).0 e))
          (λ l. layout_no ((layout-no types tags allocations (length memory) r).0 l)) (λ (l, q). rest-named r (layout_of.0 l) q),
      λ N. (verdict-refused _ r).1 ((no-then _ _ r).1 (named-rest r N)),
    )

pub demand-2 : Demand2
demand-2 =
    record {
      checks = λ types tags C. record { accepts = check-accepts types tags C; names = check-names types tags C };
      memory_checks = λ types tags allocations memory.
          record { passes = memory-exactly types tags allocations memory; names = memory-names types tags allocations memory };
      entry_checks = λ types tags allocations memory C g.
          record { passes = entry-exactly types tags allocations memory C g; names = entry-names types tags allocations memory C g };
      runs = run-exact;
    }
