-- A block of an accepted routine: each instruction is carried out, and the block's end leads to registers and memory in type.
use mathlib.Core.Path.{◌≡◌, refl, sym, ap, subst, ◌∙◌}
use mathlib.Core.Bool.{false}
use mathlib.Core.List.{List}
use Prim.Native.Nat.{ℕ, zero, suc, ◌+◌, ◌-◌, ◌*◌, ◌/◌, ◌%◌, ◌^◌, ◌<◌}
use native.Mathlib.Omega.{arith}
use native.Mathlib.Nat.{add-zero, zero-add}
use lib.Dec.{ltb}
use lib.ListN.{length, get_or}
use borrow.Author.Tests.{lt-ltb, le-ltb, eqb-true, eqb-false}
use Rattle.std.specs.Prelude.{Some}
use Rattle.model.specs.Question.{pick, Outcome, ok, provided, refused}
use Rattle.model.specs.Word.{sum}
use Rattle.model.specs.Table.{Tables, Routine, last_at}
use Rattle.model.specs.Meaning.{Allocation}
use Rattle.model.specs.Machine.{Plain, load, store, End, Instruction, plain, end, malformed, instruction_at, reg, effect, registers_after}
use Rattle.model.specs.Machine.{memory_after, Next, stop, enter, next, State, goes, halts, after, at_halt, entering, leave, perform, step}
use Rattle.model.specs.Machine.{carry_out, form_ask, Access, to_load, to_store}
use Rattle.model.specs.Reading.{Reading, entry, is_open}
use Rattle.model.specs.Check.{on_record, read_plain, read_instruction, read_at, read_on, block_ask, reading_at, reference_in, no_at, read_end}
use Rattle.model.proofs.Logic.{ask-ok, then_ok, passed_then, ok-then, ok_same, not-ok, not-true}
use Rattle.model.proofs.Inversion.{record-ok}
use Rattle.model.proofs.Tidy.{Tidy, plain-tidy, entry-tidy}
use Rattle.model.proofs.Lawful.{Lawful, Tabled}
use Rattle.model.proofs.Decode.{Fine, PlainFine, EndFine, decode-fine}
use Rattle.model.proofs.Invariant.{Invariant}
use Rattle.model.proofs.StepSound.{words_made, Made, access-ok, plain-sound}
use Rattle.model.proofs.TableLaws.{Sized, Annotated}
use Rattle.model.proofs.EdgeSound.{Stands, MemoryFit, Went, entry-ok, edges-ok}

-- ---- the words of a block's values

pub record Store : Type 0 where
  pub regs : List ℕ
  pub mem : List ℕ

abbrev pub act : Instruction → Store → Store
act (plain x) o = record { regs = registers_after (effect x o.regs) o.regs o.mem; mem = memory_after (effect x o.regs) o.mem }
act (end e) o = o
act malformed o = o

abbrev pub made_by : Instruction → Store → ℕ → ℕ
made_by (plain x) o f = words_made x o.regs o.mem f
made_by (end e) o f = 0
made_by malformed o f = 0

module _ (P : Routine) (b : ℕ) (o : Store) where
  -- registers and memory after j instructions of the block
  unfoldable pub trace : ℕ → Store
  trace zero = o
  trace (suc j) = act (instruction_at P b j) (trace j)

  -- the word of each value: a register's at entry, or made by the instruction at its birthplace
  unfoldable pub valuation : ℕ → ℕ
  valuation v = pick (ltb v 8) (get_or o.regs v 0) (made_by (instruction_at P b (v / 8 - 1)) (trace (v / 8 - 1)) (v % 8))

  pub valuation-entry : (v : ℕ) → v < 8 → valuation v ≡ get_or o.regs v 0
  unfolding valuation
  valuation-entry v h = rw (lt-ltb v 8 h)

  pub valuation-made : (j f : ℕ) → f < 8 → valuation (8 * suc j + f) ≡ made_by (instruction_at P b j) (trace j) f
  unfolding valuation
  valuation-made j f h =
      let at : (8 * suc j + f) / 8 - 1 ≡ j = omega arith in
      let rest : (8 * suc j + f) % 8 ≡ f = omega arith in
      rw (le-ltb (8 * suc j + f) 8 (omega arith), at, rest)

-- ---- what acceptance says of each instruction

-- numbers apart from the readings beside them, which arithmetic would look through for facts
none_below : (i : ℕ) → i < 0 → ⊥
none_below i h = omega arith

one_below : (i n : ℕ) → suc i < suc n → i < n
one_below i n h = omega arith

one_further : (j i : ℕ) → suc j + i ≡ j + suc i
one_further j i = omega arith

module _ (𝒯 : Tables) (P : Routine) where
  pub record PassedAt (b j : ℕ) : Type 0 where
    pub before : Reading
    pub reads : reading_at 𝒯 P b j ≡ ok before
    pub afterwards : Reading
    pub passes : read_at 𝒯 P b j before ≡ ok afterwards

  -- the first instruction passed, and the others are read on from there
  first-passed : (b n j : ℕ) (st : Reading) → read_on 𝒯 P b (suc n) j st ≡ ok tt
      → (st' : Reading) × (read_at 𝒯 P b j st ≡ ok st') × (read_on 𝒯 P b n (suc j) st' ≡ ok tt)
  unfolding read_on
  first-passed b n j st q = then_ok (read_at 𝒯 P b j st) (read_on 𝒯 P b n (suc j)) q

  read-further : (b j : ℕ) (st st' : Reading) → reading_at 𝒯 P b j ≡ ok st → read_at 𝒯 P b j st ≡ ok st' → reading_at 𝒯 P b (suc j) ≡ ok st'
  unfolding reading_at
  read-further b j st st' r p = ok-then (reading_at 𝒯 P b j) (read_at 𝒯 P b j) st r ∙ p

  passed_on : (b n j : ℕ) (st : Reading) → reading_at 𝒯 P b j ≡ ok st → read_on 𝒯 P b n j st ≡ ok tt → (i : ℕ) → i < n → PassedAt b (j + i)
  passed_on b zero j st r q i h = absurd (none_below i h)
  passed_on b (suc n) j st r q zero h =
      let (st', p, q₁) = first-passed b n j st q in
      subst (PassedAt b) (sym (add-zero j)) (record { before = st; reads = r; afterwards = st'; passes = p })
  passed_on b (suc n) j st r q (suc i) h =
      let (st', p, q₁) = first-passed b n j st q in
      subst (PassedAt b) (one_further j i) (passed_on b n (suc j) st' (read-further b j st st' r p) q₁ i (one_below i n h))

  -- at each instruction of a passed block no question has a no
  pub passed-block : (b : ℕ) → block_ask 𝒯 P b ≡ ok tt → (j : ℕ) → j < P.long b → PassedAt b j
  unfolding block_ask reading_at
  passed-block b q j h = rw (← zero-add j) (passed_on b (P.long b) 0 (entry (P.annotation b)) refl q j h)

-- ---- the block

module _ (𝒯 : Tables) (Is : Allocation) (memory₀ : List ℕ) (narrow : length memory₀ < 2 ^ 32) (law : Lawful 𝒯 Is (length memory₀))
    (tab : Tabled 𝒯 Is) (P : Routine) (A : Annotated P) (S : Sized P) where
  -- a state inside a block, mirrored by the reading of the block up to there
  pub record At (s : State) : Type 0 where
    pub exists : s.block < P.count
    pub within : s.offset < P.long s.block
    pub origin : Store
    pub regs : s.registers ≡ (trace P s.block origin s.offset).regs
    pub mem : s.memory ≡ (trace P s.block origin s.offset).mem
    pub reading : Reading
    pub reads : reading_at 𝒯 P s.block s.offset ≡ ok reading
    pub tidy : Tidy reading (suc s.offset)
    pub mirrors : Invariant 𝒯 Is memory₀ (valuation P s.block origin) reading s.registers s.memory
    pub begins : s.offset ≡ 0 → Stands 𝒯 Is P s.block s.registers × MemoryFit 𝒯 Is memory₀ s.memory

  -- a block's first instruction
  pub at_entry : (s : State) → s.offset ≡ 0 → Stands 𝒯 Is P s.block s.registers → MemoryFit 𝒯 Is memory₀ s.memory → At s
  unfolding trace reading_at
  at_entry s z B M =
      let o : Store = record { regs = s.registers; mem = s.memory } in
      record {
        exists = B.exists;
        within = rw z (S.least s.block B.exists);
        origin = o;
        regs = rw z;
        mem = rw z;
        reading = entry (P.annotation s.block);
        reads = rw z;
        tidy = rw z (entry-tidy (P.annotation s.block) (A.eight s.block));
        mirrors = entry-ok 𝒯 Is memory₀ narrow law tab (valuation P s.block o) (P.annotation s.block) s.registers s.memory (A.eight s.block)
            (λ i h. A.names s.block i B.exists h) (λ i h. valuation-entry P s.block o i h) B.eight B.meets M;
        begins = λ z. (B, M);
      }

  -- one step from there: on inside the block, out of it to another, or to the halt
  pub data Stepped (s : State) : Type 0 where
    inner : {s' : State} → step P s ≡ goes s' → s'.block ≡ s.block → s'.offset ≡ suc s.offset → s'.finished ≡ s.finished → At s' → Stepped s
    leaves : {s' : State} → step P s ≡ goes s' → suc s.offset ≡ P.long s.block → s'.offset ≡ 0 → s'.finished ≡ suc s.finished
        → Stands 𝒯 Is P s'.block s'.registers → MemoryFit 𝒯 Is memory₀ s'.memory → Stepped s
    stops : {s' : State} → step P s ≡ halts s' → suc s.offset ≡ P.long s.block → MemoryFit 𝒯 Is memory₀ s'.memory → Stepped s

  -- the questions of an instruction at a state
  abbrev pub read_here : State → Instruction → Reading → Outcome Reading
  read_here s x st =
      read_instruction 𝒯 P (no_at 𝒯 P s.block s.offset) s.block (suc s.offset) (last_at P s.block s.offset) x st

  plain_step : (s : State) (a : At s) (x : Plain) (st' : Reading) → instruction_at P s.block s.offset ≡ plain x → PlainFine x
      → read_here s (plain x) a.reading ≡ ok st' → Stepped s
  unfolding read_instruction form_ask step perform carry_out provided reading_at trace
  plain_step s a x st' e f q =
      let (inside, q₁) = ask-ok _ _ _ q in
      let not_end = not-true _ inside in
      let later : suc s.offset < P.long s.block = let d = eqb-false _ _ not_end in let w = a.within in by_less' d w in
      let small : suc s.offset < 32 = let m = S.most s.block a.exists in omega arith in
      let ρ = valuation P s.block a.origin in
      let made : Made ρ (suc s.offset) x s.registers s.memory =
      λ i h. valuation-made P s.block a.origin s.offset i h ∙ rw (e, a.regs, a.mem) in
      let K = plain-sound 𝒯 Is memory₀ narrow law tab ρ _ (suc s.offset) x a.reading st' s.registers s.memory
      (omega arith) small f a.tidy a.mirrors made q₁ in
      inner {s' = after s (effect x s.registers)} (rw (e, not_end, K.runs)) refl refl refl
      (record {
        exists = a.exists;
        within = later;
        origin = a.origin;
        regs = rw (e, a.regs, a.mem);
        mem = rw (e, a.regs, a.mem);
        reading = st';
        reads = ok-then _ _ a.reading a.reads ∙ rw e q;
        tidy = plain-tidy 𝒯 tab.eight _ (suc s.offset) x a.reading st' (omega arith) small a.tidy q₁;
        mirrors = K.kept;
        begins = λ z. absurd (omega arith);
      })
    where
      by_less' : (suc s.offset ≡ P.long s.block → ⊥) → s.offset < P.long s.block → suc s.offset < P.long s.block
      by_less' d w = omega arith

  shut-fit : (st : Reading) (ρ : ℕ → ℕ) (r m : List ℕ) → is_open st ≡ false → Invariant 𝒯 Is memory₀ ρ st r m → MemoryFit 𝒯 Is memory₀ m
  shut-fit st ρ r m z I = record { records = (I.shut z).records; kept = I.kept }

  end_step : (s : State) (a : At s) (e : End) (st' : Reading) → instruction_at P s.block s.offset ≡ end e → EndFine e
      → read_here s (end e) a.reading ≡ ok st' → Stepped s
  unfolding read_instruction form_ask read_end step perform provided
  end_step s a e st' i f q =
      let (last, q₁) = ask-ok _ _ _ q in
      let (there, q₂) = ask-ok _ _ _ q₁ in
      let (shut, q₃) = ask-ok _ _ _ q₂ in
      let (edges, q₄) = passed_then _ _ q₃ in
      let ρ = valuation P s.block a.origin in
      let M = shut-fit a.reading ρ s.registers s.memory (not-true _ shut) a.mirrors in
      let W = edges-ok 𝒯 Is memory₀ narrow law tab ρ P A _ a.reading s.registers s.memory (suc s.offset) s.block e f
      a.mirrors a.tidy there edges in
      go (next e s.block s.registers) (rw (i, last, there)) (eqb-true _ _ last) M W
    where
      go : (n : Next) → step P s ≡ leave s n → suc s.offset ≡ P.long s.block → MemoryFit 𝒯 Is memory₀ s.memory
          → Went 𝒯 Is P s.registers n → Stepped s
      go stop h l M W = stops {s' = at_halt s} (unfold leave in h) l M
      go (enter t) h l M W = leaves {s' = entering s t} (unfold leave in h) l refl refl W M

  module _ (accepted : (b : ℕ) → b < P.count → block_ask 𝒯 P b ≡ ok tt) where
    -- the questions put at a state's instruction had no no
    pub passed-at : (s : State) (a : At s) → (st' : Reading) × (read_here s (instruction_at P s.block s.offset) a.reading ≡ ok st')
    passed-at s a =
        let Q = passed-block 𝒯 P s.block (accepted s.block a.exists) s.offset a.within in
        (Q.afterwards, rw (ok_same (sym a.reads ∙ Q.reads)) Q.passes)

    pub step-sound : (s : State) → At s → Stepped s
    unfolding read_instruction form_ask
    step-sound s a = go (instruction_at P s.block s.offset) refl (decode-fine _) (passed-at s a)
      where
        go : (x : Instruction) → instruction_at P s.block s.offset ≡ x → Fine x → (st' : Reading) × (read_here s x a.reading ≡ ok st') → Stepped s
        go (plain x) e f (st', q) = plain_step s a x st' e f q
        go (end x) e f (st', q) = end_step s a x st' e f q
        go malformed e f (st', q) = absurd (not-ok q)

    -- ---- loads and stores

    -- the access through register b at offset c is to a field of the record that the check says
    pub record Field (s : State) (b c : ℕ) : Type 0 where
      pub type : ℕ
      pub exists : s.block < P.count
      pub within : s.offset < P.long s.block
      pub reading : Reading
      pub reads : reading_at 𝒯 P s.block s.offset ≡ ok reading
      pub said : reference_in 𝒯 reading b ≡ Some type
      pub base : Is (reg s.registers b) type
      pub below : c < 𝒯.size type
      pub unwrapped : sum (reg s.registers b) c ≡ reg s.registers b + c

    field-ok : (s : State) (a : At s) (x : Access) (b c : ℕ) (st' : Reading) (k : ℕ → Outcome Reading) → b < 8
        → on_record 𝒯 (λ q. refused (no_at 𝒯 P s.block s.offset q)) x a.reading b c k ≡ ok st' → Field s b c
    field-ok s a x b c st' k h q =
        let R = record-ok 𝒯 _ x a.reading b c st' k q in
        let ρ = valuation P s.block a.origin in
        let C = access-ok 𝒯 Is memory₀ narrow law tab ρ a.reading s.registers s.memory (suc s.offset) b c R.type
        a.tidy a.mirrors h R.reference R.below in
        record {
          type = R.type;
          exists = a.exists;
          within = a.within;
          reading = a.reading;
          reads = a.reads;
          said = R.reference;
          base = rw C.value C.base;
          below = R.below;
          unwrapped = C.at ∙ ap (λ (x : ℕ). x + c) (sym C.value);
        }

    pub load_field : (s : State) → At s → (a b c : ℕ) → instruction_at P s.block s.offset ≡ plain (load a b c) → Field s b c
    unfolding read_instruction form_ask read_plain
    load_field s t a b c e =
        let (st', q) = passed-at s t in
        let f : (a < 8) × (b < 8) = rw e at (decode-fine (get_or (P.part s.block) s.offset 0)) in
        field-ok s t to_load b c st' _ f.1 (ask-ok _ _ _ (rw e at q)).1

    pub store-field : (s : State) → At s → (a b c : ℕ) → instruction_at P s.block s.offset ≡ plain (store a b c) → Field s b c
    unfolding read_instruction form_ask read_plain
    store-field s t a b c e =
        let (st', q) = passed-at s t in
        let f : (a < 8) × (b < 8) = rw e at (decode-fine (get_or (P.part s.block) s.offset 0)) in
        field-ok s t to_store b c st' _ f.1 (ask-ok _ _ _ (rw e at q)).1
