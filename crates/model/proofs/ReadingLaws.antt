-- Sentences of 'How a block is read' as laws of the rules, over every instruction between two of a block.
use mathlib.Core.Path.{◌≡◌, refl, sym, ap, subst, ◌∙◌}
use mathlib.Core.Option.{Option, none, some, some-injective}
use mathlib.Core.List.{List}
use Prim.Native.Nat.{ℕ, zero, suc, ◌*◌, ◌/◌, ◌%◌, ◌≤◌, ◌<◌}
use native.Mathlib.Omega.{arith}
use lib.ListN.{length, get_or, set, length-set}
use lib.Seq.{get_or-set_same, get_or-set_other}
use borrow.Author.Tests.{eq-eqb, ne_eqb}
use Rattle.model.specs.Question.{ok}
use Rattle.model.specs.Types.{Ty}
use Rattle.model.specs.Table.{Tables, tables_of, Code, Routine, routine_of, tables_ask}
use Rattle.model.specs.Machine.{Plain, load, store, Instruction, plain, instruction_at, to_store}
use Rattle.model.specs.Rules.{Known}
use Rattle.model.specs.ReadingRules.{made, eight_made, BlockState, holds, knowing, seeing, MayAccess, Sees, newly, again, Closes, Reads, copies}
use Rattle.model.specs.ReadingRules.{constants, adds, subtracts, multiplies, divides, moves_any, moves_from, moves_run, loads, opens, closes, Reaches}
use Rattle.model.specs.ReadingRules.{enters, reads_on}
use Rattle.model.proofs.Logic.{by_equality}
use Rattle.model.proofs.Decode.{Fine, decode-fine}
use Rattle.model.proofs.TableLaws.{sized, sizes-eight}
use Rattle.model.proofs.Exactly.{passed-lengths, passed-types}
use Rattle.model.proofs.ReadingDecides.{none-not-some}
use Rattle.model.proofs.ReadingBlocks.{held-before, new-values}

-- ---- values made

-- the values that an instruction makes have the types that its rule gives them, and every other value keeps its own
pub made-type : (j i : ℕ) (f : ℕ → Ty) (c : Option ℕ) (K : Known) → i < 8 → (knowing j f c K).type (made j i) ≡ f i
made-type j i f c K h =
    let e : made j i / 8 ≡ suc j = omega arith in
    let m : made j i % 8 ≡ i = omega arith in
    rw (e, eq-eqb (suc j) (suc j) refl, m) refl

pub other-type : (j v : ℕ) (f : ℕ → Ty) (c : Option ℕ) (K : Known) → ((i : ℕ) → i < 8 → v ≡ made j i → ⊥) → (knowing j f c K).type v ≡ K.type v
other-type j v f c K n =
    by_equality (v / 8) (suc j) (λ e. absurd (n (v % 8) (omega arith) (omega arith))) (λ d. rw (ne_eqb (v / 8) (suc j) d) refl)

made_at : (j c : ℕ) → c < 8 → get_or (eight_made j) c 0 ≡ made j c
made_at j zero k = refl
made_at j (suc zero) k = refl
made_at j (suc (suc zero)) k = refl
made_at j (suc (suc (suc zero))) k = refl
made_at j (suc (suc (suc (suc zero)))) k = refl
made_at j (suc (suc (suc (suc (suc zero))))) k = refl
made_at j (suc (suc (suc (suc (suc (suc zero)))))) k = refl
made_at j (suc (suc (suc (suc (suc (suc (suc zero))))))) k = refl
made_at j (suc (suc (suc (suc (suc (suc (suc (suc c)))))))) k = absurd (omega arith)

module _ (𝒯 : Tables) where
  -- ---- what an instruction is

  -- a store that closes
  pub data ClosesAt (j : ℕ) (s : BlockState) : Plain → Type 0 where
    closes_at : {a b c t : ℕ} {fields : List ℕ} {s' : BlockState} → MayAccess 𝒯 to_store s (holds s b) c t → Sees 𝒯 j (holds s b) t s fields s'
        → Closes 𝒯 s'.known t (set fields c (holds s a)) → ClosesAt j s (store a b c)

  -- a store to field c through v
  pub data StoresTo (s : BlockState) (v c : ℕ) : Plain → Type 0 where
    stores-to : {a b : ℕ} → holds s b ≡ v → StoresTo s v c (store a b c)

  -- neither of them
  abbrev pub Spares : ℕ → ℕ → ℕ → BlockState → Plain → Type 0
  Spares v c j s x = (ClosesAt j s x → ⊥) × (StoresTo s v c x → ⊥)

  -- ---- the registers are eight, and so are the fields of a record seen

  sees-registers : (j v t : ℕ) (s s' : BlockState) (fs : List ℕ) → Sees 𝒯 j v t s fs s' → length s'.registers ≡ length s.registers
  sees-registers j v t s s' fs (newly e) = refl
  sees-registers j v t s s' fs (again e) = refl

  reads-registers : (j : ℕ) (s s' : BlockState) (x : Plain) → Reads 𝒯 j s x s' → length s'.registers ≡ length s.registers
  reads-registers j s s' x (copies {a = a}) = length-set s.registers a _
  reads-registers j s s' x (constants {a = a}) = length-set s.registers a _
  reads-registers j s s' x (adds {a = a}) = length-set s.registers a _
  reads-registers j s s' x (subtracts {a = a}) = length-set s.registers a _
  reads-registers j s s' x (multiplies {a = a}) = length-set s.registers a _
  reads-registers j s s' x (divides {a = a}) = length-set s.registers a _
  reads-registers j s s' x (moves_any {a = a} M W) = length-set s.registers a _
  reads-registers j s s' x (moves_from {a = a} W) = length-set s.registers a _
  reads-registers j s s' x (moves_run {a = a} M W) = length-set s.registers a _
  reads-registers j s s' x (loads {a = a} {b = b} {t = t} {fields = fs} {s' = s₁} A S) =
      length-set s₁.registers a _ ∙ sees-registers j (holds s b) t s s₁ fs S
  reads-registers j s s' x (opens {b = b} {t = t} {fields = fs} {s' = s₁} A S N) = sees-registers j (holds s b) t s s₁ fs S
  reads-registers j s s' x (closes {b = b} {t = t} {fields = fs} {s' = s₁} A S N) = sees-registers j (holds s b) t s s₁ fs S

  -- a record that is seen has eight values
  abbrev EightSeen : BlockState → Type 0
  EightSeen s = (v : ℕ) (fs : List ℕ) → s.seen v ≡ some fs → length fs ≡ 8

  eight-seeing : (v : ℕ) (fs : List ℕ) (f : ℕ → Option (List ℕ)) → length fs ≡ 8 → ((w : ℕ) (gs : List ℕ) → f w ≡ some gs → length gs ≡ 8)
      → (w : ℕ) (gs : List ℕ) → seeing v fs f w ≡ some gs → length gs ≡ 8
  eight-seeing v fs f l h w gs e =
      by_equality w v
      (λ q. let g : some fs ≡ some gs = rw (eq-eqb w v q) at e in ap (λ (x : List ℕ). length x) (sym (some-injective fs gs g)) ∙ l)
      (λ d. h w gs (rw (ne_eqb w v d) at e))

  sees-eight : (j v t : ℕ) (s s' : BlockState) (fs : List ℕ) → Sees 𝒯 j v t s fs s' → EightSeen s → (length fs ≡ 8) × EightSeen s'
  sees-eight j v t s s' fs (newly e) H = (refl, eight-seeing v (eight_made j) s.seen refl H)
  sees-eight j v t s s' fs (again e) H = (H v fs e, H)

  reads-eight : (j : ℕ) (s s' : BlockState) (x : Plain) → Reads 𝒯 j s x s' → EightSeen s → EightSeen s'
  reads-eight j s s' x copies H = H
  reads-eight j s s' x constants H = H
  reads-eight j s s' x adds H = H
  reads-eight j s s' x subtracts H = H
  reads-eight j s s' x multiplies H = H
  reads-eight j s s' x divides H = H
  reads-eight j s s' x (moves_any M W) H = H
  reads-eight j s s' x (moves_from W) H = H
  reads-eight j s s' x (moves_run M W) H = H
  reads-eight j s s' x (loads {b = b} {t = t} {fields = fs} {s' = s₁} A S) H = (sees-eight j (holds s b) t s s₁ fs S H).1
  reads-eight j s s' (store a b c) (opens {t = t} {fields = fs} {s' = s₁} A S N) H =
      let (l, K) = sees-eight j (holds s b) t s s₁ fs S H in
      eight-seeing (holds s b) (set fs c (holds s a)) s₁.seen (length-set fs c (holds s a) ∙ l) K
  reads-eight j s s' x (closes A S N) H = λ v fs e. absurd (none-not-some e)

  -- ---- what is seen of a field

  -- field c of the record behind v is seen, and has the value w
  pub record Shows (s : BlockState) (v c w : ℕ) : Type 0 where
    pub fields : List ℕ
    pub seen : s.seen v ≡ some fields
    pub value : get_or fields c 0 ≡ w

  -- looking at a record keeps what is seen
  sees-keeps : (j u t v c w : ℕ) (s s' : BlockState) (fs : List ℕ) → Sees 𝒯 j u t s fs s' → Shows s v c w → Shows s' v c w
  sees-keeps j u t v c w s s' fs (newly e) H =
      by_equality v u (λ q. absurd (none-not-some (sym e ∙ ap (λ (x : ℕ). s.seen x) (sym q) ∙ H.seen)))
      (λ d. record { fields = H.fields; seen = rw (ne_eqb v u d) H.seen; value = H.value })
  sees-keeps j u t v c w s s' fs (again e) H = H

  -- and what it sees is what is shown
  sees-shows : (j u t c : ℕ) (s s' : BlockState) (fs : List ℕ) → Sees 𝒯 j u t s fs s' → Shows s' u c (get_or fs c 0)
  sees-shows j u t c s s' fs (newly e) = record { fields = eight_made j; seen = rw (eq-eqb u u refl) refl; value = refl }
  sees-shows j u t c s s' fs (again e) = record { fields = fs; seen = e; value = refl }

  shows-one : (s : BlockState) (v c w : ℕ) (fs : List ℕ) → Shows s v c w → s.seen v ≡ some fs → get_or fs c 0 ≡ w
  shows-one s v c w fs H e = ap (λ (l : List ℕ). get_or l c 0) (some-injective fs H.fields (sym e ∙ H.seen)) ∙ H.value

  sees-value : (j v t c w : ℕ) (s s' : BlockState) (fs : List ℕ) → Sees 𝒯 j v t s fs s' → Shows s v c w → get_or fs c 0 ≡ w
  sees-value j v t c w s s' fs (newly e) H = absurd (none-not-some (sym e ∙ H.seen))
  sees-value j v t c w s s' fs (again e) H = shows-one s v c w fs H e

  -- an instruction that spares the field keeps what is shown of it
  keeps : (j v c w : ℕ) (s s' : BlockState) (x : Plain) → Spares v c j s x → Reads 𝒯 j s x s' → Shows s v c w → Shows s' v c w
  keeps j v c w s s' x N copies H = record { fields = H.fields; seen = H.seen; value = H.value }
  keeps j v c w s s' x N constants H = record { fields = H.fields; seen = H.seen; value = H.value }
  keeps j v c w s s' x N adds H = record { fields = H.fields; seen = H.seen; value = H.value }
  keeps j v c w s s' x N subtracts H = record { fields = H.fields; seen = H.seen; value = H.value }
  keeps j v c w s s' x N multiplies H = record { fields = H.fields; seen = H.seen; value = H.value }
  keeps j v c w s s' x N divides H = record { fields = H.fields; seen = H.seen; value = H.value }
  keeps j v c w s s' x N (moves_any M W) H = record { fields = H.fields; seen = H.seen; value = H.value }
  keeps j v c w s s' x N (moves_from W) H = record { fields = H.fields; seen = H.seen; value = H.value }
  keeps j v c w s s' x N (moves_run M W) H = record { fields = H.fields; seen = H.seen; value = H.value }
  keeps j v c w s s' x N (loads {b = b} {t = t} {fields = fs} {s' = s₁} A S) H =
      let I = sees-keeps j (holds s b) t v c w s s₁ fs S H in
      record { fields = I.fields; seen = I.seen; value = I.value }
  keeps j v c w s s' (store a b d) N (opens {t = t} {fields = fs} {s' = s₁} A S C) H =
      by_equality v (holds s b)
      (λ e. by_equality c d (λ q. absurd (N.1 (rw q (stores-to (sym e)))))
      (λ q. record {
        fields = set fs d (holds s a);
        seen = rw (eq-eqb v (holds s b) e) refl;
        value = get_or-set_other fs d c (holds s a) 0 q ∙ sees-value j (holds s b) t c w s s₁ fs S (rw e at H);
      }))
      (λ q. let I = sees-keeps j (holds s b) t v c w s s₁ fs S H in
      record { fields = I.fields; seen = rw (ne_eqb v (holds s b) q) I.seen; value = I.value })
  keeps j v c w s s' x N (closes A S C) H = absurd (N.0 (closes_at A S C))

  -- a load gives what is shown, and leaves it shown
  load_gives : (j a b c w : ℕ) (s s' : BlockState) → a < length s.registers → Shows s (holds s b) c w → Reads 𝒯 j s (load a b c) s' → holds s' a ≡ w
  load_gives j a b c w s s' h G (loads {t = t} {fields = fs} {s' = s₁} A S) =
      get_or-set_same s₁.registers a (get_or fs c 0) 0 (rw (sees-registers j (holds s b) t s s₁ fs S) h) ∙ sees-value j (holds s b) t c w s s₁ fs S G

  load-shows : (j a b c : ℕ) (s s' : BlockState) → a < length s.registers → Reads 𝒯 j s (load a b c) s' → Shows s' (holds s b) c (holds s' a)
  load-shows j a b c s s' h (loads {t = t} {fields = fs} {s' = s₁} A S) =
      let I = sees-shows j (holds s b) t c s s₁ fs S in
      let held = get_or-set_same s₁.registers a (get_or fs c 0) 0 (rw (sees-registers j (holds s b) t s s₁ fs S) h) in
      record { fields = I.fields; seen = I.seen; value = I.value ∙ sym held }

  store-shows : (j a b c : ℕ) (s s' : BlockState) → EightSeen s → c < 8 → (s'.through ≡ none → ⊥) → Reads 𝒯 j s (store a b c) s'
      → Shows s' (holds s b) c (holds s a)
  store-shows j a b c s s' H k n (opens {t = t} {fields = fs} {s' = s₁} A S C) =
      let (l, K) = sees-eight j (holds s b) t s s₁ fs S H in
      record {
        fields = set fs c (holds s a);
        seen = rw (eq-eqb (holds s b) (holds s b) refl) refl;
        value = get_or-set_same fs c (holds s a) 0 (omega arith);
      }
  store-shows j a b c s s' H k n (closes A S C) = absurd (n refl)

  -- ---- after a close

  -- 01: 'unless a store closed between them': a store that leaves no record open leaves nothing seen
  pub close-forgets : (j a b c : ℕ) (s s' : BlockState) → Reads 𝒯 j s (store a b c) s' → s'.through ≡ none → (v : ℕ) → s'.seen v ≡ none
  close-forgets j a b c s s' (opens A S C) n v = absurd (none-not-some (sym n))
  close-forgets j a b c s s' (closes A S C) n v = refl

  -- what is seen of field c behind v was made after offset k
  abbrev MadeAfter : ℕ → BlockState → ℕ → ℕ → Type 0
  MadeAfter k s v c = (fs : List ℕ) → s.seen v ≡ some fs → 8 * suc (suc k) ≤ get_or fs c 0

  sees-after : (k j u t c : ℕ) (s s' : BlockState) (fs : List ℕ) → c < 8 → k < j → Sees 𝒯 j u t s fs s' → MadeAfter k s u c → 8 * suc (suc k) ≤ get_or fs c 0
  sees-after k j u t c s s' fs h l (newly e) H = rw (made_at j c h) (omega arith)
  sees-after k j u t c s s' fs h l (again e) H = H fs e

  seeing-after : (k v u c : ℕ) (fs : List ℕ) (s : BlockState) → (v ≡ u → 8 * suc (suc k) ≤ get_or fs c 0) → MadeAfter k s v c
      → (gs : List ℕ) → seeing u fs s.seen v ≡ some gs → 8 * suc (suc k) ≤ get_or gs c 0
  seeing-after k v u c fs s h H gs e =
      by_equality v u
      (λ q. let g : some fs ≡ some gs = rw (eq-eqb v u q) at e in
      subst (λ (l : List ℕ). 8 * suc (suc k) ≤ get_or l c 0) (some-injective fs gs g) (h q))
      (λ d. H gs (rw (ne_eqb v u d) at e))

  look-after : (k j u t v c : ℕ) (s s' : BlockState) (fs : List ℕ) → c < 8 → k < j → Sees 𝒯 j u t s fs s' → MadeAfter k s v c → MadeAfter k s' v c
  look-after k j u t v c s s' fs h l (newly e) H = seeing-after k v u c (eight_made j) s (λ q. rw (made_at j c h) (omega arith)) H
  look-after k j u t v c s s' fs h l (again e) H = H

  stays_after : (k j v c : ℕ) (s s' : BlockState) (x : Plain) → c < 8 → k < j → (StoresTo s v c x → ⊥) → Reads 𝒯 j s x s' → MadeAfter k s v c
      → MadeAfter k s' v c
  stays_after k j v c s s' x h l N copies H = H
  stays_after k j v c s s' x h l N constants H = H
  stays_after k j v c s s' x h l N adds H = H
  stays_after k j v c s s' x h l N subtracts H = H
  stays_after k j v c s s' x h l N multiplies H = H
  stays_after k j v c s s' x h l N divides H = H
  stays_after k j v c s s' x h l N (moves_any M W) H = H
  stays_after k j v c s s' x h l N (moves_from W) H = H
  stays_after k j v c s s' x h l N (moves_run M W) H = H
  stays_after k j v c s s' x h l N (loads {b = b} {t = t} {fields = fs} {s' = s₁} A S) H = look-after k j (holds s b) t v c s s₁ fs h l S H
  stays_after k j v c s s' (store a b d) h l N (opens {t = t} {fields = fs} {s' = s₁} A S C) H =
      seeing-after k v (holds s b) c (set fs d (holds s a)) s₁ here (look-after k j (holds s b) t v c s s₁ fs h l S H)
    where
      here : v ≡ holds s b → 8 * suc (suc k) ≤ get_or (set fs d (holds s a)) c 0
      here e =
          by_equality c d (λ q. absurd (N (rw q (stores-to (sym e)))))
          (λ q. rw (get_or-set_other fs d c (holds s a) 0 q) (sees-after k j (holds s b) t c s s₁ fs h l S (rw e at H)))
  stays_after k j v c s s' x h l N (closes A S C) H = λ gs e. absurd (none-not-some e)

  load_after : (k j a b c : ℕ) (s s' : BlockState) → c < 8 → k < j → a < length s.registers → MadeAfter k s (holds s b) c
      → Reads 𝒯 j s (load a b c) s' → 8 * suc (suc k) ≤ holds s' a
  load_after k j a b c s s' h l r H (loads {t = t} {fields = fs} {s' = s₁} A S) =
      rw (get_or-set_same s₁.registers a (get_or fs c 0) 0 (rw (sees-registers j (holds s b) t s s₁ fs S) r))
      (sees-after k j (holds s b) t c s s₁ fs h l S H)

  seen-new : (j v t c : ℕ) (s s' : BlockState) (fs : List ℕ) → c < 8 → s.seen v ≡ none → Sees 𝒯 j v t s fs s' → get_or fs c 0 ≡ made j c
  seen-new j v t c s s' fs h n (newly e) = made_at j c h
  seen-new j v t c s s' fs h n (again e) = absurd (none-not-some (sym n ∙ e))

  load-made : (j a b c : ℕ) (s s' : BlockState) → c < 8 → a < length s.registers → s.seen (holds s b) ≡ none → Reads 𝒯 j s (load a b c) s'
      → holds s' a ≡ made j c
  load-made j a b c s s' h r n (loads {t = t} {fields = fs} {s' = s₁} A S) =
      get_or-set_same s₁.registers a (get_or fs c 0) 0 (rw (sees-registers j (holds s b) t s s₁ fs S) r)
      ∙ seen-new j (holds s b) t c s s₁ fs h n S

-- ---- the laws, of a block of a routine whose tables have no no

module _ (types tags : List ℕ) (C : Code) (tables : tables_ask types tags C ≡ ok tt) (n : ℕ) (exists : n < (routine_of C).count) where
  abbrev 𝒯' : Tables
  𝒯' = tables_of types tags

  abbrev P' : Routine
  P' = routine_of C

  -- the instruction x stands at offset j, not last, and its rule leads from s to s'
  pub record ReadAt (j : ℕ) (x : Plain) (s s' : BlockState) : Type 0 where
    pub is : instruction_at P' n j ≡ plain x
    pub inside : suc j < P'.long n
    pub reads : Reads 𝒯' j s x s'

  -- the instructions from offset i, before which s holds, up to offset j, before which s' holds; D holds of each of them
  pub data Between (D : ℕ → BlockState → Plain → Type 0) (i : ℕ) (s : BlockState) : ℕ → BlockState → Type 0 where
    none_yet : Between D i s i s
    and_then : {j : ℕ} {x : Plain} {s' s'' : BlockState} → Between D i s j s' → ReadAt j x s' s'' → D j s' x → Between D i s (suc j) s''

  short : P'.long n ≤ 32
  short = (sized C (passed-lengths types tags C tables)).most n exists

  reach-on : (j : ℕ) (x : Plain) (s s' : BlockState) → Reaches 𝒯' P' n j s → ReadAt j x s s' → Reaches 𝒯' P' n (suc j) s'
  reach-on j x s s' R D = reads_on R D.is D.inside D.reads

  reach-between : (D : ℕ → BlockState → Plain → Type 0) (i j : ℕ) (s s' : BlockState) → Reaches 𝒯' P' n i s → Between D i s j s' → Reaches 𝒯' P' n j s'
  reach-between D i j s s' R B = go j s' B
    where
      go : (j : ℕ) (s' : BlockState) → Between D i s j s' → Reaches 𝒯' P' n j s'
      go j s' none_yet = R
      go j s' (and_then {j = k} {x = x} {s' = s₁} B A N) = reach-on k x s₁ s' (go k s₁ B) A

  -- Q7 and the entry: a register that an instruction names is one of eight that are held
  reached-registers : (j : ℕ) (s : BlockState) → Reaches 𝒯' P' n j s → length s.registers ≡ 8
  reached-registers zero s enters = refl
  reached-registers (suc j) s (reads_on {x = x} {s = s₀} R h l D) = reads-registers 𝒯' j s₀ s x D ∙ reached-registers j s₀ R

  reached-eight : (j : ℕ) (s : BlockState) → Reaches 𝒯' P' n j s → EightSeen 𝒯' s
  reached-eight zero s enters = λ v fs e. absurd (none-not-some e)
  reached-eight (suc j) s (reads_on {x = x} {s = s₀} R h l D) = reads-eight 𝒯' j s₀ s x D (reached-eight j s₀ R)

  target : (j a b c : ℕ) (s s' : BlockState) → Reaches 𝒯' P' n j s → ReadAt j (load a b c) s s' → a < length s.registers
  target j a b c s s' R D =
      let fine : (a < 8) × (b < 8) = subst (λ (y : Instruction). Fine y) D.is (decode-fine (get_or (P'.part n) j 0)) in
      rw (reached-registers j s R) fine.0

  -- Q11: the offset of an access is that of one of eight fields
  size-eight : (t : ℕ) → 𝒯'.size t ≤ 8
  size-eight t = let (lengths, rows) = passed-types types tags C tables in sizes-eight types tags lengths rows t

  load-offset : (j a b c : ℕ) (s s' : BlockState) → Reads 𝒯' j s (load a b c) s' → c < 8
  load-offset j a b c s s' (loads {t = t} A S) = omega (arith, A.below, size-eight t)

  store-offset : (j a b c : ℕ) (s s' : BlockState) → Reads 𝒯' j s (store a b c) s' → c < 8
  store-offset j a b c s s' (opens {t = t} A S N) = omega (arith, A.below, size-eight t)
  store-offset j a b c s s' (closes {t = t} A S N) = omega (arith, A.below, size-eight t)

  between-keeps : (v c w i j : ℕ) (s s' : BlockState) → Between (Spares 𝒯' v c) i s j s' → Shows 𝒯' s v c w → Shows 𝒯' s' v c w
  between-keeps v c w i j s s' B H = go j s' B
    where
      go : (j : ℕ) (s' : BlockState) → Between (Spares 𝒯' v c) i s j s' → Shows 𝒯' s' v c w
      go j s' none_yet = H
      go j s' (and_then {j = k} {x = x} {s' = s₁} B A N) = keeps 𝒯' k v c w s₁ s' x N A.reads (go k s₁ B)

  -- 01: 'Two loads of one field through one value give the same value unless a store closed between them' (or stored to that very
  -- field through that value, while open: then the next law holds)
  pub two-loads : (i j a a' b b' c : ℕ) (s₀ s₁ s₂ s₃ : BlockState) → Reaches 𝒯' P' n i s₀ → ReadAt i (load a b c) s₀ s₁
      → Between (Spares 𝒯' (holds s₀ b) c) (suc i) s₁ j s₂ → holds s₂ b' ≡ holds s₀ b → ReadAt j (load a' b' c) s₂ s₃
      → holds s₃ a' ≡ holds s₁ a
  two-loads i j a a' b b' c s₀ s₁ s₂ s₃ F D B e E =
      let shown = load-shows 𝒯' i a b c s₀ s₁ (target i a b c s₀ s₁ F D) D.reads in
      let kept = between-keeps (holds s₀ b) c (holds s₁ a) (suc i) j s₁ s₂ B shown in
      let G = reach-between (Spares 𝒯' (holds s₀ b) c) (suc i) j s₁ s₂ (reach-on i (load a b c) s₀ s₁ F D) B in
      load_gives 𝒯' j a' b' c (holds s₁ a) s₂ s₃ (target j a' b' c s₂ s₃ G E) (rw e kept) E.reads

  -- 01: 'While open, a load through the same value gives the stored value'; that another field keeps the old one is two-loads
  pub stored-load : (i j a a' b b' c : ℕ) (s₀ s₁ s₂ s₃ : BlockState) → Reaches 𝒯' P' n i s₀ → ReadAt i (store a b c) s₀ s₁
      → (s₁.through ≡ none → ⊥) → Between (Spares 𝒯' (holds s₀ b) c) (suc i) s₁ j s₂ → holds s₂ b' ≡ holds s₀ b → ReadAt j (load a' b' c) s₂ s₃
      → holds s₃ a' ≡ holds s₀ a
  stored-load i j a a' b b' c s₀ s₁ s₂ s₃ F D o B e E =
      let shown = store-shows 𝒯' i a b c s₀ s₁ (reached-eight i s₀ F) (store-offset i a b c s₀ s₁ D.reads) o D.reads in
      let kept = between-keeps (holds s₀ b) c (holds s₀ a) (suc i) j s₁ s₂ B shown in
      let G = reach-between (Spares 𝒯' (holds s₀ b) c) (suc i) j s₁ s₂ (reach-on i (store a b c) s₀ s₁ F D) B in
      load_gives 𝒯' j a' b' c (holds s₀ a) s₂ s₃ (target j a' b' c s₂ s₃ G E) (rw e kept) E.reads

  -- where nothing is seen through its base, a load gives a value that no register held
  pub load-new : (j a b c : ℕ) (s s' : BlockState) → Reaches 𝒯' P' n j s → ReadAt j (load a b c) s s' → s.seen (holds s b) ≡ none
      → (r : ℕ) → holds s' a ≡ holds s r → ⊥
  load-new j a b c s s' F D u r e =
      let given = load-made 𝒯' j a b c s s' (load-offset j a b c s s' D.reads) (target j a b c s s' F D) u D.reads in
      new-values types tags C n j c s short (omega (arith, D.inside)) F r (sym e ∙ given)

  -- no instruction of them stores to field c through v
  abbrev pub NoStore : ℕ → ℕ → ℕ → BlockState → Plain → Type 0
  NoStore v c j s x = StoresTo 𝒯' s v c x → ⊥

  between-after : (k v c i j : ℕ) (s s' : BlockState) → c < 8 → k < i → Between (NoStore v c) i s j s' → MadeAfter 𝒯' k s v c
      → (i ≤ j) × MadeAfter 𝒯' k s' v c
  between-after k v c i j s s' h l B H = go j s' B
    where
      go : (j : ℕ) (s' : BlockState) → Between (NoStore v c) i s j s' → (i ≤ j) × MadeAfter 𝒯' k s' v c
      go j s' none_yet = (omega arith, H)
      go j s' (and_then {j = m} {x = x} {s' = s₁} B A N) =
          let (le, I) = go m s₁ B in
          (omega arith, stays_after 𝒯' k m v c s₁ s' x h (omega arith) N A.reads I)

  -- any instructions
  abbrev pub Whatever : ℕ → BlockState → Plain → Type 0
  Whatever j s x = Unit {0}

  between-on : (i j : ℕ) (s s' : BlockState) → Between Whatever i s j s' → i ≤ j
  between-on i j s s' B = go j s' B
    where
      go : (j : ℕ) (s' : BlockState) → Between Whatever i s j s' → i ≤ j
      go j s' none_yet = omega arith
      go j s' (and_then {j = k} {s' = s₁} B A N) = omega (arith, go k s₁ B)

  -- 01: 'unless a store closed between them': a load, then a store at k that closes, then a load of that field through that value. What
  -- they give differs, unless a store after the close put something in that very field (then stored-load says what the second gives)
  pub two-loads-differ : (i k j a a' b b' c x y z : ℕ) (s₀ s₁ s₂ s₃ s₄ s₅ : BlockState) → Reaches 𝒯' P' n i s₀ → ReadAt i (load a b c) s₀ s₁
      → Between Whatever (suc i) s₁ k s₂ → ReadAt k (store x y z) s₂ s₃ → s₃.through ≡ none
      → Between (NoStore (holds s₀ b) c) (suc k) s₃ j s₄ → holds s₄ b' ≡ holds s₀ b → ReadAt j (load a' b' c) s₄ s₅
      → holds s₅ a' ≡ holds s₁ a → ⊥
  two-loads-differ i k j a a' b b' c x y z s₀ s₁ s₂ s₃ s₄ s₅ F D B S o B' e E same =
      let F₁ = reach-on i (load a b c) s₀ s₁ F D in
      let F₃ = reach-on k (store x y z) s₂ s₃ (reach-between Whatever (suc i) k s₁ s₂ F₁ B) S in
      let F₄ = reach-between (NoStore (holds s₀ b) c) (suc k) j s₃ s₄ F₃ B' in
      let old : holds s₁ a < 8 * suc (suc i) = held-before types tags C n (suc i) s₁ short D.inside F₁ a in
      let later : suc i ≤ k = between-on (suc i) k s₁ s₂ B in
      let h : c < 8 = load-offset i a b c s₀ s₁ D.reads in
      let forgotten : MadeAfter 𝒯' k s₃ (holds s₀ b) c =
      λ fs q. absurd (none-not-some (sym (close-forgets 𝒯' k x y z s₂ s₃ S.reads o (holds s₀ b)) ∙ q)) in
      let (le, H) = between-after k (holds s₀ b) c (suc k) j s₃ s₄ h (omega arith) B' forgotten in
      let new = load_after 𝒯' k j a' b' c s₄ s₅ h (omega arith) (target j a' b' c s₄ s₅ F₄ E) (rw e H) E.reads in
      omega arith
