-- A run of an accepted routine, over any allocation relation with the two laws: nothing faults, every access is to the field that the
-- check says, and every block end leaves registers and memory in type.
use mathlib.Core.Path.{◌≡◌, sym, ◌∙◌}
use mathlib.Core.List.{List}
use Prim.Native.Nat.{ℕ, ◌^◌, ◌<◌}
use lib.ListN.{length}
use Rattle.model.specs.Question.{Question, ok}
use Rattle.model.specs.Table.{Tables, Routine}
use Rattle.model.specs.Meaning.{Allocation}
use Rattle.model.specs.Machine.{load, store, plain, instruction_at, State, goes, halts, faults, step, Passes, here, on}
use Rattle.model.specs.Check.{block_ask}
use Rattle.model.proofs.Lawful.{Lawful, Tabled}
use Rattle.model.proofs.TableLaws.{Sized, Annotated}
use Rattle.model.proofs.Invariant.{Kept}
use Rattle.model.proofs.EdgeSound.{Stands, MemoryFit}
use Rattle.model.proofs.BlockSound.{At, at_entry, Stepped, inner, leaves, stops, step-sound, Field, load_field, store-field}
use Rattle.model.proofs.MachineLaws.{goes_same, goes-halts, goes-faults, halts-faults, halt-stays}

module _ (𝒯 : Tables) (Is : Allocation) (memory₀ : List ℕ) (narrow : length memory₀ < 2 ^ 32) (law : Lawful 𝒯 Is (length memory₀))
    (tab : Tabled 𝒯 Is) (P : Routine) (A : Annotated P) (S : Sized P)
    (accepted : (b : ℕ) → b < P.count → block_ask 𝒯 P b ≡ ok tt) where
  abbrev AtState : State → Type 0
  AtState s = At 𝒯 Is memory₀ narrow law tab P A S s

  abbrev SteppedFrom : State → Type 0
  SteppedFrom s = Stepped 𝒯 Is memory₀ narrow law tab P A S s

  stepped : (s : State) → AtState s → SteppedFrom s
  stepped s a = step-sound 𝒯 Is memory₀ narrow law tab P A S accepted s a

  goes_on : (s s' : State) → AtState s → step P s ≡ goes s' → AtState s'
  goes_on s s' a e = go (stepped s a)
    where
      go : SteppedFrom s → AtState s'
      go (inner q b o f t) = rw (goes_same (sym e ∙ q)) t
      go (leaves q l z f B M) = let same = goes_same (sym e ∙ q) in rw same (at_entry 𝒯 Is memory₀ narrow law tab P A S _ z B M)
      go (stops q l M) = absurd (goes-halts (sym e ∙ q))

  pub passes_at : (last : ℕ) (s₀ s : State) → AtState s₀ → Passes P last s₀ s → AtState s
  passes_at last s₀ s a here = a
  passes_at last s₀ s a (on {s₁ = s₁} p l e) = goes_on s₁ s (passes_at last s₀ s₁ a p) e

  halt-fits : (s s' : State) → AtState s → step P s ≡ halts s' → MemoryFit 𝒯 Is memory₀ s'.memory
  halt-fits s s' a e = go (stepped s a)
    where
      go : SteppedFrom s → MemoryFit 𝒯 Is memory₀ s'.memory
      go (inner q b o f t) = absurd (goes-halts (sym q ∙ e))
      go (leaves q l z f B M) = absurd (goes-halts (sym q ∙ e))
      go (stops q l M) = rw (halt-stays P s s' e ∙ sym (halt-stays P s _ q)) M

  no-fault : (s s' : State) (q : Question) → AtState s → step P s ≡ faults q s' → ⊥
  no-fault s s' q a e = go (stepped s a)
    where
      go : SteppedFrom s → ⊥
      go (inner p b o f t) = goes-faults (sym p ∙ e)
      go (leaves p l z f B M) = goes-faults (sym p ∙ e)
      go (stops p l M) = halts-faults (sym p ∙ e)

  pub record RunSafe (last : ℕ) (s₀ : State) : Type 0 where
    pub faultless : (s s' : State) (q : Question) → Passes P last s₀ s → step P s ≡ faults q s' → ⊥
    pub loads : (s : State) → Passes P last s₀ s → (a b c : ℕ) → instruction_at P s.block s.offset ≡ plain (load a b c)
        → Field 𝒯 Is memory₀ narrow law tab P A S accepted s b c
    pub stores : (s : State) → Passes P last s₀ s → (a b c : ℕ) → instruction_at P s.block s.offset ≡ plain (store a b c)
        → Field 𝒯 Is memory₀ narrow law tab P A S accepted s b c
    pub kept : (s : State) → Passes P last s₀ s → Kept 𝒯 Is memory₀ s.memory
    pub block_ends : (s : State) → Passes P last s₀ s → s.offset ≡ 0 → Stands 𝒯 Is P s.block s.registers × MemoryFit 𝒯 Is memory₀ s.memory
    pub at_halt : (s s' : State) → Passes P last s₀ s → step P s ≡ halts s' → MemoryFit 𝒯 Is memory₀ s'.memory

  pub run-safe : (last : ℕ) (s₀ : State) → s₀.offset ≡ 0 → Stands 𝒯 Is P s₀.block s₀.registers → MemoryFit 𝒯 Is memory₀ s₀.memory → RunSafe last s₀
  run-safe last s₀ z B M =
      let at : (s : State) → Passes P last s₀ s → AtState s = λ s p. passes_at last s₀ s (at_entry 𝒯 Is memory₀ narrow law tab P A S s₀ z B M) p in
      record {
        faultless = λ s s' q p e. no-fault s s' q (at s p) e;
        loads = λ s p a b c e. load_field 𝒯 Is memory₀ narrow law tab P A S accepted s (at s p) a b c e;
        stores = λ s p a b c e. store-field 𝒯 Is memory₀ narrow law tab P A S accepted s (at s p) a b c e;
        kept = λ s p. (at s p).mirrors.kept;
        block_ends = λ s p e. (at s p).begins e;
        at_halt = λ s s' p e. halt-fits s s' (at s p) e;
      }
