-- The relations of specs/Delivery.antt are the contracts of src/lib.rt: each call asks nothing of its caller, and its caller learns just the
-- relation, with what the call left of the memory that it was lent. Tables come back as they were lent.
use mathlib.Core.Path.{◌≡◌, refl}
use mathlib.Core.Logic.{◌↔◌}
use mathlib.Core.List.{List}
use Prim.Native.Nat.{ℕ}
use contract.Lifetimes.{Lfts}
use denote.Ref.{Bor, MutBor}
use denote.Triple.Clauses.{Lasts, at_exit}
use denote.Triple.Entry.{Args}
use Rattle.model.specs.declared.Verdict.{Verdict}
use Rattle.model.specs.declared.CheckAnswer.{CheckAnswer}
use Rattle.model.specs.declared.OfferedAnswer.{OfferedAnswer}
use Rattle.model.specs.declared.RunAnswer.{RunAnswer}
use Rattle.model.specs.Table.{code_of}
use Rattle.model.specs.Machine.{ready}
use Rattle.loader.specs.Delivery.{CheckGave, OfferedCheckGave, FillGave, MemoryCheckGave, EntryCheckGave, RunGave}
use Rattle.loader.specs.contracts.check
use Rattle.loader.proofs.check.Reads as check-read
use Rattle.loader.specs.contracts.check_offered
use Rattle.loader.proofs.check_offered.Reads as check-offered-read
use Rattle.loader.specs.contracts.fill
use Rattle.loader.proofs.fill.Reads as fill-read
use Rattle.loader.specs.contracts.memory_check
use Rattle.loader.proofs.memory_check.Reads as memory-check-read
use Rattle.loader.specs.contracts.entry_check
use Rattle.loader.proofs.entry_check.Reads as entry-check-read
use Rattle.loader.specs.contracts.run
use Rattle.loader.proofs.run.Reads as run-read

-- words that a call is lent, to read and to write
abbrev Lent : Type 0
Lent = Bor (List ℕ)

abbrev LentMut : Type 0
LentMut = MutBor (List ℕ)

module _ (κs : Lfts 4) (types tags blocks code : Lent) where
  abbrev to-check : Args check.signature κs
  to-check = (types, (tags, (blocks, (code, tt))))

  pub check-asks : check-read.Asked κs to-check ≡ Unit {0}
  check-asks = refl

  pub check-gives : (v : CheckAnswer) (last : Lasts check.ended κs to-check)
      → check-read.Learnt κs to-check v (at_exit check.ended κs to-check last) ↔ CheckGave types.now tags.now (code_of blocks.now code.now) v
  check-gives v last = (λ l. l, λ g. g)

  pub check-lent : (last : Lasts check.ended κs to-check) → at_exit check.ended κs to-check last ≡ to-check
  check-lent last = refl

module _ (κs : Lfts 5) (types tags blocks code offered : Lent) where
  abbrev to-check-offered : Args check_offered.signature κs
  to-check-offered = (types, (tags, (blocks, (code, (offered, tt)))))

  pub check-offered-asks : check-offered-read.Asked κs to-check-offered ≡ Unit {0}
  check-offered-asks = refl

  pub check-offered-gives : (a : OfferedAnswer) (last : Lasts check_offered.ended κs to-check-offered)
      → check-offered-read.Learnt κs to-check-offered a (at_exit check_offered.ended κs to-check-offered last)
      ↔ OfferedCheckGave types.now tags.now (code_of blocks.now code.now) offered.now a
  check-offered-gives a last = (λ l. l, λ g. g)

  pub check-offered-lent : (last : Lasts check_offered.ended κs to-check-offered) → at_exit check_offered.ended κs to-check-offered last ≡ to-check-offered
  check-offered-lent last = refl

module _ (κs : Lfts 5) (types tags : Lent) (blocks : LentMut) (code offered : Lent) where
  abbrev to_fill : Args fill.signature κs
  to_fill = (types, (tags, (blocks, (code, (offered, tt)))))

  pub fill-asks : fill-read.Asked κs to_fill ≡ Unit {0}
  fill-asks = refl

  pub fill_gives : (a : OfferedAnswer) (last : Lasts fill.ended κs to_fill)
      → fill-read.Learnt κs to_fill a (at_exit fill.ended κs to_fill last)
      ↔ FillGave types.now tags.now (code_of blocks.now code.now) offered.now a (at_exit fill.ended κs to_fill last).1.1.0.now
  fill_gives a last = (λ l. l, λ g. g)

  -- of its tables it writes the block table alone
  pub fill-lent : (last : Lasts fill.ended κs to_fill) → let left = at_exit fill.ended κs to_fill last in
      (left.0 ≡ types) × (left.1.0 ≡ tags) × (left.1.1.1.0 ≡ code) × (left.1.1.1.1.0 ≡ offered)
  fill-lent last = (refl, refl, refl, refl)

module _ (κs : Lfts 4) (types tags allocations memory : Lent) where
  abbrev to-memory-check : Args memory_check.signature κs
  to-memory-check = (types, (tags, (allocations, (memory, tt))))

  pub memory-check-asks : memory-check-read.Asked κs to-memory-check ≡ Unit {0}
  memory-check-asks = refl

  pub memory-check-gives : (v : Verdict) (last : Lasts memory_check.ended κs to-memory-check)
      → memory-check-read.Learnt κs to-memory-check v (at_exit memory_check.ended κs to-memory-check last)
      ↔ MemoryCheckGave types.now tags.now allocations.now memory.now v (at_exit memory_check.ended κs to-memory-check last).1.1.1.0.now
  memory-check-gives v last = (λ l. (l, refl), λ g. g.0)

  pub memory-check-lent : (last : Lasts memory_check.ended κs to-memory-check) → at_exit memory_check.ended κs to-memory-check last ≡ to-memory-check
  memory-check-lent last = refl

module _ (κs : Lfts 6) (types tags allocations memory blocks code : Lent) (b : ℕ) (r : List ℕ) where
  abbrev to-entry-check : Args entry_check.signature κs
  to-entry-check = (types, (tags, (allocations, (memory, (blocks, (code, (b, (r, tt))))))))

  pub entry-check-asks : entry-check-read.Asked κs to-entry-check ≡ Unit {0}
  entry-check-asks = refl

  pub entry-check-gives : (v : Verdict) (last : Lasts entry_check.ended κs to-entry-check)
      → entry-check-read.Learnt κs to-entry-check v (at_exit entry_check.ended κs to-entry-check last)
      ↔ EntryCheckGave types.now tags.now allocations.now memory.now (code_of blocks.now code.now) (ready b r) v
      (at_exit entry_check.ended κs to-entry-check last).1.1.1.0.now
  entry-check-gives v last = (λ l. (l, refl), λ g. g.0)

  pub entry-check-lent : (last : Lasts entry_check.ended κs to-entry-check) → at_exit entry_check.ended κs to-entry-check last ≡ to-entry-check
  entry-check-lent last = refl

module _ (κs : Lfts 3) (blocks code : Lent) (memory : LentMut) (b : ℕ) (r : List ℕ) (budget : ℕ) where
  abbrev to-run : Args run.signature κs
  to-run = (blocks, (code, (memory, (b, (r, (budget, tt))))))

  pub run-asks : run-read.Asked κs to-run ≡ Unit {0}
  run-asks = refl

  pub run-gives : (a : RunAnswer) (last : Lasts run.ended κs to-run)
      → run-read.Learnt κs to-run a (at_exit run.ended κs to-run last)
      ↔ RunGave (code_of blocks.now code.now) memory.now (ready b r) budget a (at_exit run.ended κs to-run last).1.1.0.now
  run-gives a last = (λ l. l, λ g. g)

  pub run_lent : (last : Lasts run.ended κs to-run) → ((at_exit run.ended κs to-run last).0 ≡ blocks) × ((at_exit run.ended κs to-run last).1.0 ≡ code)
  run_lent last = (refl, refl)
