-- The relations of specs/Turns.antt are the contracts of src/lib.rt: each call asks nothing of its caller, and its caller learns just the
-- relation of the number and the words that it is left. Tables come back as they were lent.
use mathlib.Core.Path.{◌≡◌, refl}
use mathlib.Core.Logic.{◌↔◌}
use mathlib.Core.List.{List}
use Prim.Native.Nat.{ℕ}
use contract.Lifetimes.{Lfts}
use denote.Ref.{Bor, MutBor}
use denote.Triple.Clauses.{Lasts, at_exit}
use denote.Triple.Entry.{Args}
use Rattle.model.specs.Table.{code_of}
use Rattle.model.specs.Machine.{ready}
use Rattle.embed.specs.Turns.{CheckSaid, OfferedCheckSaid, FillSaid, MemoryCheckSaid, EntryCheckSaid, RunSaid}
use Rattle.embed.specs.contracts.ramdulsi_check
use Rattle.embed.proofs.ramdulsi_check.Reads as check-read
use Rattle.embed.specs.contracts.ramdulsi_check_offered
use Rattle.embed.proofs.ramdulsi_check_offered.Reads as check-offered-read
use Rattle.embed.specs.contracts.ramdulsi_fill
use Rattle.embed.proofs.ramdulsi_fill.Reads as fill-read
use Rattle.embed.specs.contracts.ramdulsi_memory_check
use Rattle.embed.proofs.ramdulsi_memory_check.Reads as memory-check-read
use Rattle.embed.specs.contracts.ramdulsi_entry_check
use Rattle.embed.proofs.ramdulsi_entry_check.Reads as entry-check-read
use Rattle.embed.specs.contracts.ramdulsi_run
use Rattle.embed.proofs.ramdulsi_run.Reads as run-read

-- words that a call is lent, to read and to write
abbrev Lent : Type 0
Lent = Bor (List ℕ)

abbrev LentMut : Type 0
LentMut = MutBor (List ℕ)

module _ (κs : Lfts 5) (types tags blocks code : Lent) (verdict : LentMut) where
  abbrev to-check : Args ramdulsi_check.signature κs
  to-check = (types, (tags, (blocks, (code, (verdict, tt)))))

  pub check-asks : check-read.Asked κs to-check ≡ Unit {0}
  check-asks = refl

  pub check-gives : (r : ℕ) (last : Lasts ramdulsi_check.ended κs to-check)
      → check-read.Learnt κs to-check r (at_exit ramdulsi_check.ended κs to-check last)
      ↔ CheckSaid types.now tags.now (code_of blocks.now code.now) r (at_exit ramdulsi_check.ended κs to-check last).1.1.1.1.0.now
  check-gives r last = (λ l. l, λ g. g)

module _ (κs : Lfts 7) (types tags blocks code offered : Lent) (verdict choice : LentMut) where
  abbrev to-check-offered : Args ramdulsi_check_offered.signature κs
  to-check-offered = (types, (tags, (blocks, (code, (offered, (verdict, (choice, tt)))))))

  pub check-offered-asks : check-offered-read.Asked κs to-check-offered ≡ Unit {0}
  check-offered-asks = refl

  pub check-offered-gives : (r : ℕ) (last : Lasts ramdulsi_check_offered.ended κs to-check-offered)
      → check-offered-read.Learnt κs to-check-offered r (at_exit ramdulsi_check_offered.ended κs to-check-offered last)
      ↔ OfferedCheckSaid types.now tags.now (code_of blocks.now code.now) offered.now r
      (at_exit ramdulsi_check_offered.ended κs to-check-offered last).1.1.1.1.1.0.now
      (at_exit ramdulsi_check_offered.ended κs to-check-offered last).1.1.1.1.1.1.0.now
  check-offered-gives r last = (λ l. l, λ g. g)

module _ (κs : Lfts 7) (types tags : Lent) (blocks : LentMut) (code offered : Lent) (verdict choice : LentMut) where
  abbrev to_fill : Args ramdulsi_fill.signature κs
  to_fill = (types, (tags, (blocks, (code, (offered, (verdict, (choice, tt)))))))

  pub fill-asks : fill-read.Asked κs to_fill ≡ Unit {0}
  fill-asks = refl

  pub fill_gives : (r : ℕ) (last : Lasts ramdulsi_fill.ended κs to_fill)
      → fill-read.Learnt κs to_fill r (at_exit ramdulsi_fill.ended κs to_fill last)
      ↔ FillSaid types.now tags.now (code_of blocks.now code.now) offered.now r
      (at_exit ramdulsi_fill.ended κs to_fill last).1.1.1.1.1.0.now
      (at_exit ramdulsi_fill.ended κs to_fill last).1.1.1.1.1.1.0.now (at_exit ramdulsi_fill.ended κs to_fill last).1.1.0.now
  fill_gives r last = (λ l. l, λ g. g)

module _ (κs : Lfts 5) (types tags allocations memory : Lent) (place : LentMut) where
  abbrev to-memory-check : Args ramdulsi_memory_check.signature κs
  to-memory-check = (types, (tags, (allocations, (memory, (place, tt)))))

  pub memory-check-asks : memory-check-read.Asked κs to-memory-check ≡ Unit {0}
  memory-check-asks = refl

  pub memory-check-gives : (r : ℕ) (last : Lasts ramdulsi_memory_check.ended κs to-memory-check)
      → memory-check-read.Learnt κs to-memory-check r (at_exit ramdulsi_memory_check.ended κs to-memory-check last)
      ↔ MemoryCheckSaid types.now tags.now allocations.now memory.now r
      (at_exit ramdulsi_memory_check.ended κs to-memory-check last).1.1.1.1.0.now
      (at_exit ramdulsi_memory_check.ended κs to-memory-check last).1.1.1.0.now
  memory-check-gives r last = (λ l. (l, refl), λ g. g.0)

module _ (κs : Lfts 8) (types tags allocations memory blocks code : Lent) (b : ℕ) (registers : Lent) (place : LentMut) where
  abbrev to-entry-check : Args ramdulsi_entry_check.signature κs
  to-entry-check = (types, (tags, (allocations, (memory, (blocks, (code, (b, (registers, (place, tt)))))))))

  pub entry-check-asks : entry-check-read.Asked κs to-entry-check ≡ Unit {0}
  entry-check-asks = refl

  pub entry-check-gives : (r : ℕ) (last : Lasts ramdulsi_entry_check.ended κs to-entry-check)
      → entry-check-read.Learnt κs to-entry-check r (at_exit ramdulsi_entry_check.ended κs to-entry-check last)
      ↔ EntryCheckSaid types.now tags.now allocations.now memory.now (code_of blocks.now code.now) (ready b registers.now) r
      (at_exit ramdulsi_entry_check.ended κs to-entry-check last).1.1.1.1.1.1.1.1.0.now
      (at_exit ramdulsi_entry_check.ended κs to-entry-check last).1.1.1.0.now
  entry-check-gives r last = (λ l. (l, refl), λ g. g.0)

module _ (κs : Lfts 5) (blocks code : Lent) (memory : LentMut) (b : ℕ) (registers : LentMut) (budget : ℕ) (answer : LentMut) where
  abbrev to-run : Args ramdulsi_run.signature κs
  to-run = (blocks, (code, (memory, (b, (registers, (budget, (answer, tt)))))))

  pub run-asks : run-read.Asked κs to-run ≡ Unit {0}
  run-asks = refl

  pub run-gives : (r : ℕ) (last : Lasts ramdulsi_run.ended κs to-run)
      → run-read.Learnt κs to-run r (at_exit ramdulsi_run.ended κs to-run last)
      ↔ RunSaid (code_of blocks.now code.now) memory.now (ready b registers.now) budget r
      (at_exit ramdulsi_run.ended κs to-run last).1.1.0.now (at_exit ramdulsi_run.ended κs to-run last).1.1.1.1.0.now
      (at_exit ramdulsi_run.ended κs to-run last).1.1.1.1.1.1.0.now
  run-gives r last = (λ l. l, λ g. g)

  pub run_lent : (last : Lasts ramdulsi_run.ended κs to-run)
      → ((at_exit ramdulsi_run.ended κs to-run last).0 ≡ blocks) × ((at_exit ramdulsi_run.ended κs to-run last).1.0 ≡ code)
  run_lent last = (refl, refl)
