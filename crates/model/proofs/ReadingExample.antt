-- Blocks read by the rules alone. First a case marked *: r1 Ref 2, load r2 from r1+1, load r3 from r2+0, halt. The second load has a no to Q10: the
-- value that the first gave is Tagged, and fits no Ref. So the check answers 10 at (0, 1).
use mathlib.Core.Path.{◌≡◌, refl}
use mathlib.Core.Logic.{inl}
use mathlib.Core.List.{[], ◌∷◌}
use Prim.Native.Nat.{ℕ, zero, suc, ◌<◌}
use native.Mathlib.Omega.{arith}
use lib.ListN.{set}
use Rattle.model.specs.Question.{ok, q10, refusal, refusing}
use Rattle.model.specs.Types.{Dep, name, ref, tagged}
use Rattle.model.specs.Table.{Tables, tables_of, Code, code_of, Routine, routine_of, tables_ask}
use Rattle.model.specs.Machine.{Plain, load, store, to_load, to_store}
use Rattle.model.specs.Rules.{Known, Fits, any_fits, ref_ref, ref_in, ref_present}
use Rattle.model.specs.ReadingRules.{made, BlockState, holds, holding, on_entry, MayAccess, loading, newly, Reads, loads, in_block, enters}
use Rattle.model.specs.ReadingRules.{reads_on, ObeysAt, no_reference, load_no, no_access, DisobeysAt, eight_made, closing, Closes, closes, again}
use Rattle.model.specs.ReadingRules.{FirstDisobeys, loads_any, stores_unlocked}
use Rattle.model.specs.Check.{check}
use Rattle.model.specs.Exactness.{Accepts, table_rows, instruction_no}
use Rattle.model.specs.Cases.{ref_word, any_word, load_word, store_word, halt_word, row, plot_types, plot_tags, store_block}
use Rattle.model.proofs.Compute.{computed}
use Rattle.model.proofs.Logic.{all-passed}
use Rattle.model.proofs.Exact.{check-accepts, check-names}
use Rattle.model.proofs.ReadingLaws.{ReadAt, none_yet, two-loads-differ}

abbrev 𝒯 : Tables
𝒯 = tables_of plot_types plot_tags

abbrev untested : Code
untested = code_of (row 3 0 (ref_word 2) 0 0 0 0 0 0) (load_word 2 1 1 ∷ load_word 3 2 0 ∷ halt_word ∷ [])

abbrev P : Routine
P = routine_of untested

-- what holds at entry, and after the first load: the fields of the record behind r1 are the values 8 and 9, of which r2 holds the second
abbrev at_first : BlockState
at_first = on_entry (P.annotation 0)

abbrev after_load : BlockState
after_load = holding (loading 𝒯 0 1 2 at_first) 2 (made 0 1)

first-access : MayAccess 𝒯 to_load at_first 1 1 2
unfolding computed
first-access = record { reference = ref_ref refl; below = omega arith; permitted = loads_any; touch = inl refl }

first_load : Reads 𝒯 0 at_first (load 2 1 1) after_load
first_load = loads first-access (newly refl)

-- the value of field 1 is Tagged field 0, the sibling of the same moment
pub sibling : after_load.known.type (holds after_load 2) ≡ tagged (name (made 0 0))
unfolding computed
sibling = refl

tagged-no-ref : (K : Known) (v t : ℕ) (d : Dep) → K.type v ≡ tagged d → Fits 𝒯 K v (ref t) → ⊥
tagged-no-ref K v t d e (ref_ref f) = let z : ◌≡◌ {A = ℕ} 0 1 = cc in omega arith
tagged-no-ref K v t d e (ref_in f) = let z : ◌≡◌ {A = ℕ} 0 1 = cc in omega arith
tagged-no-ref K v t d e (ref_present f L) = let z : ◌≡◌ {A = ℕ} 0 1 = cc in omega arith

first-obeys : ObeysAt 𝒯 P 0 0
unfolding computed
first-obeys = record { before = at_first; reached = enters; obeys = in_block (λ e. omega arith) first_load }

second-disobeys : DisobeysAt 𝒯 P 0 1 q10
unfolding computed
second-disobeys =
    record {
      before = after_load;
      reached = reads_on enters refl (omega arith) first_load;
      disobeys = no_access (λ e. omega arith) (load_no (no_reference (λ t F. tagged-no-ref after_load.known (made 0 1) t (name (made 0 0)) sibling F)));
    }

pub untested-refused : FirstDisobeys 𝒯 P (refusal q10 0 1)
unfolding computed
untested-refused =
    record {
      block = 0;
      exists = omega arith;
      offset = 1;
      within = omega arith;
      question = q10;
      is = refl;
      here = second-disobeys;
      before = only;
      earlier = λ b j h l. absurd (omega arith);
    }
  where
    only : (j : ℕ) → j < 1 → ObeysAt 𝒯 P 0 j
    only zero h = first-obeys
    only (suc j) h = absurd (omega arith)

-- what the rules say, the check answers
pub untested-answer : check plot_types plot_tags untested ≡ refusing (refusal q10 0 1)
unfolding computed
untested-answer =
    (check-names plot_types plot_tags untested (refusal q10 0 1)).1
    (instruction_no (all-passed (table_rows plot_types plot_tags untested) refl) untested-refused)

-- and a case that is accepted obeys them: both stores, after which the record closes
pub both-stores-obey : Accepts plot_types plot_tags (code_of (store_block 3 any_word) (store_word 5 1 0 ∷ store_word 4 1 1 ∷ halt_word ∷ []))
unfolding computed
both-stores-obey = (check-accepts plot_types plot_tags (code_of (store_block 3 any_word) (store_word 5 1 0 ∷ store_word 4 1 1 ∷ halt_word ∷ []))).0 refl

-- ---- two loads of one field with a close between: the law's assumptions are met, and the values are 8 and 24

-- r1 Ref 0: load r2 from r1+0, store r3 at r1+1, load r4 from r1+0, halt
abbrev around : Code
around = code_of (row 4 0 (ref_word 0) 0 0 0 0 0 0) (load_word 2 1 0 ∷ store_word 3 1 1 ∷ load_word 4 1 0 ∷ halt_word ∷ [])

abbrev Q : Routine
Q = routine_of around

abbrev before : BlockState
before = on_entry (Q.annotation 0)

abbrev loaded_once : BlockState
loaded_once = holding (loading 𝒯 0 1 0 before) 2 (made 0 0)

abbrev closed_again : BlockState
closed_again = closing loaded_once

abbrev loaded_twice : BlockState
loaded_twice = holding (loading 𝒯 2 1 0 closed_again) 4 (made 2 0)

-- r1 starts a record of two fields at each of the three, and none is open
may_load : MayAccess 𝒯 to_load before 1 0 0
unfolding computed
may_load = record { reference = ref_ref refl; below = omega arith; permitted = loads_any; touch = inl refl }

may-store : MayAccess 𝒯 to_store loaded_once 1 1 0
unfolding computed
may-store = record { reference = ref_ref refl; below = omega arith; permitted = stores_unlocked refl; touch = inl refl }

may-load-again : MayAccess 𝒯 to_load closed_again 1 0 0
unfolding computed
may-load-again = record { reference = ref_ref refl; below = omega arith; permitted = loads_any; touch = inl refl }

loads_once : Reads 𝒯 0 before (load 2 1 0) loaded_once
loads_once = loads may_load (newly refl)

-- both fields are Any, so that the record closes with r3 stored
any-row : Closes 𝒯 loaded_once.known 0 (set (eight_made 0) 1 3)
unfolding computed
any-row zero h = any_fits
any-row (suc zero) h = any_fits
any-row (suc (suc i)) h = absurd (omega arith)

stores : Reads 𝒯 1 loaded_once (store 3 1 1) closed_again
stores = closes may-store (again refl) any-row

loads-twice : Reads 𝒯 2 closed_again (load 4 1 0) loaded_twice
loads-twice = loads may-load-again (newly refl)

tables : tables_ask plot_types plot_tags around ≡ ok tt
unfolding computed
tables = refl

exists : 0 < Q.count
unfolding computed
exists = omega arith

abbrev Line : ℕ → Plain → BlockState → BlockState → Type 0
Line j x s s' = ReadAt plot_types plot_tags around tables 0 exists j x s s'

at-0 : Line 0 (load 2 1 0) before loaded_once
unfolding computed
at-0 = record { is = refl; inside = omega arith; reads = loads_once }

at_1 : Line 1 (store 3 1 1) loaded_once closed_again
unfolding computed
at_1 = record { is = refl; inside = omega arith; reads = stores }

at-2 : Line 2 (load 4 1 0) closed_again loaded_twice
unfolding computed
at-2 = record { is = refl; inside = omega arith; reads = loads-twice }

pub differ : holds loaded_twice 4 ≡ holds loaded_once 2 → ⊥
differ e =
    two-loads-differ plot_types plot_tags around tables 0 exists 0 1 2 2 4 1 1 0 3 1 1 before loaded_once loaded_once closed_again closed_again loaded_twice
    enters at-0 none_yet at_1 refl none_yet refl at-2 e
