-- What demands 1 and 2 assume of an answer, and card 6 of a run, can be met: each way in which a run ends, and a first no of each check,
-- by an example.
use mathlib.Core.Path.{◌≡◌, refl}
use mathlib.Core.List.{List, [], ◌∷◌, ◌++◌}
use Prim.Native.Nat.{ℕ, ◌<◌}
use Rattle.model.specs.Question.{q19, q20, q21, refusal}
use Rattle.model.specs.Table.{Code, code_of, routine_of}
use Rattle.model.specs.Machine.{index_of, Run, Ready, ready, run}
use Rattle.model.specs.Faults.{NeverBegins, Halts, Faults}
use Rattle.model.specs.Exactness.{Finishes, MemoryNo, EntryNo}
use Rattle.model.specs.Cases.{plot_types, plot_tags, row, ref_word, store_word, load_word, jump_word, halt_word}
use Rattle.model.proofs.Compute.{computed}
use Rattle.model.proofs.Example.{allocations, memory}
use Rattle.model.proofs.RunEnds.{run-keeps, run-exact}
use Rattle.model.proofs.CodeIndex.{index-inside}
use Rattle.model.proofs.Exact.{memory-names, entry-names}

-- ---- runs: block 0 goes to block 1, which stores r5 at r1, loads from r6 and halts

abbrev blocks : List ℕ
blocks = row 1 0 (ref_word 2) 0 0 0 0 0 0 ++ row 3 0 (ref_word 2) 0 0 0 0 0 0

abbrev code : Code
code = code_of blocks (jump_word 1 ∷ store_word 5 1 0 ∷ load_word 2 6 0 ∷ halt_word ∷ [])

-- r6 has the address that is loaded from; memory has ten words
abbrev with-address : ℕ → List ℕ
with-address x = 0 ∷ 1 ∷ 2 ∷ 3 ∷ 4 ∷ 5 ∷ x ∷ 7 ∷ []

abbrev start : ℕ → Ready
start x = ready 0 (with-address x)

abbrev answer : ℕ → ℕ → ℕ → ℕ → List ℕ → List ℕ → ℕ → Run
answer number block index finished registers left carried =
    record { number = number; block = block; index = index; finished = finished; registers = registers; memory = left; carried = carried }

abbrev stored : List ℕ
stored = 0 ∷ 5 ∷ 5 ∷ 1 ∷ 7 ∷ 8600 ∷ 22 ∷ 9100 ∷ 7800 ∷ 4 ∷ []

-- address 10 is past memory: 18 at the load, with what the store before it wrote, and no more
pub load-outside : run code memory (start 10) 5 ≡ answer 18 1 2 1 (with-address 10) stored 2
unfolding computed
load-outside = refl

pub fault-met : Faults code memory (start 10) 5 (run code memory (start 10) 5)
unfolding computed
fault-met = (run-keeps code memory (start 10) 5).faulted.0 refl

-- address 9 is the last word of memory
pub load_inside : run code memory (start 9) 5 ≡ answer 0 1 3 2 (0 ∷ 1 ∷ 4 ∷ 3 ∷ 4 ∷ 5 ∷ 9 ∷ 7 ∷ []) stored 4
unfolding computed
load_inside = refl

pub halt-met : Halts code memory (start 9) 5 (run code memory (start 9) 5)
unfolding computed
halt-met = (run-exact code memory (start 9) 5).halted.0 refl

pub paused-once : run code memory (start 10) 1 ≡ answer 40 1 1 1 (with-address 10) memory 1
unfolding computed
paused-once = refl

pub pause-met : Finishes code memory (start 10) 1
unfolding computed
pause-met = (run-exact code memory (start 10) 1).paused.0 refl

pub paused-at-once : run code memory (start 10) 0 ≡ answer 40 0 0 0 (with-address 10) memory 0
unfolding computed
paused-at-once = refl

-- there is no block 2
pub no_block : run code memory (ready 2 (with-address 10)) 5 ≡ answer 16 0 0 0 (with-address 10) memory 0
unfolding computed
no_block = refl

pub refusal-met : NeverBegins code memory (ready 2 (with-address 10)) 5 (run code memory (ready 2 (with-address 10)) 5)
unfolding computed
refusal-met = (run-keeps code memory (ready 2 (with-address 10)) 5).opening.0 refl

-- ---- past Q5 and Q16 the code index is inside the code, at the fault and in the answer of the halt

pub index-met : index_of (routine_of code) fault-met.state < 4
unfolding computed
index-met = index-inside.below code memory (start 10) 5 refl refl fault-met.state fault-met.through

pub answer-met : (run code memory (start 9) 5).index < 4
unfolding computed
answer-met = index-inside.answered code memory (start 9) 5 refl

-- ---- checks

-- plot 3, in row 1, has stage 1, so its second field has to lead to a corrected weight; 5 is a raw one
abbrev wrong-weight : List ℕ
wrong-weight = 0 ∷ 0 ∷ 5 ∷ 1 ∷ 5 ∷ 8600 ∷ 22 ∷ 9100 ∷ 7800 ∷ 4 ∷ []

pub field-met : MemoryNo plot_types plot_tags allocations wrong-weight (refusal q20 1 1)
unfolding computed
field-met = (memory-names plot_types plot_tags allocations wrong-weight (refusal q20 1 1)).0 refl

-- the second record starts inside the first
pub row-met : MemoryNo plot_types plot_tags (1 ∷ 2 ∷ 2 ∷ 1 ∷ []) memory (refusal q19 1 0)
unfolding computed
row-met = (memory-names plot_types plot_tags (1 ∷ 2 ∷ 2 ∷ 1 ∷ []) memory (refusal q19 1 0)).0 refl

-- r1 is to be a plot, and 5 is a weight
pub register-met : EntryNo plot_types plot_tags allocations memory code (ready 1 (0 ∷ 5 ∷ 0 ∷ 0 ∷ 0 ∷ 0 ∷ 0 ∷ 0 ∷ [])) (refusal q21 1 0)
unfolding computed
register-met = (entry-names plot_types plot_tags allocations memory code (ready 1 (0 ∷ 5 ∷ 0 ∷ 0 ∷ 0 ∷ 0 ∷ 0 ∷ 0 ∷ [])) (refusal q21 1 0)).0 refl
