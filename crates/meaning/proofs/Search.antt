-- Laws of the search for the first word that does not meet its meaning, and what it answers to Q20 and Q21.
use mathlib.Core.Path.{◌≡◌, refl, sym, ap, ◌∙◌, fun_ext}
use mathlib.Core.Bool.{Bool, true, false}
use mathlib.Core.List.{List}
use Prim.Native.Nat.{ℕ, zero, suc, ◌+◌, ◌-◌, ◌≤◌, ◌<◌}
use native.Mathlib.Nat.{sub-zero, sub-eq-zero_of_le}
use native.Mathlib.Numerals.{add-one}
use native.Mathlib.Omega.{arith}
use lib.ListN.{get_or, drop}
use lib.Seq.{get_or-drop}
use Rattle.model.specs.Question.{refusal, Outcome, ok, refused, asked, then, first_no, provided}
use Rattle.model.specs.declared.questions.Question.TheVariants.{Field as q20, Register as q21}
use Rattle.model.specs.declared.questions.Refusal.{Refusal}
use Rattle.model.specs.Types.{type_of}
use Rattle.model.specs.Table.{Tables}
use Rattle.model.specs.MemoryCheck.{meets, field_ask, register_ask}
use Rattle.model.proofs.Logic.{by_test}
use Rattle.table.proofs.Questions.{left}
use Rattle.std.proofs.Common.{Option, Some, None}
use Rattle.std.proofs.lemmas.Option.{none-some}
use Rattle.meaning.specs.Search.{first_false, place_meets}

-- ---- the search as a loop runs it

-- the places from i on, of the n that are searched, come to what all come to
pub record PlacesLeft (f : ℕ → Bool) (n i : ℕ) : Type 0 where
  pub rest : first_false n 0 f ≡ first_false (n - i) i f
  pub within : i ≤ n

pub search-begins : (f : ℕ → Bool) (n : ℕ) → PlacesLeft f n 0
search-begins f n = record { rest = rw sub-zero; within = omega arith }

module _ {f : ℕ → Bool} {n i : ℕ} (L : PlacesLeft f n i) where
  pub search-on : i < n → f i ≡ true → PlacesLeft f n (i + 1)
  unfolding first_false
  search-on h y = record { rest = L.rest ∙ rw (left n i h, y, add-one i); within = omega arith }

  pub search-stops : i < n → f i ≡ false → Some i ≡ first_false n 0 f
  unfolding first_false
  search-stops h y = rw (L.rest, left n i h, y)

  pub search-ends : n ≤ i → None ≡ first_false n 0 f
  unfolding first_false
  search-ends h = sym (L.rest ∙ rw (sub-eq-zero_of_le h))

-- the answer of one place
pub place_is : (𝒯 : Tables) (allocations words names : List ℕ) (i w : ℕ) (b : Bool)
    → b ≡ meets 𝒯 allocations (type_of w) (λ g. get_or names g 0) (get_or names i 0) → w ≡ get_or words i 0 → b ≡ place_meets 𝒯 allocations words names i
unfolding place_meets
place_is 𝒯 allocations words names i w b e h = e ∙ ap (λ (v : ℕ). meets 𝒯 allocations (type_of v) (λ g. get_or names g 0) (get_or names i 0)) h

-- ---- what is found, as the first no of questions that ask the same of each place

abbrev pub found_at : (ℕ → Refusal) → Option ℕ → Outcome (Unit {0})
found_at r None = ok tt
found_at r (Some k) = refused (r k)

module _ (f : ℕ → Bool) (r : ℕ → Refusal) (q : ℕ → Outcome (Unit {0})) where
  pub searched : (n i : ℕ) → ((j : ℕ) → j < i + n → q j ≡ asked (f j) (r j)) → first_no n i q ≡ found_at r (first_false n i f)
  unfolding first_false first_no then provided
  searched zero i same = refl
  searched (suc n) i same =
      by_test (f i)
      (λ l. rw (same i (omega arith), l) (searched n (suc i) (λ j h. same j (omega arith))))
      (λ l. rw (same i (omega arith), l))

-- a place that is found is one of those searched
pub found-below : (f : ℕ → Bool) (n i : ℕ) {k : ℕ} → first_false n i f ≡ Some k → k < i + n
unfolding first_false
found-below f zero i e = absurd (none-some _ e)
found-below f (suc n) i {k} e =
    by_test (f i)
    (λ l. omega (arith, found-below f n (suc i) (rw l at e)))
    (λ l. let h = rw l at e in let s : i ≡ k = cc in omega arith)

-- ---- Q20 of the fields of one record, Q21 of the registers

-- the words of memory from p on are the record's, and the words that are searched have the type word of its field
pub field_is : (𝒯 : Tables) (allocations memory words : List ℕ) (r p t j : ℕ) → get_or words j 0 ≡ get_or (𝒯.words t) j 0
    → field_ask 𝒯 allocations memory r p t j ≡ asked (place_meets 𝒯 allocations words (drop p memory) j) (refusal q20 r j)
unfolding field_ask place_meets
field_is 𝒯 allocations memory words r p t j e =
    let u : ◌≡◌ {A = ℕ → ℕ} (λ g. get_or memory (p + g) 0) (λ g. get_or (drop p memory) g 0) = fun_ext (λ g. sym (get_or-drop p memory g 0)) in
    rw (e, get_or-drop p memory j 0) (ap (λ (v : ℕ → ℕ). asked (meets 𝒯 allocations (type_of (get_or (𝒯.words t) j 0)) v (get_or memory (p + j) 0)) (refusal q20 r j)) u)

pub register-is : (𝒯 : Tables) (allocations annotation registers : List ℕ) (j : ℕ)
    → register_ask 𝒯 allocations annotation registers j ≡ asked (place_meets 𝒯 allocations annotation registers j) (refusal q21 j 0)
unfolding register_ask place_meets
register-is 𝒯 allocations annotation registers j = refl
