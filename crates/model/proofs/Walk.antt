-- Card 2: a pointer In a run, moved by one size, is From the run's start; a pointer From it need not be.
use mathlib.Core.Path.{◌≡◌, refl, sym, ap, ◌∙◌}
use mathlib.Core.List.{[]}
use Prim.Native.Nat.{ℕ, suc, ◌+◌, ◌-◌, ◌*◌, ◌/◌, ◌%◌, ◌^◌, ◌≤◌, ◌<◌}
use native.Mathlib.Omega.{arith}
use native.Mathlib.Nat.{div-add-mod', add-mul-mod_self_right, mod-eq_of_lt, mul-le-mul_right, suc-mul}
use Rattle.model.specs.Word.{sum, difference}
use Rattle.model.specs.Types.{con, span, word_of}
use Rattle.model.specs.Table.{Tables}
use Rattle.model.specs.Meaning.{Allocation, RunOf, Meets, run, from, within}
use Rattle.model.specs.Walk.{AtMostEnd, OneSizeOn, Walk}
use Rattle.model.proofs.Logic.{by_less}
use Rattle.model.proofs.Width.{above}

-- ---- at any width and any size

-- where p and e are both in step with d, and p is below e, the next in step is at most e
next-most : (z d e p : ℕ) → d ≤ p → p < e → (e - d) % z ≡ 0 → (p - d) % z ≡ 0 → p + z ≤ e
next-most z d e p lo hi whole step = go ((p - d) / z) ((e - d) / z) (div-add-mod' (p - d) z) (div-add-mod' (e - d) z)
  where
    go : (i j : ℕ) → i * z + (p - d) % z ≡ p - d → j * z + (e - d) % z ≡ e - d → p + z ≤ e
    go i j a b =
        by_less i j (λ l. let m : suc i * z ≤ j * z = mul-le-mul_right z l in omega (arith, suc-mul i z))
        (λ l. absurd (let m : j * z ≤ i * z = mul-le-mul_right z l in omega arith))

at_most_end : AtMostEnd
at_most_end W z d e p lo hi top whole aligned =
    let step : (p - d) % z ≡ 0 = ap (λ (x : ℕ). x % z) (sym (above W p d lo (omega arith))) ∙ aligned in
    let most : p + z ≤ e = next-most z d e p lo hi whole step in
    let flat : (p + z) % W ≡ p + z = mod-eq_of_lt (omega arith) in
    let next : p + z - d ≡ p - d + 1 * z = omega arith in
    record {
      most = most;
      unwrapped = flat;
      aligned =
          rw flat (ap (λ (x : ℕ). x % z) (above W (p + z) d (omega arith) (omega arith))
          ∙ rw next (add-mul-mod_self_right (p - d) 1 z ∙ step));
    }

-- ---- in the meanings

pub in_moved : (𝒯 : Tables) (Is : Allocation) (t d e p : ℕ) → e < 2 ^ 32 → RunOf 𝒯 Is t d e p → d ≤ p → p < e
    → RunOf 𝒯 Is t d e (sum p (𝒯.size t)) × (d ≤ sum p (𝒯.size t))
in_moved 𝒯 Is t d e p top R lo hi =
    let O = at_most_end (2 ^ 32) (𝒯.size t) d e p lo hi top R.whole R.aligned in
    (record { less = R.less; whole = R.whole; aligned = O.aligned; starts = R.starts }, rw O.unwrapped (omega arith))

in_gives_from : OneSizeOn 2 1
in_gives_from 𝒯 Is u t p d e word top (within R lo hi) = let (M, past) = in_moved 𝒯 Is t (word_of u d) (word_of u e) p top R lo hi in from M past

-- ---- one record of six words, at word 1

abbrev sixes : Tables
sixes = record { count = 1; size = λ t. 6; words = λ t. []; tags = [] }

abbrev OneAtOne : Allocation
OneAtOne p t = p ≡ 1

abbrev Here : ℕ → ℕ → Type 0
Here k p = Meets sixes OneAtOne (λ g. 0) p (span k 0 (con 1) (con 7))

in_step : (p : ℕ) → difference p 1 % 6 ≡ 0 → RunOf sixes OneAtOne 0 1 7 p
in_step p a = record { less = omega arith; whole = refl; aligned = a; starts = λ k l. omega arith }

-- what is assumed of In is met by the word 1, which is then moved to the end
pub in-met : Here 2 1
in-met = within {d = con 1} {e = con 7} (in_step 1 refl) (omega arith) (omega arith)

pub end-from : Here 1 7
end-from = in_gives_from sixes OneAtOne (λ g. 0) 0 1 (con 1) (con 7) (omega arith) (omega arith) in-met

-- The word 4294967293 is six times 715827882 past 1, and so From; moved by six it is 3, which is out of step.

from-far : Here 1 4294967293
from-far = from {d = con 1} {e = con 7} (in_step 4294967293 refl) (omega arith)

no_run : Here 0 3 → ⊥
no_run (run R) = let h : ◌≡◌ {A = ℕ} 2 0 = R.aligned in omega arith

from_need_not_give_run : OneSizeOn 1 0 → ⊥
from_need_not_give_run wrong = no_run (wrong sixes OneAtOne (λ g. 0) 0 4294967293 (con 1) (con 7) (omega arith) (omega arith) from-far)

pub walk : Walk
walk = record { at_most_end = at_most_end; in_gives_from = in_gives_from; from_need_not_give_run = from_need_not_give_run }
