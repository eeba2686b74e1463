-- Laws of the rows: what may stand in a part, and where a row ends.
use mathlib.Core.Bool.{Bool, true, false}
use mathlib.Core.Path.{◌≡◌, refl, sym, ap, ◌∙◌}
use Rattle.std.specs.Prelude.{None, Some}
use Prim.Native.Nat.{ℕ, zero, suc, ◌+◌, ◌<◌, ◌≤◌}
use native.Mathlib.Omega.{arith}
use lib.Dec.{ltb}
use lib.ListN.{get_or-eq_default}
use borrow.Author.Tests.{ltb-true, ltb-false, lt-ltb, le-ltb}
use Rattle.model.proofs.Logic.{by_test}
use Rattle.grammar.specs.declared.Form.{Form}
use Rattle.grammar.specs.declared.Form.TheVariants.{Check, Memory, Entry, Run}
use Rattle.grammar.specs.declared.Part.{Part}
use Rattle.grammar.specs.declared.Part.TheVariants.{Done}
use Rattle.grammar.specs.Grammar.{row_length, word_end, is_table, is_long, given, bound, below, wanted, row_of, part_at}

-- ---- what may stand in a part

module _ (k : Part) (l : ℕ) where
  pub wanted-word : 0 < l → true ≡ wanted k l
  unfolding wanted
  wanted-word h = rw (lt-ltb 0 l h)

  pub wanted-count : l ≤ 0 → is_table k ≡ true → true ≡ wanted k l
  unfolding wanted
  wanted-count h e = rw (le-ltb 0 l h, e)

  pub wanted-other : l ≤ 0 → is_table k ≡ false → is_long k ≡ wanted k l
  unfolding wanted
  wanted-other h e = rw (le-ltb 0 l h, e)

module _ (k : Part) (l u : ℕ) where
  pub bound-word : 0 < l → 4294967295 + 1 ≡ bound k l u
  unfolding bound
  bound-word h = rw (lt-ltb _ _ h)

  pub bound-none : wanted k l ≡ false → bound k l u ≡ 0
  unfolding bound
  bound-none w =
      by_test (ltb 0 l)
      (λ q. let z : ◌≡◌ {A = Bool} true false = wanted-word k l (ltb-true 0 l q) ∙ w in let y : ◌≡◌ {A = ℕ} 0 1 = cc in absurd (omega arith))
      (λ q. by_test (is_table k)
      (λ z.
      let x : ◌≡◌ {A = Bool} true false = wanted-count k l (ltb-false 0 l q) z ∙ w in
      let y : ◌≡◌ {A = ℕ} 0 1 = cc in
      absurd (omega arith))
      (λ z. rw (q, z, wanted-other k l (ltb-false 0 l q) z ∙ w)))

  pub bound-most : 0 < l → bound k l u ≤ word_end
  bound-most h = omega (arith, bound-word h)

  pub bound-done : l ≤ 0 → k ≡ Done → bound k l u ≡ 0
  unfolding bound
  bound-done h e = rw (le-ltb 0 l h, e)

-- what is the largest is one less than the bound
pub below-some : (n m : ℕ) → Some m ≡ below n → m + 1 ≡ n
below-some zero m e = cc
below-some (suc n) m e = let g : m ≡ n = cc in omega arith

pub below_none : (n : ℕ) → None ≡ below n → n ≡ 0
below_none zero e = refl
below_none (suc n) e = cc

-- ---- the end of a row

-- past a row's end is nothing more
pub part-past : (f : Form) (p : ℕ) → row_length ≤ p → Done ≡ part_at f p
unfolding part_at row_of
part-past Check p h = sym (get_or-eq_default (row_of Check) Done h)
part-past Memory p h = sym (get_or-eq_default (row_of Memory) Done h)
part-past Entry p h = sym (get_or-eq_default (row_of Entry) Done h)
part-past Run p h = sym (get_or-eq_default (row_of Run) Done h)

pub given_inside : (f : Form) (p : ℕ) → 0 < given (part_at f p) → p < row_length
given_inside f p h =
    by_test (ltb p row_length)
    (λ q. ltb-true p row_length q)
    (λ q. let z : given Done ≡ given (part_at f p) = ap given (part-past f p (ltb-false p row_length q)) in absurd (omega arith))
