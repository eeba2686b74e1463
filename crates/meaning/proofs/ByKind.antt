-- One law for each answer to 'does the word meet its meaning?', kind by kind.
use mathlib.Core.Path.{◌≡◌, refl, sym, ◌∙◌}
use mathlib.Core.Bool.{Bool, true, false, not}
use mathlib.Core.List.{List}
use Prim.Native.Nat.{ℕ, suc, ◌-◌, ◌≤◌, ◌<◌}
use native.Mathlib.Omega.{arith}
use lib.Dec.{ltb, leb, eqb}
use lib.ListN.{length, get_or}
use borrow.Author.Tests.{lt-ltb, le-ltb, le-leb, lt-leb, ne_eqb}
use Rattle.model.specs.Question.{◌and◌, ◌or◌}
use Rattle.model.specs.Word.{kind_of, record_of, first_of, second_of}
use Rattle.model.specs.Types.{type_of, dep_of, word_of}
use Rattle.model.specs.Table.{Tables, tables_of, well_made}
use Rattle.model.specs.MemoryCheck.{run_test, rank_test, tag_test, meets}
use Rattle.model.proofs.Logic.{and_no, and_yes, yes_and}
use Rattle.table.proofs.Laws.{kind-bound, record-of-span, first-name, second-name}
use Rattle.meaning.specs.declared.Meanings.{Meanings}
use Rattle.meaning.specs.Owners.{starts_at}
use Rattle.meaning.specs.Means.{tables}
use Rattle.meaning.specs.Search.{Legible}

-- a well-made word over n names can be read where there are as many words or more
pub legible : (count n m w v : ℕ) → w ≡ v → well_made count n v ≡ true → n ≤ m → Legible count m w
legible count n m w v e q l =
    let h : well_made count n w ≡ true = rw e q in
    record {
      kind = kind-bound count n w h;
      typed = record-of-span count n w h;
      first = λ k x. omega (arith, first-name count n w h k x);
      second = λ k x. omega (arith, second-name count n w h k x);
    }

-- ---- dependencies

module _ (names : List ℕ) (x : ℕ) where
  pub dependency-name : x < 8 → get_or names x 0 ≡ word_of (λ g. get_or names g 0) (dep_of x)
  dependency-name h = rw (lt-ltb x 8 h)

  pub dependency-constant : 8 ≤ x → x - 8 ≡ word_of (λ g. get_or names g 0) (dep_of x)
  dependency-constant h = rw (le-ltb x 8 h)

-- ---- tags

module _ (m : Meanings) (d p : ℕ) where
  pub tag-beyond : length m.tags.now ≤ d → ltb d (length m.tags.now) ≡ tag_test (tables m) m.allocations.now d p
  unfolding tag_test tables_of ◌and◌
  tag-beyond h = rw (le-ltb d (length m.tags.now) h)

  pub tag-starts : d < length m.tags.now → starts_at m.owners.now p (get_or m.tags.now d 0) ≡ tag_test (tables m) m.allocations.now d p
  unfolding tag_test tables_of
  tag-starts h = sym (and_yes _ _ (lt-ltb d (length m.tags.now) h) ∙ m.owned.starts p (get_or m.tags.now d 0))

-- ---- Run, From and In

module _ (𝒯 : Tables) (allocations : List ℕ) (k d e p : ℕ) where
  pub rank-run : k ≡ 6 → true ≡ rank_test 𝒯 allocations (k - 6) d e p
  unfolding rank_test
  rank-run h = rw h

  pub rank-from : k ≡ 7 → leb d p ≡ rank_test 𝒯 allocations (k - 6) d e p
  unfolding rank_test
  rank-from h = rw h

  pub rank-in : k ≡ 8 → d ≤ p → ltb p e ≡ rank_test 𝒯 allocations (k - 6) d e p
  unfolding rank_test ◌and◌
  rank-in h l = rw (h, le-leb d p l)

  pub rank-below : k ≡ 8 → p < d → leb d p ≡ rank_test 𝒯 allocations (k - 6) d e p
  unfolding rank_test ◌and◌
  rank-below h l = rw (h, lt-leb d p l)

-- ---- the nine kinds

module _ (m : Meanings) (u : ℕ → ℕ) (w p : ℕ) where
  abbrev Met : Bool
  Met = meets (tables m) m.allocations.now (type_of w) u p

  pub meets-any : kind_of w ≡ 0 → true ≡ Met
  unfolding type_of meets
  meets-any h = rw h

  -- a reference to type t, which the table of owners tells by s
  module _ {t : ℕ} {s : Bool} (et : t ≡ record_of w) (es : s ≡ starts_at m.owners.now p t) where
    pub meets-ref : kind_of w ≡ 1 → s ≡ Met
    unfolding type_of meets
    meets-ref h = rw (h, ← et) (es ∙ sym (m.owned.starts p t))

    pub meets-maybe : kind_of w ≡ 2 → (p ≡ 0 → ⊥) → s ≡ Met
    unfolding type_of meets ◌or◌
    meets-maybe h z = rw (h, ← et, ne_eqb p 0 z) (es ∙ sym (m.owned.starts p t))

  pub maybe-zero : kind_of w ≡ 2 → p ≡ 0 → eqb p 0 ≡ Met
  unfolding type_of meets ◌or◌
  maybe-zero h z = rw (h, z)

  pub tagged-zero : kind_of w ≡ 3 → p ≡ 0 → eqb p 0 ≡ Met
  unfolding type_of meets ◌or◌
  tagged-zero h z = rw (h, z)

  pub present-zero : kind_of w ≡ 4 → p ≡ 0 → not (eqb p 0) ≡ Met
  unfolding type_of meets
  present-zero h z = rw (h, z) (sym (and_no _ _ (λ _. refl)))

  -- the word d that the first dependency stands for
  module _ {d : ℕ} (ed : d ≡ word_of u (dep_of (first_of w))) where
    -- a reference to the type of tag d, told by s
    module _ {s : Bool} (es : s ≡ tag_test (tables m) m.allocations.now d p) where
      pub meets-tagged : kind_of w ≡ 3 → (p ≡ 0 → ⊥) → s ≡ Met
      unfolding type_of meets ◌or◌
      meets-tagged h z = rw (h, ← ed, ne_eqb p 0 z) es

      pub meets-present : kind_of w ≡ 4 → (p ≡ 0 → ⊥) → s ≡ Met
      unfolding type_of meets
      meets-present h z = rw (h, ← ed) (es ∙ sym (yes_and _ _ (le-leb 1 p (omega arith))))

    pub meets-same : kind_of w ≡ 5 → eqb p d ≡ Met
    unfolding type_of meets
    meets-same h = rw (h, ← ed)

    -- and the word e that the second stands for, of a run of type t
    module _ {t e : ℕ} (et : t ≡ record_of w) (ee : e ≡ word_of u (dep_of (second_of w))) where
      span_of : (j : ℕ) → kind_of w ≡ suc (suc (suc (suc (suc (suc j)))))
          → run_test (tables m) m.allocations.now t d e p and rank_test (tables m) m.allocations.now j d e p ≡ Met
      unfolding type_of meets
      span_of j h = rw (h, ← et, ← ed, ← ee)

      module _ {k : ℕ} (ek : k ≡ kind_of w) (span : 6 ≤ k) where
        meets-span : run_test (tables m) m.allocations.now t d e p and rank_test (tables m) m.allocations.now (k - 6) d e p ≡ Met
        meets-span = span_of (k - 6) (omega (arith, ek, span))

        pub meets-rank : {b : Bool} → b ≡ rank_test (tables m) m.allocations.now (k - 6) d e p → b ≡ false → b ≡ Met
        meets-rank eb f = f ∙ sym (and_no _ _ (λ _. sym eb ∙ f)) ∙ meets-span

        pub meets-run : {b s : Bool} → b ≡ rank_test (tables m) m.allocations.now (k - 6) d e p → b ≡ true
            → s ≡ run_test (tables m) m.allocations.now t d e p → s ≡ Met
        meets-run eb y es = es ∙ sym (yes_and _ _ (sym eb ∙ y)) ∙ meets-span
