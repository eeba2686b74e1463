-- Laws of a block's end: Q7 to Q9 and Q13, what an edge tells, Q14 and Q15.
use mathlib.Core.Path.{◌≡◌, refl, sym, ap, ◌∙◌}
use mathlib.Core.Bool.{Bool, true, false, not, false≢true}
use mathlib.Core.List.{List, [], ◌∷◌}
use Rattle.std.specs.Prelude.{Result, Some, None}
use Prim.Native.Nat.{ℕ, zero, suc, ◌+◌, ◌/◌, ◌<◌, ◌≤◌}
use native.Mathlib.Numerals.{add-one}
use native.Mathlib.Omega.{arith}
use lib.Dec.{ltb, eqb}
use lib.ListN.{get_or, set}
use borrow.Author.Tests.{lt-ltb, le-ltb, eq-eqb, ne_eqb, ltb-false}
use Rattle.model.specs.Question.{◌and◌, pick, provided, Outcome, ok, refused, then}
use Rattle.model.specs.declared.questions.Question.{Question}
use Rattle.model.specs.declared.questions.Question.TheVariants.{Target as q9, OpenRecord as q13, TakenEdge as q14, UntakenEdge as q15}
use Rattle.model.specs.declared.questions.Refusal.{Refusal}
use Rattle.model.specs.Word.{kind_of, first_of, second_of, opcode_of, a_of, b_of, c_of, with_kind}
use Rattle.model.specs.Types.{Dep, name, dep_of, rename_dep, Ty, any, ref, maybe, tagged, present, same, span}
use Rattle.model.specs.Table.{Tables, Routine}
use Rattle.model.specs.Machine.{End, halt, jump, if_equal, if_less, Instruction, plain, end, malformed, decode, targets_exist, form_ask}
use Rattle.model.specs.Values.{Values, birthplace, typed, known_equal}
use Rattle.model.specs.Reading.{row_fits, Reading, rekinded, is_open, not_zero, below, not_below, taken, untaken}
use Rattle.model.specs.Check.{read_edges, read_end, read_instruction}
use Rattle.model.specs.Cost.{edges_asked, instruction_asked}
use Rattle.model.proofs.Lists.{set_same}
use Rattle.model.proofs.Logic.{by_test, by_equality}
use Rattle.instruction.specs.Form.{form_no, end_of, forks, Ending}
use Rattle.instruction.proofs.Laws.{no_refusal, same_no, form-refuses, form-ending, ending-word, end-halt, end-jump, end-equal, end-less}
use Rattle.known.specs.declared.Values.{Values as Held}
use Rattle.known.specs.Numbers.{frames_of, values_of, dep_at, sibling_of}
use Rattle.known.proofs.Numbers.{dep-name, by_kind, type-any, type-ref, type-maybe, type-tagged, type-present, type-same, type-span}
use Rattle.access.specs.declared.Reading.{Reading as State}
use Rattle.access.specs.State.{reading, placing}
use Rattle.branch.specs.declared.EdgeFacts.{EdgeFacts}
use Rattle.branch.specs.End.{end_no, with_word, retyped, past_zero, next_kind, taken_in, untaken_in, Tells, fork_ask, fork_asked, EdgeRows}

-- ---- Q7 to Q9 and Q13

module _ (w b count base : ℕ) where
  pub end-form : (q : Question) → refused q ≡ form_no (decode w) true b count → refused q ≡ end_no (decode w) b count base
  unfolding end_no
  end-form q e = form-refuses {A = Result (Unit {0}) Question} refused count b _ _ true (decode w) q e

  module _ (f : Ending b count w) where
    pub end-open : base < 256 → refused q13 ≡ end_no (decode w) b count base
    unfolding end_no provided
    end-open h = rw (← form-ending {A = Result (Unit {0}) Question} refused count b (λ _. ok tt) _ w f, lt-ltb base 256 h)

    pub end-shut : 256 ≤ base → ok tt ≡ end_no (decode w) b count base
    unfolding end_no provided
    end-shut h = rw (← form-ending {A = Result (Unit {0}) Question} refused count b (λ _. ok tt) _ w f, le-ltb base 256 h)

-- where none of them had a no
form-passed : (x : Instruction) (b count base : ℕ) → ok tt ≡ end_no x b count base → (ok tt ≡ form_no x true b count) × (256 ≤ base)
unfolding end_no form_no form_ask provided
form-passed malformed b count base e = absurd (no_refusal e refl)
form-passed (plain x) b count base e = absurd (no_refusal e refl)
form-passed (end x) b count base e =
    by_test (targets_exist count b x)
    (λ p. by_test (ltb base 256) (λ q. absurd (no_refusal {q = q13} e (rw (p, q)))) (λ q. (rw p, ltb-false base 256 q)))
    (λ p. absurd (no_refusal {q = q9} e (rw p)))

pub end-word : (w b count base : ℕ) → ok tt ≡ end_no (decode w) b count base → Ending b count w
end-word w b count base e = ending-word w b count (form-passed (decode w) b count base e).0

-- the outcome of questions, with a result
carried : {A : Type 0} (place : Question → Refusal) (a : A) (o : Result (Unit {0}) Question) → placing place o a ≡ then (placing place o (tt {0})) (λ _. ok a)
unfolding placing then
carried place a (ok u) = refl
carried place a (refused q) = refl

-- one no at one place
same_place : {A : Type 0} (place : Question → Refusal) {q r : Question} → ◌≡◌ {A = Result (Unit {0}) Question} (refused q) (refused r)
    → ◌≡◌ {A = Outcome A} (refused (place q)) (refused (place r))
same_place place e = rw (same_no e)

-- Q7 to Q9 and Q13, then the edges, are the reading of the last instruction
module _ (𝒯 : Tables) (P : Routine) (place : Question → Refusal) (b g w : ℕ) (st : Reading) (count : ℕ) (ec : P.count ≡ count) where
  refuses : (q : Question) (x : Instruction) → refused q ≡ end_no x b P.count st.base → refused (place q) ≡ read_instruction 𝒯 P place b g true x st
  unfolding end_no read_instruction read_end form_ask provided
  refuses q malformed e = same_place place e
  refuses q (plain x) e = same_place place e
  refuses q (end x) e =
      by_test (targets_exist P.count b x)
      (λ p. by_test (ltb st.base 256) (λ h. rw (p, h) (same_place place (e ∙ rw (p, h)))) (λ h. absurd (no_refusal (sym (e ∙ rw (p, h))) refl)))
      (λ p. rw p (same_place place (e ∙ rw p)))

  pub end-refuses : (q : Question) → refused q ≡ end_no (decode w) b count st.base → placing place (refused q) st ≡ read_instruction 𝒯 P place b g true (decode w) st
  unfolding placing
  end-refuses q e = refuses q (decode w) (rw ec e)

  pub end_reads : ok tt ≡ end_no (decode w) b count st.base → (o : Result (Unit {0}) Question)
      → placing place o tt ≡ read_edges 𝒯 P place (suc b) (end_of w) st → placing place o st ≡ read_instruction 𝒯 P place b g true (decode w) st
  unfolding read_instruction read_end provided
  end_reads e o eo =
      let here : ok tt ≡ end_no (decode w) b P.count st.base = rw ec e in
      let shut = (form-passed (decode w) b P.count st.base here).1 in
      let ends = end-word w b P.count st.base here in
      rw (
        ← form-ending {A = Outcome Reading} (λ (q : Question). refused (place q)) P.count b _ (λ x. read_end 𝒯 P place b x st) w ends,
        le-ltb st.base 256 shut,
        ← eo,
      ) (carried place st o)

-- the fit questions: none where one of them had a no, else those of the edges
module _ (𝒯 : Tables) (P : Routine) (b w : ℕ) (st : Reading) (count : ℕ) (ec : P.count ≡ count) where
  unasked : (q : Question) (x : Instruction) → refused q ≡ end_no x b P.count st.base → 0 ≡ instruction_asked 𝒯 P b true x st
  unfolding end_no instruction_asked form_ask provided
  unasked q malformed e = refl
  unasked q (plain x) e = refl
  unasked q (end x) e =
      by_test (targets_exist P.count b x)
      (λ p. by_test (ltb st.base 256) (λ h. rw (p, h)) (λ h. absurd (no_refusal (sym (e ∙ rw (p, h))) refl)))
      (λ p. rw p)

  pub end-unasked : (q : Question) → refused q ≡ end_no (decode w) b count st.base → 0 ≡ instruction_asked 𝒯 P b true (decode w) st
  end-unasked q e = unasked q (decode w) (rw ec e)

  pub end-asked : ok tt ≡ end_no (decode w) b count st.base → edges_asked 𝒯 P (end_of w) st ≡ instruction_asked 𝒯 P b true (decode w) st
  unfolding instruction_asked provided
  end-asked e =
      let here : ok tt ≡ end_no (decode w) b P.count st.base = rw ec e in
      let shut = (form-passed (decode w) b P.count st.base here).1 in
      let ends = end-word w b P.count st.base here in
      rw (← form-ending {A = ℕ} (λ _. 0) P.count b _ (λ x. provided (not (is_open st)) 0 λ _. edges_asked 𝒯 P x st) w ends, le-ltb st.base 256 shut)

-- ---- what an edge tells

set-again : (l : List ℕ) (i x y : ℕ) → set (set l i x) i y ≡ set l i y
set-again [] i x y = refl
set-again (z ∷ l) zero x y = refl
set-again (z ∷ l) (suc i) x y = ap {B = List ℕ} (λ (r : List ℕ). z ∷ r) (set-again l i x y)

module _ (held : Held) (v : ℕ) where
  abbrev vs : Values
  vs = values_of held 0 0

  abbrev frame : ℕ
  frame = get_or (frames_of held.frames) (birthplace v) 0

  abbrev σ : ℕ → ℕ
  σ = λ i. frame + i

  abbrev m : ℕ
  m = get_or held.words v 0

  -- the type word is as it was
  kept : retyped held v m ≡ vs
  kept = rw (set_same held.words v)

  pub zero-tested : (k : ℕ) → (k ≡ 0 → ⊥) → retyped held v m ≡ past_zero vs v k
  zero-tested k n = rw (ne_eqb k 0 n) kept

  module _ (k : ℕ) (z : k ≡ 0) (j : ℕ) (ej : j ≡ kind_of m) where
    pub zero-maybe : j ≡ 2 → (r : ℕ) → r ≡ with_kind 1 m → retyped held v r ≡ past_zero vs v k
    unfolding not_zero typed
    zero-maybe e r er = rw (er, eq-eqb k 0 z, type-maybe σ m (sym ej ∙ e))

    pub zero-tagged : j ≡ 3 → (r : ℕ) → r ≡ with_kind 4 m → retyped held v r ≡ past_zero vs v k
    unfolding not_zero typed
    zero-tagged e r er = rw (er, eq-eqb k 0 z, type-tagged σ m (sym ej ∙ e))

    pub zero-other : (j ≡ 2 → ⊥) → (j ≡ 3 → ⊥) → retyped held v m ≡ past_zero vs v k
    unfolding not_zero typed
    zero-other n2 n3 =
        rw (eq-eqb k 0 z)
        (kept ∙ by_kind (kind_of m) (λ e. rw (type-any σ m e)) (λ e. rw (type-ref σ m e)) (λ e. absurd (n2 (ej ∙ e))) (λ e. absurd (n3 (ej ∙ e)))
        (λ e. rw (type-present σ m e)) (λ e. rw (type-same σ m e)) (λ i e. rw (type-span σ m i e)))

  -- the next kind
  module _ (u k x j : ℕ) (ej : j ≡ kind_of m) where
    pub next-other : (j ≡ k → ⊥) → m ≡ next_kind vs v u k x
    unfolding next_kind ◌and◌
    next-other n = rw (ne_eqb (kind_of m) k (λ e. n (ej ∙ e)))

    module _ (e : j ≡ k) (d : ℕ) (ed : dep_at d ≡ sibling_of frame x) where
      pub next-not : known_equal vs (dep_at u) (dep_at d) ≡ false → m ≡ next_kind vs v u k x
      unfolding next_kind ◌and◌
      next-not q = rw (eq-eqb (kind_of m) k (sym ej ∙ e), ← ed, q)

      pub next-is : known_equal vs (dep_at u) (dep_at d) ≡ true → (r : ℕ) → r ≡ with_kind (k + 1) m → r ≡ next_kind vs v u k x
      unfolding next_kind ◌and◌
      next-is q r er = rw (er, eq-eqb (kind_of m) k (sym ej ∙ e), ← ed, q)

  -- an edge that tells of spans of kind k alone, with u known equal to one side
  module _ (u : ℕ) (h : u < 256) (tell : Ty → Values) (k x : ℕ) (side : Dep → Dep → Dep)
      (known-side : sibling_of frame x ≡ side (rename_dep σ (dep_of (first_of m))) (rename_dep σ (dep_of (second_of m)))) where
    -- a value of another kind
    next-kept : (kind_of m ≡ k + 6 → ⊥) → retyped held v (next_kind vs v u (k + 6) x) ≡ vs
    unfolding next_kind ◌and◌
    next-kept n = rw (ne_eqb (kind_of m) (k + 6) n) kept

    next-told : kind_of m ≡ k + 6 → retyped held v (next_kind vs v u (k + 6) x)
        ≡ pick (known_equal vs (name u) (sibling_of frame x)) (rekinded vs v (k + 7)) vs
    unfolding next_kind ◌and◌
    next-told e =
        let z : k + 6 + 1 ≡ k + 7 = omega arith in
        rw (eq-eqb (kind_of m) (k + 6) e, ← dep-name u h, z)
        (by_test (known_equal vs (dep_at u) (sibling_of frame x)) (λ q. rw q) (λ q. rw q kept))

    tells : tell any ≡ vs → ((t : ℕ) → tell (ref t) ≡ vs) → ((t : ℕ) → tell (maybe t) ≡ vs) → ((d : Dep) → tell (tagged d) ≡ vs)
        → ((d : Dep) → tell (present d) ≡ vs) → ((d : Dep) → tell (same d) ≡ vs)
        → ((i t : ℕ) (d e : Dep) → tell (span i t d e) ≡ pick (eqb i k and known_equal vs (name u) (side d e)) (rekinded vs v (k + 7)) vs)
        → (r : ℕ) → r ≡ next_kind vs v u (k + 6) x → retyped held v r ≡ tell (typed vs v)
    unfolding typed ◌and◌
    tells f0 f1 f2 f3 f4 f5 f6 r er =
        rw er
        (by_kind (kind_of m) (λ e. next-kept (λ n. omega arith) ∙ rw (type-any σ m e) (sym f0))
        (λ e. next-kept (λ n. omega arith) ∙ rw (type-ref σ m e) (sym (f1 _)))
        (λ e. next-kept (λ n. omega arith) ∙ rw (type-maybe σ m e) (sym (f2 _)))
        (λ e. next-kept (λ n. omega arith) ∙ rw (type-tagged σ m e) (sym (f3 _)))
        (λ e. next-kept (λ n. omega arith) ∙ rw (type-present σ m e) (sym (f4 _)))
        (λ e. next-kept (λ n. omega arith) ∙ rw (type-same σ m e) (sym (f5 _)))
        (λ i e. rw (type-span σ m i e) (by_equality i k
        (λ z. next-told (rw z at e) ∙ sym (f6 _ _ _ _ ∙ rw (eq-eqb i k z, ← known-side)))
        (λ n. next-kept (λ z. n (omega arith)) ∙ sym (f6 _ _ _ _ ∙ rw (ne_eqb i k n))))))

  module _ (u : ℕ) (h : u < 256) where
    pub below-told : (x : ℕ) → x ≡ second_of m → (r : ℕ) → r ≡ next_kind vs v u 7 x
        → retyped held v r ≡ below vs v u (typed vs v)
    unfolding below sibling_of
    below-told x ex r er =
        tells u h (below vs v u) 1 (second_of m) (λ d e. e) refl refl (λ t. refl) (λ t. refl) (λ d. refl) (λ d. refl) (λ d. refl)
        (λ i t d e. refl) r (er ∙ ap (next_kind vs v u 7) ex)

    pub not-below-told : (x : ℕ) → x ≡ first_of m → (r : ℕ) → r ≡ next_kind vs v u 6 x
        → retyped held v r ≡ not_below vs v u (typed vs v)
    unfolding not_below sibling_of
    not-below-told x ex r er =
        tells u h (not_below vs v u) 0 (first_of m) (λ d e. d) refl refl (λ t. refl) (λ t. refl) (λ d. refl) (λ d. refl) (λ d. refl)
        (λ i t d e. refl) r (er ∙ ap (next_kind vs v u 6) ex)

-- ---- Q14 and Q15

module _ (𝒯 : Tables) (P : Routine) (place : Question → Refusal) (b w : ℕ) (st : Reading) where
  pub edges-halt : opcode_of w ≡ 0 → placing place (ok tt) tt ≡ read_edges 𝒯 P place (suc b) (end_of w) st
  unfolding read_edges placing
  edges-halt o = rw (end-halt w o)

  module _ (o : opcode_of w ≡ 10) (row row' : List ℕ) (l : EdgeRows P b (end_of w) row row') (f : Bool)
      (ef : f ≡ row_fits 𝒯 st.values 8 row st.registers) where
    row_is : P.annotation (c_of w) ≡ row
    row_is = rw (end-jump w o) at l.target

    pub jump_no : f ≡ false → placing place (refused q14) tt ≡ read_edges 𝒯 P place (suc b) (end_of w) st
    unfolding read_edges placing provided taken
    jump_no q = rw (end-jump w o, row_is, ← ef, q)

    pub jump-yes : f ≡ true → placing place (ok tt) tt ≡ read_edges 𝒯 P place (suc b) (end_of w) st
    unfolding read_edges placing provided taken
    jump-yes q = rw (end-jump w o, row_is, ← ef, q)

-- a branch asks both
forks-ask : (𝒯 : Tables) (P : Routine) (place : Question → Refusal) (b : ℕ) (e : End) (taken_row untaken_row : List ℕ) (st : Reading)
    → EdgeRows P b e taken_row untaken_row → forks e ≡ true
    → fork_ask 𝒯 place st.registers (taken e st) taken_row (untaken e st) untaken_row ≡ read_edges 𝒯 P place (suc b) e st
unfolding fork_ask read_edges
forks-ask 𝒯 P place b halt t u st l f = absurd (false≢true f)
forks-ask 𝒯 P place b (jump k) t u st l f = absurd (false≢true f)
forks-ask 𝒯 P place b (if_equal x k c) t u st l f = rw (l.target, l.next refl)
forks-ask 𝒯 P place b (if_less x y c) t u st l f = rw (l.target, l.next refl)

branches : (w : ℕ) → 10 < opcode_of w → opcode_of w ≤ 12 → forks (end_of w) ≡ true
branches w l h = by_equality (opcode_of w) 11 (λ o. rw (end-equal w o)) (λ n. let o : opcode_of w ≡ 12 = omega arith in rw (end-less w o))

pub fork-edges : (𝒯 : Tables) (P : Routine) (place : Question → Refusal) (b w : ℕ) (taken_row untaken_row : List ℕ) (st : Reading)
    → EdgeRows P b (end_of w) taken_row untaken_row → 10 < opcode_of w → opcode_of w ≤ 12
    → (t : EdgeFacts) (held : Held) → Tells t held (end_of w) st
    → fork_ask 𝒯 place st.registers (taken_in t held) taken_row (untaken_in t held) untaken_row
    ≡ read_edges 𝒯 P place (suc b) (end_of w) st
fork-edges 𝒯 P place b w taken_row untaken_row st l h k t held T =
    rw (T.on_taken, T.on_untaken) (forks-ask 𝒯 P place b (end_of w) taken_row untaken_row st l (branches w h k))

-- ---- the fit questions of Q14 and Q15

module _ (𝒯 : Tables) (P : Routine) (w : ℕ) (st : Reading) where
  pub halt-asked : opcode_of w ≡ 0 → 0 ≡ edges_asked 𝒯 P (end_of w) st
  unfolding edges_asked
  halt-asked o = rw (end-halt w o)

  pub jump-asked : opcode_of w ≡ 10 → 8 ≡ edges_asked 𝒯 P (end_of w) st
  unfolding edges_asked
  jump-asked o = rw (end-jump w o)

forks-asked : (𝒯 : Tables) (P : Routine) (b : ℕ) (e : End) (taken_row untaken_row : List ℕ) (st : Reading) → EdgeRows P b e taken_row untaken_row
    → forks e ≡ true → fork_asked 𝒯 st.registers (taken e st) taken_row ≡ edges_asked 𝒯 P e st
unfolding fork_asked edges_asked
forks-asked 𝒯 P b halt t u st l f = absurd (false≢true f)
forks-asked 𝒯 P b (jump k) t u st l f = absurd (false≢true f)
forks-asked 𝒯 P b (if_equal x k c) t u st l f = rw l.target
forks-asked 𝒯 P b (if_less x y c) t u st l f = rw l.target

pub fork-asked : (𝒯 : Tables) (P : Routine) (b w : ℕ) (taken_row untaken_row : List ℕ) (st : Reading)
    → EdgeRows P b (end_of w) taken_row untaken_row → 10 < opcode_of w → opcode_of w ≤ 12
    → (t : EdgeFacts) (held : Held) → Tells t held (end_of w) st
    → fork_asked 𝒯 st.registers (taken_in t held) taken_row ≡ edges_asked 𝒯 P (end_of w) st
fork-asked 𝒯 P b w taken_row untaken_row st l h k t held T =
    rw T.on_taken (forks-asked 𝒯 P b (end_of w) taken_row untaken_row st l (branches w h k))

-- ---- a branch

-- as `fork` asks them, of values in which first the one type word is put and then the other
module _ (𝒯 : Tables) (place : Question → Refusal) (registers row row' : List ℕ) (held : Held) (t : EdgeFacts)
    (f : Bool) (ef : f ≡ row_fits 𝒯 (taken_in t held) 8 row registers) where
  abbrev both : Outcome (Unit {0})
  both = fork_ask 𝒯 place registers (taken_in t held) row (untaken_in t held) row'

  pub fork-taken : f ≡ false → placing place (refused q14) tt ≡ both
  unfolding fork_ask placing provided
  fork-taken q = rw (← ef, q)

  module _ (q : f ≡ true) (h : Bool) (eh : h ≡ row_fits 𝒯 (retyped (with_word held t.v t.taken) t.v t.untaken) 8 row' registers) where
    second : h ≡ row_fits 𝒯 (untaken_in t held) 8 row' registers
    second = rw (set-again held.words t.v t.taken t.untaken) at eh

    pub fork-untaken : h ≡ false → placing place (refused q15) tt ≡ both
    unfolding fork_ask placing provided
    fork-untaken p = rw (← ef, q, ← second, p)

    pub fork-both : h ≡ true → placing place (ok tt) tt ≡ both
    unfolding fork_ask placing provided
    fork-both p = rw (← ef, q, ← second, p)

module _ (𝒯 : Tables) (registers row : List ℕ) (held : Held) (t : EdgeFacts) (f : Bool) (ef : f ≡ row_fits 𝒯 (taken_in t held) 8 row registers) where
  pub one-asked : f ≡ false → 8 ≡ fork_asked 𝒯 registers (taken_in t held) row
  unfolding fork_asked provided
  one-asked q = rw (← ef, q)

  pub both-asked : f ≡ true → 16 ≡ fork_asked 𝒯 registers (taken_in t held) row
  unfolding fork_asked provided
  both-asked q = rw (← ef, q)

-- ---- what the edges of a word tell

module _ (state : State) (w a : ℕ) (ea : a ≡ a_of w) where
  abbrev st : Reading
  st = reading state

  abbrev v : ℕ
  v = get_or state.registers a 0

  pub equal-tells : opcode_of w ≡ 11 → (c : ℕ) → c ≡ c_of w → (i past : ℕ) → i ≡ v
      → retyped state.values v past ≡ past_zero st.values v (c / 256)
      → Tells (record { v = v; taken = get_or state.values.words i 0; untaken = past; constant = Some (c / 256) }) state.values (end_of w) st
  unfolding taken untaken
  equal-tells o c ec i past ei ep =
      record {
        on_taken = rw (end-equal w o, ← ea, ← ec, ei, set_same state.values.words v, add-one (c / 256));
        on_untaken = rw (end-equal w o, ← ea, ← ec) ep;
      }

  pub less-tells : opcode_of w ≡ 12 → (b u : ℕ) → b ≡ b_of w → u ≡ get_or state.registers b 0 → (less past : ℕ)
      → retyped state.values v less ≡ below st.values v u (typed st.values v)
      → retyped state.values v past ≡ not_below st.values v u (typed st.values v)
      → Tells (record { v = v; taken = less; untaken = past; constant = None }) state.values (end_of w) st
  unfolding taken untaken
  less-tells o b u eb eu less past el ep =
      record {
        on_taken = rw (end-less w o, ← ea, ← eb, ← eu) el;
        on_untaken = rw (end-less w o, ← ea, ← eb, ← eu) ep;
      }
