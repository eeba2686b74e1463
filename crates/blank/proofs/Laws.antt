-- Laws of blank rows and of the offered list: one for each way out of a function.
use mathlib.Core.Path.{◌≡◌, refl, sym, ap, ◌∙◌}
use mathlib.Core.Logic.{◌⊎◌, inl, inr}
use mathlib.Core.Bool.{Bool, true, false, false≢true}
use mathlib.Core.List.{List, [], ◌∷◌}
use Rattle.std.specs.List.{slice_get, list_all}
use Rattle.std.specs.Prelude.{Option, Some, None, ◌&&◌}
use Rattle.std.proofs.lemmas.Option.{slice_get_within, get_or_from_slice_get, slice_get-get_or, slice_get_past, none-some}
use Prim.Native.Nat.{ℕ, zero, suc, ◌+◌, ◌-◌, ◌*◌, ◌%◌, ◌<◌, ◌≤◌}
use native.Mathlib.Nat.{sub-zero, sub-eq-zero_of_le}
use native.Mathlib.Numerals.{add-one}
use native.Mathlib.Omega.{arith}
use lib.Dec.{eqb}
use lib.ListN.{length, get_or, set, drop, length-take, length-drop, length-set, get_or-eq_default}
use lib.Seq.{get_or-set_same, get_or-set_other}
use borrow.Author.Tests.{eq-eqb, ne_eqb, le-leb, lt-leb, leb-true, eqb-true}
use Rattle.model.specs.declared.Verdict.{Verdict}
use Rattle.model.specs.Question.{◌and◌, ◌or◌, pick, every, refusal, Outcome, ok, refused, passed, refusing, verdict_of, provided, then, in_order}
use Rattle.model.specs.declared.questions.Question.TheVariants.{Annotation as q6, OfferedRows as q32}
use Rattle.model.specs.Table.{rows, words_of, annotation_well, annotation_ask}
use Rattle.model.specs.Blank.{is_blank, blanks_from, blanks_of, offered_row, in_force, blanks_ask, offered_length_ask, offered_rows_ask}
use Rattle.model.proofs.InForce.{Rising, empty, next, blanks-rising}
use Rattle.model.proofs.Logic.{by_test, by_less, by_equality, either, and-true, or-true, ask-ok}
use Rattle.table.proofs.Laws.{words-length}
use Rattle.table.proofs.Questions.{left, ComesTo, no-refusal}
use Rattle.table.proofs.Answers.{annotation-yes, annotation-no}
use Rattle.blank.specs.declared.Filling.{Filling}
use Rattle.blank.specs.Force.{annotated, blank, NextBlank, Lists, Fits, offer_ask}

-- ---- blank rows

-- a test of each of a list, by their places
every-shift : (n i : ℕ) (f : ℕ → Bool) → every n (suc i) f ≡ every n i (λ k. f (suc k))
unfolding every
every-shift zero i f = refl
every-shift (suc n) i f = ap (λ (b : Bool). f (suc i) and b) (every-shift n (suc i) f)

and-same : (a b : Bool) → (a && b) ≡ (a and b)
unfolding ◌and◌
and-same true b = refl
and-same false b = refl

pub all-every : (test : ℕ → Bool) (words : List ℕ) → list_all test words ≡ every (length words) 0 (λ k. test (get_or words k 0))
unfolding every
all-every test [] = refl
all-every test (x ∷ xs) = rw (every-shift (length xs) 0 (λ k. test (get_or (x ∷ xs) k 0)), ← all-every test xs) (and-same (test x) (list_all test xs))

pub blank-is : (blocks own : List ℕ) (b : ℕ) → own ≡ words_of blocks b → blank own ≡ is_blank blocks b
unfolding is_blank
blank-is blocks own b e = rw e

-- the blank blocks from b on, where b is not one, and where it is
module _ (blocks : List ℕ) (b : ℕ) (h : b < rows blocks) where
  pub blanks-on : is_blank blocks b ≡ false → blanks_from blocks (rows blocks - b) b ≡ blanks_from blocks (rows blocks - (b + 1)) (b + 1)
  unfolding blanks_from
  blanks-on e = rw (left (rows blocks) b h, e, add-one b)

  pub blanks-here : is_blank blocks b ≡ true → blanks_from blocks (rows blocks - b) b ≡ b ∷ blanks_from blocks (rows blocks - (b + 1)) (b + 1)
  unfolding blanks_from
  blanks-here e = rw (left (rows blocks) b h, e, add-one b)

-- ---- Q6 of the rows that are not blank

-- the question of block b
abbrev pub open_ask : ℕ → List ℕ → ℕ → Outcome (Unit {0})
open_ask count blocks b = pick (is_blank blocks b) (ok tt) (annotation_ask count blocks b)

neither : (a b : Bool) → a or b ≡ false → (a ≡ false) × (b ≡ false)
unfolding ◌or◌
neither true b e = absurd (false≢true (sym e))
neither false b e = (refl, e)

-- a row that is well made has a yes, be it blank or not
module _ (count : ℕ) (blocks own : List ℕ) (b : ℕ) (e : own ≡ words_of blocks b) where
  pub open-yes : (annotated count own or blank own) ≡ true → open_ask count blocks b ≡ ok tt
  open-yes h =
      by_test (is_blank blocks b) (λ q. rw q)
      (λ q. rw q (annotation-yes count blocks own b e
      (either (or-true _ _ h) (λ y. y) (λ y. absurd (false≢true (sym q ∙ sym (blank-is blocks own b e) ∙ y))))))

  pub open_no : (annotated count own or blank own) ≡ false → open_ask count blocks b ≡ refused (refusal q6 b 0)
  open_no h =
      let (n, m) = neither _ _ h in
      rw (← blank-is blocks own b e, m) (annotation-no count blocks own b e n)

-- ---- the offered list

pub lengths-well : (n : ℕ) → offered_length_ask n ≡ ok tt → (n % 8 ≡ 0) × (n ≤ 64)
unfolding offered_length_ask
lengths-well n e =
    let (a, b) = and-true (eqb (n % 8) 0) _ (ask-ok _ _ _ e).0 in
    (eqb-true (n % 8) 0 a, leb-true n 64 b)

pub eight-offered : (offered own : List ℕ) (k : ℕ) → k * 8 + 8 ≤ length offered → own ≡ offered_row offered k → length own ≡ 8
unfolding offered_row
eight-offered offered own k h e = ap length e ∙ simp (length-take, length-drop) (omega arith)

-- a row of what is the list, if for a shorter lifetime
pub row_of : (offered near own : List ℕ) (k : ℕ) → near ≡ offered → own ≡ offered_row near k → own ≡ offered_row offered k
row_of offered near own k e h = rw (← e) h

-- the question of row k of the list
abbrev pub offered_ask : ℕ → List ℕ → ℕ → Outcome (Unit {0})
offered_ask count offered k = provided (every 8 0 (λ r. annotation_well count (get_or (offered_row offered k) r 0))) (refused (refusal q32 k 0)) (λ _. ok tt)

module _ (count : ℕ) (offered own : List ℕ) (k : ℕ) (e : own ≡ offered_row offered k) where
  pub offered-yes : every 8 0 (λ f. annotation_well count (get_or own f 0)) ≡ true → offered_ask count offered k ≡ ok tt
  unfolding provided
  offered-yes h = rw (← e, h)

  pub offered-no : every 8 0 (λ f. annotation_well count (get_or own f 0)) ≡ false → offered_ask count offered k ≡ refused (refusal q32 k 0)
  unfolding provided
  offered-no h = rw (← e, h)

-- ---- the blank blocks, one after another

abbrev pub none-yet : List ℕ
none-yet = 256 ∷ 256 ∷ 256 ∷ []

-- those from block b on
abbrev pub onward : List ℕ → ℕ → List ℕ
onward blocks b = blanks_from blocks (rows blocks - b) b

pub blanks-end : (blocks : List ℕ) (b : ℕ) → rows blocks ≤ b → onward blocks b ≡ []
unfolding blanks_from
blanks-end blocks b h = rw (sub-eq-zero_of_le h)

-- As a loop lists them: the first k have their places, and those from block b on are those left.
pub record Listed (blocks three : List ℕ) (k b : ℕ) : Type 0 where
  pub long : length three ≡ 3
  pub done : (j : ℕ) → j < k → get_or three j 0 ≡ get_or (blanks_of blocks) j 256
  pub free : (j : ℕ) → k ≤ j → j < 3 → get_or three j 0 ≡ 256
  pub left : drop k (blanks_of blocks) ≡ onward blocks b

-- what a list has at the place where a part of it begins
front : (l xs : List ℕ) (k x : ℕ) → drop k l ≡ x ∷ xs → (slice_get l k ≡ Some x) × (drop (suc k) l ≡ xs)
front [] xs zero x e = absurd (cc)
front [] xs (suc k) x e = absurd (cc)
front (y ∷ ys) xs zero x e = (cc, cc)
front (y ∷ ys) xs (suc k) x e = front ys xs k x e

past : (l : List ℕ) (k : ℕ) → drop k l ≡ [] → length l ≤ k
past [] k e = omega arith
past (y ∷ ys) zero e = absurd (cc)
past (y ∷ ys) (suc k) e = let h = past ys k e in omega arith

three-is : (t : List ℕ) → length t ≡ 3 → t ≡ get_or t 0 0 ∷ get_or t 1 0 ∷ get_or t 2 0 ∷ []
three-is [] e = absurd (omega arith)
three-is (a ∷ []) e = absurd (omega arith)
three-is (a ∷ b ∷ []) e = absurd (omega arith)
three-is (a ∷ b ∷ c ∷ []) e = refl
three-is (a ∷ b ∷ c ∷ d ∷ l) e = absurd (omega arith)

pub listed-begin : (blocks three : List ℕ) → three ≡ none-yet → Listed blocks three 0 0
listed-begin blocks three e =
    record {
      long = ap length e;
      done = λ j h. absurd (omega arith);
      free = λ j l h. rw e (all_free j h);
      left = rw sub-zero;
    }
  where
    all_free : (j : ℕ) → j < 3 → get_or none-yet j 0 ≡ 256
    all_free zero h = refl
    all_free (suc zero) h = refl
    all_free (suc (suc zero)) h = refl
    all_free (suc (suc (suc j))) h = absurd (omega arith)

module _ {blocks three : List ℕ} {k from : ℕ} (L : Listed blocks three k from) where
  pub listed-on : (b : ℕ) → k < 3 → onward blocks from ≡ b ∷ onward blocks (b + 1) → Listed blocks (set three k b) (k + 1) (b + 1)
  listed-on b h e =
      let (here, rest) = front (blanks_of blocks) _ k b (L.left ∙ e) in
      record {
        long = length-set three k b ∙ L.long;
        done = λ j u. by_equality j k
            (λ q. rw q (get_or-set_same three k b 0 (omega (arith, L.long)) ∙ sym (get_or_from_slice_get (blanks_of blocks) k b 256 here)))
            (λ n. get_or-set_other three k j b 0 n ∙ L.done j (omega arith));
        free = λ j u v. get_or-set_other three k j b 0 (λ (q : j ≡ k). omega arith) ∙ L.free j (omega arith) v;
        left = rw add-one rest;
      }

  placed : (length (blanks_of blocks) ≤ k) ⊎ (k ≡ 3) → (j : ℕ) → j < 3 → get_or three j 0 ≡ get_or (blanks_of blocks) j 256
  placed c j h =
      by_less j k (L.done j)
      (λ u. either c (λ e. L.free j u h ∙ sym (get_or-eq_default (blanks_of blocks) 256 {n = j} (omega arith))) (λ e. absurd (omega arith)))

  lists : (fourth : Option ℕ) → (length (blanks_of blocks) ≤ k) ⊎ (k ≡ 3) → fourth ≡ slice_get (blanks_of blocks) 3
      → Lists (blanks_of blocks) (record { three = three; fourth = fourth })
  lists fourth c e = record { three = three-is three L.long ∙ rw (placed c 0 (omega arith), placed c 1 (omega arith), placed c 2 (omega arith)); fourth = e }

  pub listed-early : k < 3 → onward blocks from ≡ [] → Lists (blanks_of blocks) (record { three = three; fourth = None })
  listed-early h e =
      let few = past (blanks_of blocks) k (L.left ∙ e) in
      lists None (inl few) (sym (slice_get_past (blanks_of blocks) 3 (omega arith)))

  pub listed-all : (fourth : Option ℕ) → k ≡ 3 → NextBlank blocks from fourth → Lists (blanks_of blocks) (record { three = three; fourth = fourth })
  listed-all None h e = lists None (inr h) (sym (slice_get_past (blanks_of blocks) 3 (omega (arith, past (blanks_of blocks) k (L.left ∙ e)))))
  listed-all (Some b) h e = lists (Some b) (inr h) (rw (← h) (sym (front (blanks_of blocks) _ k b (L.left ∙ e.1)).0))

-- ---- the row in force has eight words

force-eight : (blocks offered bs ks : List ℕ) (b : ℕ) → b < 256 → b * 9 + 9 ≤ length blocks
    → ((k : ℕ) → k < length bs → get_or bs k 0 < 256 → get_or ks k 0 * 8 + 8 ≤ length offered) → length (in_force blocks offered bs ks b) ≡ 8
force-eight blocks offered [] ks b l h F = words-length blocks b h
force-eight blocks offered (d ∷ ds) [] b l h F = words-length blocks b h
force-eight blocks offered (d ∷ ds) (k ∷ ks) b l h F =
    by_test (eqb b d) (λ q. rw q (eight-offered offered (offered_row offered k) k (F 0 (omega arith) (omega (arith, eqb-true b d q))) refl))
    (λ q. rw q (force-eight blocks offered ds ks b l h (λ j u. F (suc j) (omega arith))))

pub force-length : (blocks offered : List ℕ) (f : Filling) (b : ℕ) → b * 9 + 9 ≤ length blocks → length blocks ≤ 2304 → Fits f offered
    → (own : List ℕ) → own ≡ in_force blocks offered f.blanks f.places b → length own ≡ 8
force-length blocks offered f b h most F own e =
    ap length e ∙ force-eight blocks offered f.blanks f.places b (omega arith) h (λ k l. F.rows k (omega (arith, F.blanks)))

-- ---- the row in force, by the place of its block among the blank ones

module _ (blocks offered : List ℕ) (b : ℕ) where
  pub force-found : (bs ks : List ℕ) (k : ℕ) → length bs ≡ length ks → k < length bs → get_or bs k 0 ≡ b
      → ((j : ℕ) → j < k → get_or bs j 0 ≡ b → ⊥) → in_force blocks offered bs ks b ≡ offered_row offered (get_or ks k 0)
  force-found [] ks k e l h n = absurd (omega arith)
  force-found (d ∷ ds) [] k e l h n = absurd (omega arith)
  force-found (d ∷ ds) (x ∷ xs) zero e l h n = rw (eq-eqb b d (sym h))
  force-found (d ∷ ds) (x ∷ xs) (suc k) e l h n =
      rw (ne_eqb b d (λ q. n 0 (omega arith) (sym q))) (force-found ds xs k (omega arith) (omega arith) h (λ j u. n (suc j) (omega arith)))

  pub force-own : (bs ks : List ℕ) → ((j : ℕ) → j < length bs → get_or bs j 0 ≡ b → ⊥) → in_force blocks offered bs ks b ≡ words_of blocks b
  force-own [] ks n = refl
  force-own (d ∷ ds) [] n = refl
  force-own (d ∷ ds) (x ∷ xs) n = rw (ne_eqb b d (λ q. n 0 (omega arith) (sym q))) (force-own ds xs (λ j u. n (suc j) (omega arith)))

-- ---- Q32

-- a blank block is one of the blocks
pub blanks-below : (blocks : List ℕ) (k : ℕ) → k < length (blanks_of blocks) → get_or (blanks_of blocks) k 256 < rows blocks
blanks-below blocks k h = rising-below (blanks-rising blocks (rows blocks) (rows blocks) 0 (omega arith)) k h
  where
    rising-below : {high low : ℕ} {ds : List ℕ} → Rising high low ds → (k : ℕ) → k < length ds → get_or ds k 256 < high
    rising-below empty k h = absurd (omega arith)
    rising-below (next l u R) zero h = u
    rising-below (next l u R) (suc k) h = rising-below R k (omega arith)

-- what is in a list is there whatever the default
listed : (l : List ℕ) (k x : ℕ) → slice_get l k ≡ Some x → (k < length l) × (get_or l k 0 ≡ x)
listed l k x e = (slice_get_within l k x e, get_or_from_slice_get l k x 0 e)

module _ (count : ℕ) (blocks offered : List ℕ) where
  pub few-blanks : slice_get (blanks_of blocks) 3 ≡ None → length (blanks_of blocks) ≤ 3
  few-blanks z =
      by_less 3 (length (blanks_of blocks)) (λ h. absurd (none-some _ (sym z ∙ slice_get-get_or (blanks_of blocks) 3 0 h))) (λ h. h)

  pub four-blank : (b : ℕ) → Some b ≡ slice_get (blanks_of blocks) 3 → refused (refusal q32 b 0) ≡ offer_ask count blocks offered
  unfolding offer_ask blanks_ask in_order provided then
  four-blank b e =
      let (h, z) = listed (blanks_of blocks) 3 b (sym e) in
      rw (lt-leb (length (blanks_of blocks)) 3 h, z)

  pub three-blank : None ≡ slice_get (blanks_of blocks) 3
      → offer_ask count blocks offered ≡ in_order (offered_length_ask (length offered) ∷ offered_rows_ask count offered ∷ [])
  unfolding offer_ask blanks_ask in_order provided then
  three-blank z = rw (le-leb (length (blanks_of blocks)) 3 (few-blanks (sym z)))
