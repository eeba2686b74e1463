-- Laws of a record's fields: names and type words, sizes, looks, loads and stores.
use mathlib.Core.Path.{◌≡◌, refl, sym, ap, ◌∙◌}
use mathlib.Core.Bool.{Bool, true, false, not}
use mathlib.Core.List.{List, [], ◌∷◌, ◌++◌}
use Prim.Native.Nat.{ℕ, zero, suc, ◌+◌, ◌*◌, ◌%◌, ◌<◌, ◌≤◌}
use native.Mathlib.Numerals.{add-one, unary_clauses}
use native.Mathlib.Omega.{arith}
use lib.Dec.{ltb, eqb}
use lib.ListN.{length, get_or, set, take, drop, length-set, take-append-drop, drop_of_length-le}
use lib.Seq.{drop-cons, drop-set-lt}
use Rattle.std.proofs.lemmas.List.{append_assoc}
use Rattle.std.proofs.lemmas.Grind.{take-set_at}
use borrow.Author.Tests.{lt-ltb, le-ltb, eq-eqb, ne_eqb}
use Rattle.std.specs.Prelude.{Some, None}
use Rattle.model.specs.Question.{◌or◌, provided, ok, refused}
use Rattle.model.specs.declared.questions.Question.{Question}
use Rattle.model.specs.declared.questions.Question.TheVariants.{Reference as q10, Offset as q11, OtherRecord as q12, LockedField as q23}
use Rattle.model.specs.declared.questions.Refusal.{Refusal}
use Rattle.model.specs.Word.{locked_of, opcode_of, a_of, b_of, c_of}
use Rattle.model.specs.Table.{Tables, tables_of, locked, head_of, words_of}
use Rattle.model.specs.Machine.{load, store, to_store}
use Rattle.model.specs.Reading.{row_fits, Reading, laid_at, up_from, born, put_register, no_base, viewed, look, fresh, loaded, stored}
use Rattle.model.specs.Check.{value_in, with_reference, reference_in, may_touch, permits, on_record, read_plain}
use Rattle.model.specs.Cost.{plain_asked}
use Rattle.model.proofs.Logic.{by_test, by_equality}
use Rattle.model.proofs.Lists.{map-set, get_or-past}
use Rattle.table.proofs.Laws.{head_at, tables-size, tables-words}
use Rattle.known.specs.Numbers.{frame_of, values_of}
use Rattle.known.proofs.Numbers.{frames-set}
use Rattle.instruction.specs.Form.{plain_of, Inside}
use Rattle.access.specs.declared.Reading.{Reading as Held}
use Rattle.access.specs.State.{view_of, views_of, reading, placing, load_ask, on_store, store_ask, store_asked, touched, touch_asked}

-- ---- names and type words

pub laid_on : (l : List ℕ) (j j' : ℕ) (xs : List ℕ) (k x : ℕ) → k < length xs → j' ≡ j + 1 → x ≡ get_or xs k 0
    → laid_at l j (drop k xs) ≡ laid_at (set l j x) j' (drop (k + 1) xs)
unfolding laid_at
laid_on l j j' xs k x h e ex = let z : j' ≡ suc j = omega arith in rw (z, ex, drop-cons xs k 0 h, add-one k)

pub laid_end : (l : List ℕ) (j : ℕ) (xs : List ℕ) (k : ℕ) → length xs ≤ k → laid_at l j (drop k xs) ≡ l
unfolding laid_at
laid_end l j xs k h = rw (drop_of_length-le xs h)

pub laid-start : (l : List ℕ) (j j' : ℕ) (xs : List ℕ) → j' ≡ j → laid_at l j xs ≡ laid_at l j' (drop 0 xs)
laid-start l j j' xs e = rw e

-- a list laid into another stands in the place of as many
laid-middle : (xs l : List ℕ) (a : ℕ) → a + length xs ≤ length l → laid_at l a xs ≡ take a l ++ (xs ++ drop (length xs) (drop a l))
unfolding laid_at
laid-middle [] l a h = sym (take-append-drop a l)
laid-middle (x ∷ xs) l a h =
    let inside : a < length l = omega arith in
    laid-middle xs (set l a x) (suc a) (omega (arith, length-set l a x))
    ∙ rw (take-set_at l a (suc a) x (omega arith) inside, drop-set-lt (suc a) l a x (omega arith), drop-cons l a 0 inside)
    (append_assoc (take a l) (x ∷ []) _)

pub laid-part : (l : List ℕ) (a k : ℕ) (xs ys : List ℕ) → ys ≡ xs → k ≡ length xs → a + length xs ≤ length l → take a l ++ (ys ++ drop k (drop a l)) ≡ laid_at l a xs
laid-part l a k xs ys ey ek h = rw (ey, ek) (sym (laid-middle xs l a h))

pub names-are : (f : ℕ) → f ∷ (f + 1) ∷ (f + 2) ∷ (f + 3) ∷ (f + 4) ∷ (f + 5) ∷ (f + 6) ∷ (f + 7) ∷ [] ≡ up_from f 8
unfolding up_from
names-are f = simp unary_clauses

-- ---- sizes

pub size-past : (types : List ℕ) (t : ℕ) → length types ≤ t * 9 → 0 ≡ head_of types t
size-past types t h = sym (head_at types t ∙ get_or-past types (t * 9) 0 h)

pub size-at : (types : List ℕ) (t : ℕ) → get_or types (t * 9) 0 ≡ head_of types t
size-at types t = sym (head_at types t)

-- ---- looks

views-at : (l : List ℕ) (v : ℕ) → view_of (get_or l v 0) ≡ get_or (views_of l) v 0
unfolding views_of
views-at [] v = refl
views-at (x ∷ l) zero = refl
views-at (x ∷ l) (suc v) = views-at l v

views-set : (l : List ℕ) (v x : ℕ) → views_of (set l v x) ≡ set (views_of l) v (view_of x)
unfolding views_of
views-set l v x = map-set view_of l v x

module _ (types tags : List ℕ) (held : Held) (g v t : ℕ) where
  abbrev 𝒯₀ : Tables
  𝒯₀ = tables_of types tags

  pub look-open : held.base < 256 → reading held ≡ look 𝒯₀ (reading held) g v t
  unfolding look
  look-open h = rw (lt-ltb held.base 256 h)

  module _ (h : 256 ≤ held.base) (x : ℕ) (ex : x ≡ get_or held.views v 0) where
    sees : x % 32 ≡ get_or (views_of held.views) v 0
    sees = rw ex (views-at held.views v)

    pub look-seen : held.since < x % 32 → (fields' : List ℕ) → fields' ≡ up_from (8 * (x % 32)) 8
        → reading (record held { fields = fields' }) ≡ look 𝒯₀ (reading held) g v t
    unfolding look
    look-seen l fields' ef = rw (le-ltb held.base 256 h, ← sees, lt-ltb held.since (x % 32) l, ef)

    -- the reading with new fields, born at g
    abbrev pub with-fields : List ℕ → List ℕ → Reading
    with-fields words' fields' =
        let values = record held.values { words = words'; frames = set held.values.frames g g; constants = set held.values.constants g 0 } in
        reading (record held { values = values; views = set held.views v g; fields = fields' })

    pub look-born : x % 32 ≤ held.since → g < 32 → (row words' fields' : List ℕ) → row ≡ words_of types t
        → words' ≡ laid_at held.values.words (8 * g) row → fields' ≡ up_from (8 * g) 8 → with-fields words' fields' ≡ look 𝒯₀ (reading held) g v t
    unfolding look viewed born tables_of
    look-born l s row words' fields' er ew ef =
        let z : g % 32 ≡ g = omega arith in
        rw (le-ltb held.base 256 h, ← sees, le-ltb held.since (x % 32) l, ew, er, ef, frames-set held.values.frames g g, views-set held.views v g, z)

-- ---- new values

pub fresh-is : (held : Held) (a g w f k : ℕ)
    → reading (record held {
      registers = set held.registers a (8 * g);
      values = record { words = set held.values.words (8 * g) w; frames = set held.values.frames g f; constants = set held.values.constants g k };
    }) ≡ fresh (reading held) g a w (frame_of f) k
unfolding fresh born laid_at
fresh-is held a g w f k = rw (frames-set held.values.frames g f)

-- ---- Q23 and Q12

pub may-store : (types tags : List ℕ) (t c w : ℕ) (b : Bool) → w ≡ get_or (words_of types t) c 0 → b ≡ locked_of w
    → not b ≡ permits (tables_of types tags) to_store t c
unfolding locked tables_of
may-store types tags t c w b ew eb = rw (eb, ew)

module _ (base v : ℕ) where
  pub touch-free : 256 ≤ base → true ≡ not (ltb base no_base) or eqb base v
  unfolding ◌or◌
  touch-free h = rw (le-ltb base 256 h)

  pub touch-own : base < 256 → eqb base v ≡ not (ltb base no_base) or eqb base v
  unfolding ◌or◌
  touch-own h = rw (lt-ltb base 256 h)

-- ---- the parts of a word

pub record Parts (w a b c : ℕ) : Type 0 where
  pub a-is : a ≡ a_of w
  pub b-is : b ≡ b_of w
  pub c-is : c ≡ c_of w

module _ {w a b c : ℕ} (p : Parts w a b c) where
  plain-load : opcode_of w ≡ 8 → plain_of w ≡ load a b c
  unfolding plain_of
  plain-load e = rw (e, ← p.a-is, ← p.b-is, ← p.c-is)

  plain-store : opcode_of w ≡ 9 → plain_of w ≡ store a b c
  unfolding plain_of
  plain-store e = rw (e, ← p.a-is, ← p.b-is, ← p.c-is)

-- ---- loads and stores

module _ (𝒯 : Tables) (place : Question → Refusal) (a v c : ℕ) (st : Reading) where
  pub load-own : may_touch 𝒯 st v ≡ true → placing place (ok tt) (put_register st a (get_or st.fields c 0)) ≡ load_ask 𝒯 place a v c st
  unfolding placing load_ask provided loaded
  load-own m = rw m

  pub load-other : may_touch 𝒯 st v ≡ false → (st' : Reading) → placing place (refused q12) st' ≡ load_ask 𝒯 place a v c st
  unfolding placing load_ask provided
  load-other m st' = rw m

module _ (𝒯 : Tables) (place : Question → Refusal) (g v t c x : ℕ) (st : Reading) where
  pub store-locked : permits 𝒯 to_store t c ≡ false → (st' : Reading) → placing place (refused q23) st' ≡ store_ask 𝒯 place g v t c x st
  unfolding placing store_ask on_store provided
  store-locked l st' = rw l

  module _ (l : permits 𝒯 to_store t c ≡ true) where
    pub store_other : may_touch 𝒯 st v ≡ false → (st' : Reading) → placing place (refused q12) st' ≡ store_ask 𝒯 place g v t c x st
    unfolding placing store_ask on_store provided
    store_other m st' = rw (l, m)

    store-own : may_touch 𝒯 st v ≡ true → (st' : Reading) → st' ≡ stored 𝒯 st g v t c x → placing place (ok tt) st' ≡ store_ask 𝒯 place g v t c x st
    unfolding placing store_ask on_store provided
    store-own m st' es = rw (l, m, es)

module _ (types tags : List ℕ) (place : Question → Refusal) (held : Held) (g v t c x n : ℕ) (l : permits (tables_of types tags) to_store t c ≡ true)
    (m : may_touch (tables_of types tags) (reading held) v ≡ true) (row : List ℕ) (f : Bool) (en : n ≡ head_of types t) (er : row ≡ words_of types t)
    (ef : f ≡ row_fits (tables_of types tags) (values_of held.values 0 0) n row (set held.fields c x))
    (held' : Held) (e : held' ≡ record held { fields = set held.fields c x }) where
  abbrev past : Reading
  past = stored (tables_of types tags) (reading held) g v t c x

  closes : f ≡ true → reading (record held' { since = g; base = 256 }) ≡ past
  unfolding stored
  closes q = rw (e, tables-size types tags t, tables-words types tags t, ← en, ← er, ← ef, q)

  holds : f ≡ false → reading (record held' { base = v }) ≡ past
  unfolding stored
  holds q = rw (e, tables-size types tags t, tables-words types tags t, ← en, ← er, ← ef, q)

  pub store-closes : f ≡ true → placing place (ok tt) (reading (record held' { since = g; base = 256 })) ≡ store_ask (tables_of types tags) place g v t c x (reading held)
  store-closes q = store-own (tables_of types tags) place g v t c x (reading held) l m _ (closes q)

  pub store-holds : f ≡ false → placing place (ok tt) (reading (record held' { base = v })) ≡ store_ask (tables_of types tags) place g v t c x (reading held)
  store-holds q = store-own (tables_of types tags) place g v t c x (reading held) l m _ (holds q)

module _ (𝒯 : Tables) (place : Question → Refusal) (g : ℕ) (loads : Bool) (a v t c : ℕ) (st : Reading) (n : ℕ) (en : n ≡ 𝒯.size t) where
  pub touch-offset : n ≤ c → (st' : Reading) → placing place (refused q11) st' ≡ touched 𝒯 place g loads a v t c st
  unfolding placing touched provided
  touch-offset q st' = rw (← en, le-ltb c n q)

  module _ (q : c < n) (st' : Reading) (es : st' ≡ look 𝒯 st g v t) (eb : st'.base ≡ st.base) where
    as_before : may_touch 𝒯 st' v ≡ may_touch 𝒯 st v
    as_before = ap (λ (b : ℕ). not (ltb b no_base) or eqb b v) eb

    pub touch-load : loads ≡ true → load_ask 𝒯 place a v c st' ≡ touched 𝒯 place g loads a v t c st
    unfolding touched load_ask provided
    touch-load e = rw (as_before, ← en, lt-ltb c n q, e, ← es)

    pub touch-store : loads ≡ false → (x : ℕ) → x ≡ value_in st a → store_ask 𝒯 place g v t c x st' ≡ touched 𝒯 place g loads a v t c st
    unfolding touched store_ask on_store provided
    touch-store e x ex = rw (ex, as_before, ← en, lt-ltb c n q, e, ← es)

module _ {w a b c : ℕ} (p : Parts w a b c) (f : Inside 8 w) (𝒯 : Tables) (place : Question → Refusal) (g : ℕ) (st : Reading) where
  pub access-nothing : None ≡ reference_in 𝒯 st b → (st' : Reading) → placing place (refused q10) st' ≡ read_plain 𝒯 place g (plain_of w) st
  unfolding placing read_plain on_record with_reference
  access-nothing er st' =
      by_equality (opcode_of w) 8 (λ e. rw (plain-load p e, ← er)) (λ n. rw (plain-store p (omega arith), ← er))

  pub access-on : (t : ℕ) → Some t ≡ reference_in 𝒯 st b → (o : ℕ) → o ≡ opcode_of w
      → touched 𝒯 place g (eqb o 8) a (value_in st b) t c st ≡ read_plain 𝒯 place g (plain_of w) st
  unfolding read_plain on_record with_reference touched
  access-on t er o eo =
      by_equality o 8 (λ e. rw (plain-load p (sym eo ∙ e), ← er, eq-eqb o 8 e))
      (λ n. rw (plain-store p (omega arith), ← er, ne_eqb o 8 n))

-- ---- the fit questions that a load or a store puts

module _ (𝒯 : Tables) (v t c : ℕ) (st : Reading) where
  pub locked-asked : permits 𝒯 to_store t c ≡ false → 0 ≡ store_asked 𝒯 v t c st
  unfolding store_asked on_store provided
  locked-asked l = rw l

  module _ (l : permits 𝒯 to_store t c ≡ true) where
    pub other-asked : may_touch 𝒯 st v ≡ false → 0 ≡ store_asked 𝒯 v t c st
    unfolding store_asked on_store provided
    other-asked m = rw (l, m)

    pub own-asked : may_touch 𝒯 st v ≡ true → 𝒯.size t ≡ store_asked 𝒯 v t c st
    unfolding store_asked on_store provided
    own-asked m = rw (l, m)

  pub load-asked : (loads : Bool) → loads ≡ true → 0 ≡ touch_asked 𝒯 loads v t c st
  unfolding touch_asked
  load-asked loads e = rw e

  module _ (loads : Bool) (n : ℕ) (en : n ≡ 𝒯.size t) where
    pub offset-asked : n ≤ c → 0 ≡ touch_asked 𝒯 loads v t c st
    unfolding touch_asked provided
    offset-asked q = rw (← en, le-ltb c n q) (by_test loads (λ e. rw e) (λ e. rw e))

    pub store-asked : c < n → (st' : Reading) → st'.base ≡ st.base → loads ≡ false → store_asked 𝒯 v t c st' ≡ touch_asked 𝒯 loads v t c st
    unfolding touch_asked store_asked on_store provided
    store-asked q st' eb e = rw (eb, e, ← en, lt-ltb c n q)

module _ {w a b c : ℕ} (p : Parts w a b c) (f : Inside 8 w) (𝒯 : Tables) (st : Reading) where
  pub nothing-asked : None ≡ reference_in 𝒯 st b → 0 ≡ plain_asked 𝒯 (plain_of w) st
  unfolding plain_asked on_record with_reference
  nothing-asked er = by_equality (opcode_of w) 8 (λ e. rw (plain-load p e)) (λ n. rw (plain-store p (omega arith), ← er))

  pub access-asked : (t : ℕ) → Some t ≡ reference_in 𝒯 st b → (o : ℕ) → o ≡ opcode_of w
      → touch_asked 𝒯 (eqb o 8) (value_in st b) t c st ≡ plain_asked 𝒯 (plain_of w) st
  unfolding plain_asked on_record with_reference touch_asked store_asked on_store
  access-asked t er o eo =
      by_equality o 8 (λ e. rw (plain-load p (sym eo ∙ e), eq-eqb o 8 e))
      (λ n. rw (plain-store p (omega arith), ← er, ne_eqb o 8 n))
