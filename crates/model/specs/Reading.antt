-- How a block is read: what values fit, loads and stores, the open record, edges.
use Rattle.std.specs.Prelude.{Bool, true, false, List, [], ◌∷◌, ℕ, zero, suc, ◌*◌, ◌%◌, ltb, leb, eqb, length, get_or, set, replicate, ℤ, pos, negsuc}
use Rattle.std.specs.Prelude.{Option}
use Rattle.std.specs.Prelude.{Some, None}
use Rattle.model.specs.Question.{◌and◌, ◌or◌, pick, every}
use Rattle.model.specs.Word.{with_kind, signed}
use Rattle.model.specs.Types.{Dep, name, Ty, any, ref, maybe, tagged, present, same, span, type_of, rename}
use Rattle.model.specs.Values.{Values, joined, typed, some, constants_of, known_equal}
use Rattle.model.specs.Table.{Tables}
use Rattle.model.specs.Machine.{End, halt, jump, if_equal, if_less}

-- ---- fits

module _ (𝒯 : Tables) where
  -- k is a tag of t
  unfoldable pub tag_of : ℕ → ℕ → Bool
  tag_of t k = ltb k (length 𝒯.tags) and eqb (get_or 𝒯.tags k 0) t

  unfoldable pub beyond : ℕ → Bool
  beyond k = leb (length 𝒯.tags) k

  unfoldable pub known_tag : Values → ℕ → Dep → Bool
  known_tag vs t d = some (tag_of t) (constants_of vs d)

  unfoldable pub known_zero : Values → ℕ → Bool
  known_zero vs v = some (eqb 0) (constants_of vs (name v))

  -- 01: 'Ref T: it is Ref T, In T, or Present whose dependency is a known tag of T'
  unfoldable pub is_ref : Values → ℕ → Ty → Bool
  is_ref vs t any = false
  is_ref vs t (ref u) = eqb u t
  is_ref vs t (maybe u) = false
  is_ref vs t (tagged d) = false
  is_ref vs t (present d) = known_tag vs t d
  is_ref vs t (same d) = false
  is_ref vs t (span k u d e) = eqb k 2 and eqb u t

  -- 01: 'is Maybe T, or is Tagged and its dependency has a known constant that is a tag of T or beyond the table'
  unfoldable pub is_maybe : Values → ℕ → Ty → Bool
  is_maybe vs t any = false
  is_maybe vs t (ref u) = false
  is_maybe vs t (maybe u) = eqb u t
  is_maybe vs t (tagged d) = some (λ k. tag_of t k or beyond k) (constants_of vs d)
  is_maybe vs t (present d) = false
  is_maybe vs t (same d) = false
  is_maybe vs t (span k u d e) = false

  -- 01: 'is Tagged or Present of a known equal dependency; or is Ref T, In T or Maybe T where d is a known tag of T'
  unfoldable pub is_tagged : Values → Dep → Ty → Bool
  is_tagged vs d any = false
  is_tagged vs d (ref t) = known_tag vs t d
  is_tagged vs d (maybe t) = known_tag vs t d
  is_tagged vs d (tagged x) = known_equal vs x d
  is_tagged vs d (present x) = known_equal vs x d
  is_tagged vs d (same x) = false
  is_tagged vs d (span k t x e) = eqb k 2 and known_tag vs t d

  -- 01: 'Present d: the same without known 0, Tagged and Maybe'
  unfoldable pub is_present : Values → Dep → Ty → Bool
  is_present vs d any = false
  is_present vs d (ref t) = known_tag vs t d
  is_present vs d (maybe t) = false
  is_present vs d (tagged x) = false
  is_present vs d (present x) = known_equal vs x d
  is_present vs d (same x) = false
  is_present vs d (span k t x e) = eqb k 2 and known_tag vs t d

  -- 01: 'Run, From, In: the same kind or a later one of these three, same T, both dependencies known equal'
  unfoldable pub is_span : Values → ℕ → ℕ → Dep → Dep → Ty → Bool
  is_span vs k t d e any = false
  is_span vs k t d e (ref u) = false
  is_span vs k t d e (maybe u) = false
  is_span vs k t d e (tagged x) = false
  is_span vs k t d e (present x) = false
  is_span vs k t d e (same x) = false
  is_span vs k t d e (span j u x y) = leb k j and eqb u t and known_equal vs x d and known_equal vs y e

  -- 01: 'A value fits a type thus'
  unfoldable pub fits : Values → ℕ → Ty → Bool
  fits vs v any = true
  fits vs v (same d) = known_equal vs (name v) d
  fits vs v (ref t) = is_ref vs t (typed vs v)
  fits vs v (maybe t) = is_ref vs t (typed vs v) or known_zero vs v or is_maybe vs t (typed vs v)
  fits vs v (tagged d) = known_zero vs v or is_tagged vs d (typed vs v)
  fits vs v (present d) = is_present vs d (typed vs v)
  fits vs v (span k t d e) = is_span vs k t d e (typed vs v)

  -- each of n values fits its type word, read with the values for its names: a record that closes, an edge that meets
  unfoldable pub row_fits : Values → ℕ → List ℕ → List ℕ → Bool
  row_fits vs n row values =
      every n 0 (λ i. fits vs (get_or values i 0) (rename (λ g. get_or values g 0) (type_of (get_or row i 0))))

  -- ---- 01: 'A base holds a reference if it fits some Ref T'

  -- the type of the first of the constants that is a tag
  unfoldable pub first_tag : List ℕ → Option ℕ
  first_tag [] = None
  first_tag (k ∷ ks) = pick (ltb k (length 𝒯.tags)) (Some (get_or 𝒯.tags k 0)) (first_tag ks)

  unfoldable pub reference_of : Values → Ty → Option ℕ
  reference_of vs any = None
  reference_of vs (ref t) = Some t
  reference_of vs (maybe t) = None
  reference_of vs (tagged d) = None
  reference_of vs (present d) = first_tag (constants_of vs d)
  reference_of vs (same d) = None
  reference_of vs (span k t d e) = pick (eqb k 2) (Some t) None

-- ---- the state of a reading

-- The values; each register's value; by base value, the birthplace of the fields seen through it, valid if after the last close;
-- the birthplace of the last close; the base of the open record, 256 where none is open; the values of the fields of the record
-- at hand.
pub record Reading : Type 0 where
  pub values : Values
  pub registers : List ℕ
  pub views : List ℕ
  pub since : ℕ
  pub base : ℕ
  pub fields : List ℕ

-- a list laid into another from a place on
unfoldable pub laid_at : List ℕ → ℕ → List ℕ → List ℕ
laid_at l i [] = l
laid_at l i (x ∷ xs) = laid_at (set l i x) (suc i) xs

unfoldable pub zeros : ℕ → List ℕ
zeros n = replicate n 0

-- n numbers from i on
unfoldable pub up_from : ℕ → ℕ → List ℕ
up_from i zero = []
up_from i (suc n) = i ∷ up_from (suc i) n

-- 01: 'At entry each register holds its own value, typed by the annotation'
unfoldable pub entry : List ℕ → Reading
entry annotation =
    record {
      values = record {
        words = laid_at (zeros 256) 0 annotation;
        frames = zeros 32;
        constants = zeros 32;
        tested = 0;
        equal = 0;
        knowledge = joined;
      };
      registers = up_from 0 8;
      views = zeros 256;
      since = 0;
      base = 256;
      fields = zeros 8;
    }

-- values born at g: their type words, the frame they are read in, a constant
unfoldable pub born : Values → ℕ → List ℕ → ℕ → ℕ → Values
born vs g row frame constant =
    record {
      words = laid_at vs.words (8 * g) row;
      frames = set vs.frames g frame;
      constants = set vs.constants g constant;
      tested = vs.tested;
      equal = vs.equal;
      knowledge = vs.knowledge;
    }

abbrev pub put_register : Reading → ℕ → ℕ → Reading
put_register st a v =
    record {
      values = st.values;
      registers = set st.registers a v;
      views = st.views;
      since = st.since;
      base = st.base;
      fields = st.fields;
    }

-- register a holds a new value
unfoldable pub fresh : Reading → ℕ → ℕ → ℕ → ℕ → ℕ → Reading
fresh st g a word frame constant =
    record {
      values = born st.values g (word ∷ []) frame constant;
      registers = set st.registers a (8 * g);
      views = st.views;
      since = st.since;
      base = st.base;
      fields = st.fields;
    }

-- ---- opcode 7

abbrev pub power_of_two : ℕ → Bool
power_of_two z = eqb z 1 or eqb z 2 or eqb z 4 or eqb z 8

-- a question about the rank and the record type of a Run, From or In; no of every other type
unfoldable pub on_span : (ℕ → ℕ → Bool) → Ty → Bool
on_span f any = false
on_span f (ref t) = false
on_span f (maybe t) = false
on_span f (tagged d) = false
on_span f (present d) = false
on_span f (same d) = false
on_span f (span k t d e) = f k t

-- 01: 'opcode 7 on Run, From or In gives Run with the same T, d, e if the size is 1, 2, 4 or 8 and divides c'; for these sizes c
-- as it stands is a multiple exactly where the signed c is
unfoldable pub moves : Tables → Ty → ℕ → Bool
moves 𝒯 ty c = on_span (λ k t. power_of_two (𝒯.size t) and eqb (c % 𝒯.size t) 0) ty

-- a signed number is one size
abbrev pub is_size : ℕ → ℤ → Bool
is_size z (pos n) = eqb n z
is_size z (negsuc n) = false

-- 02, card 2: 'Opcode 7 on In with c equal to the size now gives From'
unfoldable pub walks : Tables → Ty → ℕ → Bool
walks 𝒯 ty c = on_span (λ k t. eqb k 2 and is_size (𝒯.size t) (signed c)) ty

-- 02, card 2: 'before the older rule'
unfoldable pub moved_word : Tables → ℕ → ℕ → ℕ
moved_word 𝒯 w c = pick (walks 𝒯 (type_of w) c) (with_kind 7 w) (pick (moves 𝒯 (type_of w) c) (with_kind 6 w) 0)

-- ---- loads and stores

abbrev pub no_base : ℕ
no_base = 256

abbrev pub is_open : Reading → Bool
is_open st = ltb st.base no_base

-- the fields seen through v are those of memory still
abbrev pub seen : Reading → ℕ → Bool
seen st v = ltb st.since (get_or st.views v 0)

unfoldable pub loaded : Reading → ℕ → ℕ → Reading
loaded st a c = put_register st a (get_or st.fields c 0)

abbrev pub viewed_before : Reading → ℕ → Reading
viewed_before st v =
    record {
      values = st.values;
      registers = st.registers;
      views = st.views;
      since = st.since;
      base = st.base;
      fields = up_from (8 * get_or st.views v 0) 8;
    }

module _ (𝒯 : Tables) where
  -- 01: 'A load gives the field's value, typed with sibling values of the same moment': all fields are born at once
  unfoldable pub viewed : Reading → ℕ → ℕ → ℕ → Reading
  viewed st g v t =
      record {
        values = born st.values g (𝒯.words t) (8 * g) 0;
        registers = st.registers;
        views = set st.views v g;
        since = st.since;
        base = st.base;
        fields = up_from (8 * g) 8;
      }

  -- The fields of the record behind v, at hand. 01: 'Two loads of one field through one value give the same value unless a store
  -- closed between them'; 'While open, a load through the same value gives the stored value, or else the old one typed with the
  -- siblings from before the record opened'
  unfoldable pub look : Reading → ℕ → ℕ → ℕ → Reading
  look st g v t = pick (is_open st) st (pick (seen st v) (viewed_before st v) (viewed st g v t))

  -- 01: 'A store opens the record of its base; after each store the record closes if each field, stored or old, fits its type'
  unfoldable pub stored : Reading → ℕ → ℕ → ℕ → ℕ → ℕ → Reading
  stored st g v t c x =
      let fields = set st.fields c x in
      let closes = row_fits 𝒯 st.values (𝒯.size t) (𝒯.words t) fields in
      record {
        values = st.values;
        registers = st.registers;
        views = st.views;
        since = pick closes g st.since;
        base = pick closes no_base v;
        fields = fields;
      }

-- ---- edges

-- the value ra has a constant
abbrev pub learned : Values → ℕ → ℕ → Values
learned vs v c =
    record {
      words = vs.words;
      frames = vs.frames;
      constants = vs.constants;
      tested = v;
      equal = suc c;
      knowledge = vs.knowledge;
    }

-- the value ra has another kind
abbrev pub rekinded : Values → ℕ → ℕ → Values
rekinded vs v kind =
    record {
      words = set vs.words v (with_kind kind (get_or vs.words v 0));
      frames = vs.frames;
      constants = vs.constants;
      tested = vs.tested;
      equal = vs.equal;
      knowledge = vs.knowledge;
    }

-- 01: 'Not taken with constant 0: Maybe becomes Ref, Tagged becomes Present'
unfoldable pub not_zero : Values → ℕ → Ty → Values
not_zero vs v any = vs
not_zero vs v (ref t) = vs
not_zero vs v (maybe t) = rekinded vs v 1
not_zero vs v (tagged d) = rekinded vs v 4
not_zero vs v (present d) = vs
not_zero vs v (same d) = vs
not_zero vs v (span k t d e) = vs

-- 01: 'Opcode 12 taken: From with rb known equal to e becomes In'
unfoldable pub below : Values → ℕ → ℕ → Ty → Values
below vs v w any = vs
below vs v w (ref t) = vs
below vs v w (maybe t) = vs
below vs v w (tagged d) = vs
below vs v w (present d) = vs
below vs v w (same d) = vs
below vs v w (span k t d e) = pick (eqb k 1 and known_equal vs (name w) e) (rekinded vs v 8) vs

-- 01: 'Not taken: Run with rb known equal to d becomes From'
unfoldable pub not_below : Values → ℕ → ℕ → Ty → Values
not_below vs v w any = vs
not_below vs v w (ref t) = vs
not_below vs v w (maybe t) = vs
not_below vs v w (tagged d) = vs
not_below vs v w (present d) = vs
not_below vs v w (same d) = vs
not_below vs v w (span k t d e) = pick (eqb k 0 and known_equal vs (name w) d) (rekinded vs v 7) vs

-- what the taken edge of a block's end tells, and the untaken one
unfoldable pub taken : End → Reading → Values
taken halt st = st.values
taken (jump t) st = st.values
taken (if_equal x k t) st = learned st.values (get_or st.registers x 0) k
taken (if_less x y t) st =
    let v = get_or st.registers x 0 in
    below st.values v (get_or st.registers y 0) (typed st.values v)

unfoldable pub untaken : End → Reading → Values
untaken halt st = st.values
untaken (jump t) st = st.values
untaken (if_equal x k t) st =
    let v = get_or st.registers x 0 in
    pick (eqb k 0) (not_zero st.values v (typed st.values v)) st.values
untaken (if_less x y t) st =
    let v = get_or st.registers x 0 in
    not_below st.values v (get_or st.registers y 0) (typed st.values v)
