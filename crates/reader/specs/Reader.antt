-- How a line is read: one byte after the other, from a state that is data. The state after bytes is a fold.
use Rattle.std.specs.Prelude.{◌≡◌, true, ℕ, ◌+◌, ◌-◌, ◌*◌, ◌%◌, ◌<◌, ◌≤◌, List, [], ◌∷◌, Option, None, Some, ◌==◌, nat_lt, slice_set}
use Rattle.reader.specs.declared.Line.{Line}
use Rattle.reader.specs.declared.Pools.{Pools}
use Rattle.model.specs.Question.{pick}
use Rattle.grammar.specs.declared.Form.{Form}
use Rattle.grammar.specs.declared.Form.TheVariants.{Check}
use Rattle.grammar.specs.declared.Part.{Part}
use Rattle.grammar.specs.Grammar.{pool, row_length, parts_most, longs_most, long_end, is_table, given, part_at, bound, wanted, begun, named}
use Rattle.grammar.specs.declared.Phase.{Phase}
use Rattle.grammar.specs.declared.Phase.TheVariants.{Empty, Name, Gap, Zero, Prefix, Comment, Malformed}
use Rattle.grammar.specs.Phase.{in_number, blank, hash, space}
use Rattle.numeral.specs.Digit.{numeral, ex, base, digit_to}

-- ---- the state

-- a line so far, and what it has put into the pools: words, where each part of them ends, and long numbers
pub record Reader : Type 0 where
  pub line : Line
  pub words : List ℕ
  pub ends : List ℕ
  pub longs : List ℕ

-- a line over lists
abbrev pub reader_over : Line → List ℕ → List ℕ → List ℕ → Reader
reader_over l w e n = record { line = l; words = w; ends = e; longs = n }

-- a line over the pools of the code
abbrev pub reader : Line → Pools → Reader
reader l p = reader_over l p.words p.ends p.longs

abbrev pub on_line : Reader → Line → Reader
on_line r l = reader_over l r.words r.ends r.longs

-- nothing read yet
abbrev pub fresh_line : Line
fresh_line = record { phase = Empty; at = 0; stop = 0; value = 0; form = Check; part = 0; left = 0; used = 0; marked = 0; stored = 0 }

-- positions are counted modulo 2^64
abbrev pub past : ℕ → ℕ → ℕ
past at k = (at + k) % long_end

-- the line with another phase, position, place of a fault and value
abbrev pub line_of : Line → Phase → ℕ → ℕ → ℕ → Line
line_of l phase at stop value = record {
  phase = phase;
  at = at;
  stop = stop;
  value = value;
  form = l.form;
  part = l.part;
  left = l.left;
  used = l.used;
  marked = l.marked;
  stored = l.stored;
}

-- the line between numbers, in a part, with so much of everything
abbrev pub placed : Line → ℕ → ℕ → ℕ → ℕ → ℕ → Line
placed l part left used marked stored = record {
  phase = Gap;
  at = l.at;
  stop = l.stop;
  value = 0;
  form = l.form;
  part = part;
  left = left;
  used = used;
  marked = marked;
  stored = stored;
}

-- the reader at another position
abbrev pub shifted : ℕ → Reader → Reader
shifted at r = on_line r (line_of r.line r.line.phase at r.line.stop r.line.value)

unfoldable pub malformed : Line → Line
malformed l = line_of l Malformed l.at l.at l.value

-- ---- numbers

abbrev pub kind : Line → Part
kind l = part_at l.form l.part

-- a number here must be below this
abbrev pub bound_of : Line → ℕ
bound_of l = bound (kind l) l.left l.used

-- the value with one more digit
abbrev pub grown : Line → ℕ → ℕ
grown l b = l.value * base l.phase + numeral b

-- one more digit of the number being read
unfoldable pub digit_read : Line → ℕ → Line
digit_read l b =
    pick (nat_lt (numeral b) (base l.phase))
    (pick (nat_lt (grown l b) (bound_of l)) (line_of l (digit_to l.phase (numeral b)) l.at l.stop (grown l b)) (malformed l))
    (malformed l)

-- a byte of a number: a digit, or the x after one 0
abbrev pub number_in : Phase → Line → ℕ → Line
number_in Zero l b = pick (b == ex) (line_of l Prefix l.at l.stop 0) (digit_read l b)
number_in _ l b = digit_read l b

unfoldable pub number_read : Line → ℕ → Line
number_read l b = number_in l.phase l b

-- ---- what is taken

-- the line at the beginning of the part after the one that is finished
unfoldable pub after : Line → ℕ → ℕ → ℕ → Line
after l used marked stored = placed l (l.part + 1) (given (part_at l.form (l.part + 1))) used marked stored

-- words of a part end at a place of the pool
unfoldable pub finished : Reader → ℕ → Reader
finished r used =
    let l = r.line in
    pick (nat_lt l.marked parts_most)
    (reader_over (after l used (l.marked + 1) l.stored) r.words (slice_set r.ends l.marked used) r.longs)
    (on_line r (malformed l))

-- a word
unfoldable pub word_taken : Reader → Reader
word_taken r =
    let l = r.line in
    let w = slice_set r.words l.used l.value in
    pick (nat_lt l.used pool)
    (pick (nat_lt l.left 2)
    (finished (reader_over l w r.ends r.longs) (l.used + 1))
    (reader_over (placed l l.part (l.left - 1) (l.used + 1) l.marked l.stored) w r.ends r.longs))
    (on_line r (malformed l))

-- a table's count
unfoldable pub count_taken : Reader → Reader
count_taken r =
    let l = r.line in
    pick (l.value == 0) (finished r l.used) (on_line r (placed l l.part l.value l.used l.marked l.stored))

-- a long number
unfoldable pub long_taken : Reader → Reader
long_taken r =
    let l = r.line in
    pick (nat_lt l.stored longs_most)
    (reader_over (after l l.used l.marked (l.stored + 1)) r.words r.ends (slice_set r.longs l.stored l.value))
    (on_line r (malformed l))

-- the number being read is at its end
unfoldable pub taken : Reader → Reader
taken r = pick (nat_lt 0 r.line.left) (word_taken r) (pick (is_table (kind r.line)) (count_taken r) (long_taken r))

-- ---- a byte

-- the letters of a name, and the blank that ends it; letters from this number on could not be followed by one more
abbrev pub letters_end : ℕ
letters_end = 281474976710656

abbrev pub first_part : Line → Form → Line
first_part l form = record {
  phase = Gap;
  at = l.at;
  stop = l.stop;
  value = 0;
  form = form;
  part = 0;
  left = given (part_at form 0);
  used = 0;
  marked = 0;
  stored = 0;
}

-- at the beginning of the first part of the request with the name, if there is one
abbrev pub name_ended : Line → Option Form → Line
name_ended l None = malformed l
name_ended l (Some form) = first_part l form

unfoldable pub name_read : Line → ℕ → Line
name_read l b =
    pick (blank b)
    (name_ended l (named l.value))
    (pick (nat_lt l.value letters_end)
    (pick (begun (l.value * 256 + b)) (line_of l Name l.at l.stop (l.value * 256 + b)) (malformed l))
    (malformed l))

unfoldable pub first_read : Line → ℕ → Line
first_read l b = pick (blank b) l (pick (b == hash) (line_of l Comment l.at l.stop 0) (name_read l b))

-- a blank between numbers, or after one; 0x alone is none
abbrev pub blank_in : Phase → Reader → Reader
blank_in Gap r = r
blank_in Prefix r = on_line r (malformed r.line)
blank_in _ r = taken r

unfoldable pub blank_read : Reader → Reader
blank_read r = blank_in r.line.phase r

-- a byte that is not the line's end, but for the position
abbrev pub act_in : Phase → Reader → ℕ → Reader
act_in Empty r b = on_line r (first_read r.line b)
act_in Name r b = on_line r (name_read r.line b)
act_in Comment r b = r
act_in Malformed r b = r
act_in _ r b = pick (blank b) (blank_read r) (on_line r (number_read r.line b))

unfoldable pub act : Reader → ℕ → Reader
act r b = act_in r.line.phase r b

unfoldable pub step : Reader → ℕ → Reader
step r b = shifted (past r.line.at 1) (act r b)

-- ---- a line

unfoldable pub reads : Reader → List ℕ → Reader
reads r [] = r
reads r (b ∷ bs) = reads (step r b) bs

-- a request that still wants a number is malformed
abbrev pub settled_in : Phase → Line → Line
settled_in Gap l = pick (wanted (kind l) l.left) (malformed l) l
settled_in _ l = l

unfoldable pub settled : Line → Line
settled l = settled_in l.phase l

-- the line's end ends a number or a name as a blank does
unfoldable pub at_end : Reader → Reader
at_end r = let t = act r space in on_line t (settled t.line)

-- ---- what every line that was read so far keeps

pub record Fine (l : Line) : Type 0 where
  pub used : l.used ≤ pool
  pub part : l.part ≤ row_length
  pub inside : 0 < l.left → l.part < row_length
  pub number : in_number l.phase ≡ true → (l.part < row_length) × (l.value < bound_of l)
  pub gap : l.phase ≡ Gap → l.value ≡ 0
  pub counted : l.at < long_end
