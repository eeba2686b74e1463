-- Bytes read ahead: what is left of them comes to the same.
use Rattle.std.specs.Prelude.{◌≡◌, ℕ, ◌+◌, ◌<◌, ◌≤◌, Bool, false, List, length, drop, nat_lt}
use Rattle.grammar.specs.declared.Phase.{Phase}
use Rattle.grammar.specs.declared.Phase.TheVariants.{Gap, Digits}
use Rattle.numeral.specs.Scan.{scanned, scan_number}
use Rattle.reader.specs.declared.Line.{Line}
use Rattle.reader.specs.Reader.{Reader, on_line, past, line_of, shifted, bound_of, taken, reads, Fine}

-- from a place of the bytes to another
pub record Goes (bytes : List ℕ) (r s : Reader) (from to : ℕ) : Type 0 where
  pub same : reads r (drop from bytes) ≡ reads s (drop to bytes)
  pub on : from ≤ to
  pub within : to ≤ length bytes
  pub fine : Fine s.line

-- more than one word of a part comes next
abbrev pub words_in : Phase → ℕ → Bool
words_in Gap left = nat_lt 1 left
words_in _ left = false

unfoldable pub in_words : Line → Bool
in_words l = words_in l.phase l.left

-- the line between words, so many bytes further on, with so many words in the pool and left
abbrev pub gone_to : Line → ℕ → ℕ → ℕ → Line
gone_to l k used left = record {
  phase = Gap;
  at = past l.at k;
  stop = l.stop;
  value = 0;
  form = l.form;
  part = l.part;
  left = left;
  used = used;
  marked = l.marked;
  stored = l.stored;
}

-- ---- a number in one piece

-- one of so many bytes and a value stands at a place, and may be taken where the line stands
pub record Here (bytes : List ℕ) (at : ℕ) (l : Line) (k v : ℕ) : Type 0 where
  pub gap : l.phase ≡ Gap
  pub read : scanned k v ≡ scan_number (drop at bytes)
  pub room : v < bound_of l

-- in a number, with a phase and a value, so many bytes further on
abbrev pub inside : Reader → Phase → ℕ → ℕ → Reader
inside r phase v j = on_line r (line_of r.line phase (past r.line.at j) r.line.stop v)

-- a number of a value is taken at the blank that ends it, so many bytes further on
abbrev pub ended : Reader → ℕ → ℕ → Reader
ended r v j = shifted (past r.line.at (j + 1)) (taken (inside r Digits v j))
