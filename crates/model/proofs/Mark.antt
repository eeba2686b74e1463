-- The mark of a locked field stands apart from the rest of a type word.
use mathlib.Core.Path.{◌≡◌}
use Prim.Native.Nat.{ℕ, ◌^◌, ◌<◌}
use native.Mathlib.Omega.{arith}
use borrow.Author.Tests.{le-leb, lt-leb}
use Rattle.model.specs.Word.{kind_of, record_of, first_of, second_of}
use Rattle.model.specs.Types.{type_of}
use Rattle.model.specs.Table.{well_made}
use Rattle.model.specs.Locks.{locked_word, MarkApart, MarksApart}

module _ (w : ℕ) (h : w < 2 ^ 31) where
  same_kind : kind_of (locked_word w) ≡ kind_of w
  same_kind = omega arith

  same-record : record_of (locked_word w) ≡ record_of w
  same-record = omega arith

  same_first : first_of (locked_word w) ≡ first_of w
  same_first = omega arith

  same_second : second_of (locked_word w) ≡ second_of w
  same_second = omega arith

  same_type : type_of (locked_word w) ≡ type_of w
  unfolding type_of
  same_type = rw (same_kind, same-record, same_first, same_second)

  same-made : (count n : ℕ) → well_made count n (locked_word w) ≡ well_made count n w
  unfolding well_made
  same-made count n = rw (same_kind, same-record, same_first, same_second)

  mark-apart : MarkApart w
  mark-apart =
      record {
        marked = le-leb (2 ^ 31) (locked_word w) (omega arith);
        unmarked = lt-leb (2 ^ 31) w h;
        whole_byte = omega arith;
        same_type = same_type;
        allowed = same-made;
      }

pub marks-apart : MarksApart
marks-apart w h = mark-apart w h
