-- The examples hold: each line is read, and says what is stated.
use Rattle.std.proofs.Common.{refl}
use Rattle.grammar.specs.Grammar.{row_of, part_at, bound, wanted, is_words, word_parts, long_parts, begins, begun, named}
use Rattle.grammar.specs.Phase.{blank}
use Rattle.numeral.specs.Digit.{numeral, base, digit_to}
use Rattle.reader.specs.Reader.{malformed, digit_read, number_read, after, finished, word_taken, count_taken, long_taken, taken}
use Rattle.reader.specs.Reader.{name_read, first_read, blank_read, act, step, reads, settled, at_end}
use Rattle.protocol.specs.Said.{said, start, line_says}
use Rattle.protocol.specs.Examples.{Examples}
use Rattle.protocol.proofs.Numbers.{reads-cut}

pub examples : Examples
unfolding line_says said start at_end settled reads step act first_read name_read blank_read number_read digit_read taken long_taken count_taken
    word_taken finished after wanted bound malformed digit_to base numeral blank named begun begins part_at row_of is_words word_parts long_parts
examples = record {
  empty = refl;
  blanks = refl;
  comment = refl;
  indented = refl;
  check = refl;
  memory = refl;
  entry = refl;
  run = refl;
  spaced = refl;
  nul = refl;
  unknown = refl;
  name_short = refl;
  name_cut = refl;
  name_long = refl;
  word_large = refl;
  hex_large = refl;
  long_large = refl;
  table_large = refl;
  prefix_alone = refl;
  prefix_last = refl;
  prefix_letter = refl;
  prefix_late = refl;
  prefix_capital = refl;
  letter = refl;
  too_few = refl;
  table_short = refl;
  left_over = refl;
  check_parts = refl;
  memory_parts = refl;
  entry_parts = refl;
  run_parts = refl;
  run_longs = refl;
  cut = reads-cut;
}
