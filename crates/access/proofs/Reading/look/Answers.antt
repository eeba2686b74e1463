-- `access::Reading::look` meets its contract.
use mathlib.Core.Path.{refl}
use native.Mathlib.Omega.{arith}
use Rattle.access.proofs.Fields.{look-open, look-seen, look-born}
use Rattle.table.proofs.Laws.{part-is, part_length, row_words}
use Rattle.access.proofs.Reading.look.Goals as goal

pub returns-then-self-lt-NO_BASE : goal.returns-then-self-lt-NO_BASE
returns-then-self-lt-NO_BASE c = (λ tags. look-open _ _ c.args.self.now _ _ _ (omega arith), refl, refl, refl)

pub returns-then-self-seen : goal.returns-then-self-seen
returns-then-self-seen c =
    (λ tags. look-seen _ _ c.args.self.now _ _ _ (omega arith) _ c.from-seen.ensures (omega arith) _ c.name_all.ensures, refl, refl, refl)

pub slice_bounds-copy_row-count : goal.slice_bounds-copy_row-count
slice_bounds-copy_row-count c = omega (arith, row_words _ _ _ c.requires.1 c.row-own.ensures)

pub slice_bounds-copy_row-start : goal.slice_bounds-copy_row-start
slice_bounds-copy_row-start c = omega (arith, row_words _ _ _ c.requires.1 c.row-own.ensures)

pub copy_row-requires : goal.copy_row-requires
copy_row-requires c = omega (arith, part_length _ _ _ c.requires.1 c.row-own.ensures)

pub returns : goal.returns
returns c = (
  λ tags. look-born _ _ c.args.self.now _ _ _ (omega arith) _ c.from-seen.ensures (omega arith) c.requires.0 _ _ _
      (part-is _ _ _ c.row-own.ensures) c.copy_row.ensures c.name_all-2.ensures,
  refl,
  refl,
  refl,
)
