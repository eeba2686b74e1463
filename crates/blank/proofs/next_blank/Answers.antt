-- `blank::next_blank` meets its contract.
use mathlib.Core.Path.{sym, ◌∙◌}
use native.Mathlib.Omega.{arith}
use Rattle.table.proofs.Laws.{own-eight}
use Rattle.blank.proofs.Laws.{blank-is, blanks-on, blanks-here, blanks-end}
use Rattle.blank.proofs.next_blank.Goals as goal

pub is_blank-requires : goal.is_blank-requires
is_blank-requires c = own-eight _ _ _ (omega arith) c.type_words.ensures

pub returns-then-is_blank : goal.returns-then-is_blank
returns-then-is_blank c =
    let blank = sym (c.is_blank.ensures ∙ blank-is _ _ _ c.type_words.ensures) ∙ c.if-is_blank.true in
    (omega arith, c.loop-b.invariant ∙ blanks-here _ _ (omega arith) blank)

pub loop-b-preserved : goal.loop-b-preserved
loop-b-preserved c =
    c.loop-b.invariant ∙ blanks-on _ _ (omega arith) (sym (c.is_blank.ensures ∙ blank-is _ _ _ c.type_words.ensures) ∙ c.if-is_blank.false)

pub returns : goal.returns
returns c = c.loop-b.invariant ∙ blanks-end _ _ (omega arith)
