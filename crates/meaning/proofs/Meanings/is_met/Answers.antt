-- `meaning::Meanings::is_met` meets its contract, kind by kind.
use mathlib.Core.Path.{sym, ◌∙◌}
use native.Mathlib.Omega.{arith}
use Rattle.meaning.proofs.ByKind.{meets-any, meets-ref, maybe-zero, meets-maybe, tagged-zero, meets-tagged, present-zero, meets-present}
use Rattle.meaning.proofs.ByKind.{meets-same, meets-rank, meets-run}
use Rattle.meaning.proofs.Meanings.is_met.Goals as goal

pub returns-then-kind-eq-ANY : goal.returns-then-kind-eq-ANY
returns-then-kind-eq-ANY c = meets-any c.args.self.now _ _ _ (sym c.kind-kind.ensures.0 ∙ c.if-kind-eq-ANY.true)

pub returns-in-1 : goal.returns-in-1
returns-in-1 c = meets-ref c.args.self.now _ _ _ c.record_type-t.ensures.0 c.starts.ensures (sym c.kind-kind.ensures.0 ∙ c.in-1.is)

pub returns-then-p-eq0 : goal.returns-then-p-eq0
returns-then-p-eq0 c = maybe-zero c.args.self.now _ _ _ (sym c.kind-kind.ensures.0 ∙ c.in-2.is) c.if-p-eq0.true

pub returns-else-p-eq0 : goal.returns-else-p-eq0
returns-else-p-eq0 c =
    meets-maybe c.args.self.now _ _ _ c.record_type-t.ensures.0 c.starts-else-p-eq0.ensures (sym c.kind-kind.ensures.0 ∙ c.in-2.is) c.if-p-eq0.false

pub returns-then-p-eq0-2 : goal.returns-then-p-eq0-2
returns-then-p-eq0-2 c = tagged-zero c.args.self.now _ _ _ (sym c.kind-kind.ensures.0 ∙ c.in-3.is) c.if-p-eq0-2.true

pub returns-else-p-eq0-2 : goal.returns-else-p-eq0-2
returns-else-p-eq0-2 c =
    meets-tagged c.args.self.now _ _ _ c.first.ensures c.is_tagged.ensures (sym c.kind-kind.ensures.0 ∙ c.in-3.is) c.if-p-eq0-2.false

pub returns-then-p-ne0 : goal.returns-then-p-ne0
returns-then-p-ne0 c =
    meets-present c.args.self.now _ _ _ c.first-then-p-ne0.ensures c.is_tagged-then-p-ne0.ensures (sym c.kind-kind.ensures.0 ∙ c.in-4.is) c.if-p-ne0.true

pub returns-else-p-ne0 : goal.returns-else-p-ne0
returns-else-p-ne0 c = present-zero c.args.self.now _ _ _ (sym c.kind-kind.ensures.0 ∙ c.in-4.is) c.if-p-ne0.false

pub returns-in-5 : goal.returns-in-5
returns-in-5 c = meets-same c.args.self.now _ _ _ c.first-in-5.ensures (sym c.kind-kind.ensures.0 ∙ c.in-5.is)

pub returns-then-is_placed : goal.returns-then-is_placed
returns-then-is_placed c =
    meets-run c.args.self.now _ _ _ c.first-d.ensures c.record_type-t.ensures.0 c.second-e.ensures c.kind-kind.ensures.0 (omega arith)
    (c.is_placed.ensures _ _) c.if-is_placed.true c.is_run.ensures

pub returns-else-is_placed : goal.returns-else-is_placed
returns-else-is_placed c =
    meets-rank c.args.self.now _ _ _ c.first-d.ensures c.record_type-t.ensures.0 c.second-e.ensures c.kind-kind.ensures.0 (omega arith)
    (c.is_placed.ensures _ _) c.if-is_placed.false
