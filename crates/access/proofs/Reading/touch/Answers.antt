-- `access::Reading::touch` meets its contract.
use mathlib.Core.Path.{◌≡◌, refl, sym, ap, ◌∙◌}
use mathlib.Core.List.{List}
use Prim.Native.Nat.{ℕ, ◌*◌, ◌+◌, ◌≤◌}
use native.Mathlib.Omega.{arith}
use lib.ListN.{length, get_or}
use Rattle.model.specs.Table.{head_of}
use Rattle.table.proofs.Laws.{tables-size}
use Rattle.access.specs.State.{tables_by}
use Rattle.access.proofs.Outcomes.{none_more}
use Rattle.access.proofs.Fields.{touch-offset, offset-asked, touch-load, load-asked, touch-store, store-asked}
use Rattle.access.proofs.Reading.touch.Goals.{After-size-n, Else-n-x}
use Rattle.access.proofs.Reading.touch.Goals as goal

-- the record's size
size_is : (c : After-size-n) → c.size-n.result ≡ (tables_by c.args.tables.now).size c.args.x.t
size_is c = c.size-n.ensures.0 ∙ sym (tables-size _ _ _)

record Sized (c : Else-n-x) : Type 0 where
  size : c.size-n.result ≡ head_of c.args.tables.now.types.now c.args.x.t
  most : c.size-n.result ≤ 8
  row-exists : c.args.x.t * 9 + 9 ≤ length c.args.tables.now.types.now

known : (c : Else-n-x) → Sized c
known c =
    let e = c.size-n.ensures.0 in
    record { size = e; most = c.size-n.ensures.1; row-exists = c.size-n.ensures.2 (omega arith) }

pub returns-then-n-x : goal.returns-then-n-x
returns-then-n-x c =
    let size = size_is (goal.at.returns-then-n-x c).After-size-n in
    record {
      outcome = λ place. touch-offset _ _ _ _ _ _ _ _ _ _ size (omega arith) _;
      count = none_more refl (offset-asked _ _ _ _ _ _ _ size (omega arith));
    }

pub look-requires : goal.look-requires
look-requires c = let k = known (goal.at.look-requires c).Else-n-x in (omega arith, k.row-exists)

pub load-requires : goal.load-requires
load-requires c = let k = known (goal.at.load-requires c).Else-n-x in (omega arith, omega (arith, k.most))

pub returns-then-x : goal.returns-then-x
returns-then-x c =
    let size = size_is (goal.at.returns-then-x c).After-size-n in
    let (looks, registers, base, asked) = c.look.ensures in
    let r = c.load.ensures c.args.tables.now.types.now c.args.tables.now.tags.now in
    record {
      outcome = λ place. r.outcome place ∙ touch-load _ _ _ _ _ _ _ _ _ _ size (omega arith) _ (looks _) base c.if-x.true;
      count = r.count ∙ none_more (omega arith) (load-asked _ _ _ _ _ _ c.if-x.true);
    }

pub store-requires : goal.store-requires
store-requires c =
    let k = known (goal.at.store-requires c).Else-n-x in
    let asked = c.look.ensures.3 in
    (k.size, k.most, omega arith, k.row-exists, omega arith, omega arith)

pub returns : goal.returns
returns c =
    let size = size_is (goal.at.returns c).After-size-n in
    let (looks, registers, base, asked) = c.look.ensures in
    let r = c.store.ensures in
    record {
      outcome = λ place. r.outcome place
          ∙ touch-store _ _ _ _ _ _ _ _ _ _ size (omega arith) _ (looks _) base c.if-x.false _ (ap (λ (rs : List ℕ). get_or rs c.args.x.a 0) registers);
      count = r.count ∙ rw asked (ap (λ (k : ℕ). c.args.self.now.asked + k) (store-asked _ _ _ _ _ _ _ size (omega arith) _ base c.if-x.false));
    }
