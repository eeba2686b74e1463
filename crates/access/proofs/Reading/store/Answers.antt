-- `access::Reading::store` meets its contract.
use mathlib.Core.Path.{refl, ◌≡◌, sym, ap, ◌∙◌}
use mathlib.Core.Bool.{true, not}
use Prim.Native.Nat.{ℕ, ◌+◌}
use native.Mathlib.Omega.{arith}
use lib.Dec.{ltb, eqb}
use Rattle.model.specs.Question.{◌or◌}
use Rattle.model.specs.Machine.{to_store}
use Rattle.model.specs.Check.{permits}
use Rattle.model.proofs.Logic.{test-false, test-true}
use Rattle.access.proofs.Outcomes.{none_more}
use Rattle.table.proofs.Laws.{tables-size}
use Rattle.access.proofs.Fields.{store-locked, locked-asked, store_other, other-asked, own-asked, store-closes, store-holds}
use Rattle.table.proofs.Laws.{part-is, part_length}
use Rattle.access.specs.declared.Reading.{Reading as Held}
use Rattle.access.specs.State.{reading, tables_by, store_asked}
use Rattle.access.proofs.Reading.store.Goals.{After-put}
use Rattle.access.proofs.Reading.store.Goals as goal

pub returns-then-not-may_store : goal.returns-then-not-may_store
returns-then-not-may_store c =
    let locked = test-false (c.may_store.ensures _) c.if-not-may_store.true-raw in
    record {
      outcome = λ place. store-locked _ _ _ _ _ _ _ _ locked _;
      count = none_more refl (locked-asked _ _ _ _ _ locked);
    }

pub returns-then-not-may_touch : goal.returns-then-not-may_touch
returns-then-not-may_touch c =
    let permitted = test-true (c.may_store.ensures _) c.if-not-may_store.false-raw in
    let other = test-false c.may_touch.ensures c.if-not-may_touch.true-raw in
    record {
      outcome = λ place. store_other _ _ _ _ _ _ _ _ permitted other _;
      count = none_more refl (other-asked _ _ _ _ _ permitted other);
    }

pub put-requires : goal.put-requires
put-requires c = omega (arith, part_length _ _ _ c.requires.3 c.row-own.ensures)

-- the reading as it is put, its fit questions counted
abbrev counted : After-put → Held
counted c = record c.args.self.now { asked = c.args.self.now.asked + c.args.n }

-- past Q23 and Q12: the two, and the fit questions that the store puts
record Own (c : After-put) : Type 0 where
  permitted : permits (tables_by c.args.tables.now) to_store c.args.x.t c.args.x.c ≡ true
  may-touch : (not (ltb c.args.self.now.base 256) or eqb c.args.self.now.base c.args.x.v) ≡ true
  asked : c.put.new.self.asked ≡ c.args.self.now.asked + store_asked (tables_by c.args.tables.now) c.args.x.v c.args.x.t c.args.x.c (reading c.args.self.now)

own : (c : After-put) → Own c
own c =
    let permitted = test-true (c.may_store.ensures _) c.if-not-may_store.false-raw in
    let may = test-true c.may_touch.ensures c.if-not-may_touch.false-raw in
    record {
      permitted = permitted;
      may-touch = may;
      asked = ap (λ (st : Held). st.asked) c.put.ensures.0
          ∙ ap (λ (k : ℕ). c.args.self.now.asked + k) (c.requires.0 ∙ sym (tables-size _ _ _) ∙ own-asked _ _ _ _ _ permitted may);
    }

pub returns-then-put : goal.returns-then-put
returns-then-put c =
    let o = own (goal.at.returns-then-put c).After-put in
    record {
      outcome = λ place. store-closes _ _ _ (counted (goal.at.returns-then-put c).After-put) _ _ _ _ _ _ o.permitted o.may-touch _ _ c.requires.0 (part-is _ _ _ c.row-own.ensures)
          (c.put.ensures.1 _) _ c.put.ensures.0 c.if-put.true;
      count = o.asked;
    }

pub returns : goal.returns
returns c =
    let o = own (goal.at.returns c).After-put in
    record {
      outcome = λ place. store-holds _ _ _ (counted (goal.at.returns c).After-put) _ _ _ _ _ _ o.permitted o.may-touch _ _ c.requires.0 (part-is _ _ _ c.row-own.ensures)
          (c.put.ensures.1 _) _ c.put.ensures.0 c.if-put.false;
      count = o.asked;
    }
