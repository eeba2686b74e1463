-- `step::value` meets its contract: five choices.
use mathlib.Core.Path.{◌≡◌, refl}
use Prim.Native.Nat.{ℕ}
use lib.Dec.{eqb}
use borrow.Author.Tests.{lt-ltb, le-ltb, eq-eqb, ne_eqb}
use Rattle.model.specs.Question.{pick}
use Rattle.step.specs.Answer.{value_of}
use Rattle.step.proofs.value.Goals as goal
use Rattle.step.proofs.value.Goals.{then-op-eq-ADD, else-op-eq-ADD, then-op-eq-MULTIPLY, else-op-eq-MULTIPLY}
use Rattle.step.proofs.value.Goals.{then-op-eq-MOVE, else-op-eq-MOVE, then-op-eq-CONSTANT, else-op-eq-CONSTANT}

module _ (op k x y v : ℕ) where
  yes : op ≡ k → v ≡ x → v ≡ pick (eqb op k) x y
  yes h e = rw (eq-eqb op k h) e

  no : (op ≡ k → ⊥) → v ≡ y → v ≡ pick (eqb op k) x y
  no h e = rw (ne_eqb op k h) e

pub returns-then-op-lt-ADD : goal.returns-then-op-lt-ADD
unfolding value_of
returns-then-op-lt-ADD c =
    rw (lt-ltb c.args.op 3 c.if-op-lt-ADD.true)
    (elim c.if-op-eq-CONSTANT.branch [
      | then-op-eq-CONSTANT w ↦ yes _ _ _ _ _ w.if-op-eq-CONSTANT.true w.plain-is
      | else-op-eq-CONSTANT w ↦ no _ _ _ _ _ w.if-op-eq-CONSTANT.false w.plain-is
    ])

pub returns-else-op-lt-ADD : goal.returns-else-op-lt-ADD
unfolding value_of
returns-else-op-lt-ADD c =
    let pair : c.if-op-eq-ADD.pair ≡ pick (eqb c.args.op 3) c.sum-sum.result c.difference-difference.result =
    elim c.if-op-eq-ADD.branch [
      | then-op-eq-ADD w ↦ yes _ _ _ _ _ w.if-op-eq-ADD.true w.pair-is
      | else-op-eq-ADD w ↦ no _ _ _ _ _ w.if-op-eq-ADD.false w.pair-is
    ] in
    let three : c.if-op-eq-MULTIPLY.three ≡ pick (eqb c.args.op 5) c.product-product.result c.if-op-eq-ADD.pair =
    elim c.if-op-eq-MULTIPLY.branch [
      | then-op-eq-MULTIPLY w ↦ yes _ _ _ _ _ w.if-op-eq-MULTIPLY.true w.three-is
      | else-op-eq-MULTIPLY w ↦ no _ _ _ _ _ w.if-op-eq-MULTIPLY.false w.three-is
    ] in
    let more : c.if-op-eq-MOVE.more ≡ pick (eqb c.args.op 7) c.moved_by-moved.result c.if-op-eq-MULTIPLY.three =
    elim c.if-op-eq-MOVE.branch [
      | then-op-eq-MOVE w ↦ yes _ _ _ _ _ w.if-op-eq-MOVE.true w.more-is
      | else-op-eq-MOVE w ↦ no _ _ _ _ _ w.if-op-eq-MOVE.false w.more-is
    ] in
    rw (le-ltb c.args.op 3 c.if-op-lt-ADD.false, more, three, pair, c.sum-sum.ensures, c.difference-difference.ensures, c.product-product.ensures, c.moved_by-moved.ensures) refl
