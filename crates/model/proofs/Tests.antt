-- What a test of the definitions comes to, once the code's own test has decided it: for the check's own search.
use mathlib.Core.Path.{◌≡◌, refl}
use mathlib.Core.Bool.{Bool, true, false, not}
pub use borrow.Author.Tests.{le-leb, lt-leb, le-ltb, lt-ltb, eq-eqb, ne_eqb}
use mathlib.Core.List.{List, [], ◌∷◌}
use Rattle.model.specs.Question.{◌and◌, ◌or◌, pick, provided, Refusal, Outcome, ok, refused, then, in_order}

pub true_and : (b : Bool) → true and b ≡ b
unfolding ◌and◌
true_and b = refl

pub false_and : (b : Bool) → false and b ≡ false
unfolding ◌and◌
false_and b = refl

pub true_or : (b : Bool) → true or b ≡ true
unfolding ◌or◌
true_or b = refl

pub false_or : (b : Bool) → false or b ≡ b
unfolding ◌or◌
false_or b = refl

pub pick-yes : {A : Type 0} (a b : A) → pick true a b ≡ a
pick-yes a b = refl

pub pick-no : {A : Type 0} (a b : A) → pick false a b ≡ b
pick-no a b = refl

pub provided-yes : {A : Type 0} (x : A) (k : Unit {0} → A) → provided true x k ≡ k tt
unfolding provided
provided-yes x k = refl

pub provided-no : {A : Type 0} (x : A) (k : Unit {0} → A) → provided false x k ≡ x
unfolding provided
provided-no x k = refl

pub not-yes : not true ≡ false
not-yes = refl

pub not-no : not false ≡ true
not-no = refl

-- ---- a row of questions, as `?` asks it

pub then-refused : {A B : Type 0} (r : Refusal) (k : A → Outcome B) → then (refused r) k ≡ refused r
unfolding then
then-refused r k = refl

pub then-ok : {A B : Type 0} (a : A) (k : A → Outcome B) → then (ok a) k ≡ k a
unfolding then
then-ok a k = refl

pub row-refused : (r : Refusal) (rest : List (Outcome (Unit {0}))) → in_order (refused r ∷ rest) ≡ refused r
unfolding in_order then
row-refused r rest = refl

pub row-ok : (u : Unit {0}) (rest : List (Outcome (Unit {0}))) → in_order (ok u ∷ rest) ≡ in_order rest
unfolding in_order then
row-ok u rest = refl

pub row_last : (q : Outcome (Unit {0})) → in_order (q ∷ []) ≡ q
unfolding in_order then
row_last (ok u) = refl
row_last (refused r) = refl

pub ruleset asked = (then-refused, then-ok, row-refused, row-ok, row_last)

-- ---- a test

pub ruleset decided = (
  le-leb,
  lt-leb,
  le-ltb,
  lt-ltb,
  eq-eqb,
  ne_eqb,
  true_and,
  false_and,
  true_or,
  false_or,
  pick-yes,
  pick-no,
  provided-yes,
  provided-no,
  not-yes,
  not-no,
)
