-- `failures::put` meets its contract: what is appended of the bytes is what there is room for, so that it fits.
use Rattle.std.specs.Prelude.{◌≡◌, ℕ, ◌+◌, ◌≤◌, List, ◌++◌, length, take, Result, Ok, Err, IsOk, OnOk}
use Rattle.std.proofs.Common.{sym, ◌∙◌, ap, arith, rules}
use Prim.Native.Nat.{min}
use Rattle.std.proofs.lemmas.List.{take_min, length-take}
use Rattle.std.proofs.Math.Seq.{take-append-add}
use Rattle.terminal.proofs.failures.put.Goals as goal

module _ (n room m : ℕ) (old bytes : List ℕ) (left : room + length old ≡ n) (is : m ≡ min room (length bytes)) where
  fits : length old + length (take m bytes) ≤ n
  fits = rw (length-take m bytes) (omega (arith, left, is))

  cut : old ++ take m bytes ≡ take n (old ++ bytes)
  cut = rw (is, take_min room bytes) (sym (take-append-add old bytes room) ∙ ap (λ k. take k (old ++ bytes)) (omega (arith, left)))

on : {T E P : Type 0} (r : Result T E) → IsOk r → OnOk r P → P
on (Ok x) i p = p
on (Err e) i p = search rules

pub returns : goal.returns
returns c =
    let left = c.remaining_capacity.ensures in
    let is = c.min-room.ensures in
    let f = c.try_extend_from_slice.ensures in
    on _ (f.variant.1 (fits _ _ _ _ _ left is)) f.ok ∙ cut _ _ _ _ _ left is
