-- `table::lengths` meets its contract. The invariant: the blocks from b on come to what all come to, and starts is filled up to b.
use mathlib.Core.Path.{◌≡◌}
use mathlib.Core.List.{List}
use Prim.Native.Nat.{ℕ, ◌≤◌, ◌-◌}
use lib.ListN.{length}
use Rattle.model.specs.Table.{rows, start_of, blocks_ask, lengths_ask}
use Rattle.table.proofs.Answers.{Filled}
use Rattle.table.proofs.lengths.Given as goal

pub record Reached (blocks starts initial : List ℕ) (total b i : ℕ) : Type 0 where
  pub rest : lengths_ask blocks total ≡ blocks_ask blocks total (rows blocks - b) b i
  pub within : b ≤ rows blocks
  pub short : i ≤ total
  pub at : i ≡ start_of blocks b
  pub long : length starts ≡ length initial
  pub filled : Filled blocks starts b

abbrev pub invariant-loop-b : goal.invariant-loop-b
invariant-loop-b l = Reached l.blocks l.starts l.initial.starts (length l.code) l.b l.i
