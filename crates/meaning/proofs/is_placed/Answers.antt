-- `meaning::is_placed` meets its contract, kind by kind.
use native.Mathlib.Omega.{arith}
use Rattle.meaning.proofs.ByKind.{rank-run, rank-from, rank-in, rank-below}
use Rattle.meaning.proofs.is_placed.Goals as goal

pub returns-in-6 : goal.returns-in-6
returns-in-6 c = λ 𝒯 allocations. rank-run 𝒯 allocations _ _ _ _ c.in-6.is

pub returns-in-7 : goal.returns-in-7
returns-in-7 c = λ 𝒯 allocations. rank-from 𝒯 allocations _ _ _ _ c.in-7.is

pub returns-then-d-p : goal.returns-then-d-p
returns-then-d-p c = λ 𝒯 allocations. rank-in 𝒯 allocations _ _ _ _ (omega arith) (omega arith)

pub returns-else-d-p : goal.returns-else-d-p
returns-else-d-p c = λ 𝒯 allocations. rank-below 𝒯 allocations _ _ _ _ (omega arith) (omega arith)
