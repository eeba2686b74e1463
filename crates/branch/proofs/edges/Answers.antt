-- `branch::edges` meets its contract: a law for each end.
use mathlib.Core.Path.{refl, ◌∙◌}
use Prim.Native.Nat.{◌<◌}
use native.Mathlib.Omega.{arith}
use Rattle.model.specs.Word.{opcode_of}
use Rattle.instruction.proofs.Parts.{known, registers}
use Rattle.known.proofs.Stands.{paired-nothing}
use Rattle.branch.proofs.Ends.{edges-halt, jump_no, jump-yes, fork-edges, halt-asked, jump-asked, fork-asked}
use Rattle.branch.proofs.edges.Goals as goal

pub learn-t-requires : goal.learn-t-requires
learn-t-requires c =
    let l = c.requires.1 (omega arith) in
    let r = registers _ c.requires.0 in
    (omega (arith, l), known _ c.requires.0, r.0, r.1)

pub returns-in-0 : goal.returns-in-0
returns-in-0 c =
    (λ P b leads place types. edges-halt _ P place b _ _ (omega arith), λ P b leads types. halt-asked _ P _ _ (omega arith), refl)

pub returns-then-edge : goal.returns-then-edge
returns-then-edge c = (
  λ P b leads place types.
      jump-yes _ P place b _ _ (omega arith) _ _ leads _ (c.edge.ensures types 0 0 (paired-nothing _ refl)) c.if-edge.true,
  λ P b leads types. jump-asked _ P _ _ (omega arith),
  refl,
)

pub returns-else-edge : goal.returns-else-edge
returns-else-edge c = (
  λ P b leads place types.
      jump_no _ P place b _ _ (omega arith) _ _ leads _ (c.edge.ensures types 0 0 (paired-nothing _ refl)) c.if-edge.false,
  λ P b leads types. jump-asked _ P _ _ (omega arith),
  refl,
)

pub returns-in_default : goal.returns-in_default
returns-in_default c =
    let l = c.requires.1 (omega arith) in
    let least : 10 < opcode_of c.args.word = omega (arith, l) in
    let most = known _ c.requires.0 in (
      λ P b leads place types. c.fork.ensures.0 place types ∙ fork-edges _ P place b _ _ _ _ leads least most _ _ c.learn-t.ensures,
      λ P b leads types. c.fork.ensures.1 types ∙ fork-asked _ P b _ _ _ _ leads least most _ _ c.learn-t.ensures,
      c.fork.ensures.2,
    )
