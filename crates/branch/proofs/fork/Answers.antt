-- `branch::fork` meets its contract: the taken edge, then the untaken one.
use mathlib.Core.Path.{refl}
use Rattle.known.proofs.Stands.{paired-nothing}
use Rattle.branch.proofs.Ends.{fork-taken, fork-untaken, fork-both, one-asked, both-asked}
use Rattle.branch.proofs.fork.Goals as goal

pub returns-then-not-edge : goal.returns-then-not-edge
returns-then-not-edge c =
    let e = c.from-i.ensures in
    let s = c.args.state.now in
    let no = c.if-not-edge.true in (
      λ place types.
          fork-taken _ _ _ _ _ s.values c.args.t.now _ (rw e at (c.edge.ensures types _ _ c.test-test.ensures)) no,
      λ types. one-asked _ _ _ s.values c.args.t.now _ (rw e at (c.edge.ensures types _ _ c.test-test.ensures)) no,
      refl,
    )

pub returns-then-not-edge-2 : goal.returns-then-not-edge-2
returns-then-not-edge-2 c =
    let e = c.from-i.ensures in
    let s = c.args.state.now in
    let yes = c.if-not-edge.false in (
      λ place types.
          fork-untaken _ _ _ _ _ s.values c.args.t.now _ (rw e at (c.edge.ensures types _ _ c.test-test.ensures)) yes _
          (rw e at (c.edge-2.ensures types 0 0 (paired-nothing _ refl))) c.if-not-edge-2.true,
      λ types. both-asked _ _ _ s.values c.args.t.now _ (rw e at (c.edge.ensures types _ _ c.test-test.ensures)) yes,
      refl,
    )

pub returns : goal.returns
returns c =
    let e = c.from-i.ensures in
    let s = c.args.state.now in
    let yes = c.if-not-edge.false in (
      λ place types.
          fork-both _ _ _ _ _ s.values c.args.t.now _ (rw e at (c.edge.ensures types _ _ c.test-test.ensures)) yes _
          (rw e at (c.edge-2.ensures types 0 0 (paired-nothing _ refl))) c.if-not-edge-2.false,
      λ types. both-asked _ _ _ s.values c.args.t.now _ (rw e at (c.edge.ensures types _ _ c.test-test.ensures)) yes,
      refl,
    )
