-- `meaning::Meanings::is_run` meets its contract: one entry of the table of owners tells how far the run goes.
use native.Mathlib.Omega.{arith}
use borrow.Author.Tests.{lt-ltb, le-ltb}
use Rattle.meaning.proofs.Runs.{and-goes-on, and-stops, run_is}
use Rattle.meaning.proofs.Meanings.is_run.Goals as goal

pub returns-then-is_whole : goal.returns-then-is_whole
returns-then-is_whole c =
    let a = c.args in
    grind (arith, and-goes-on, and-stops, lt-ltb, le-ltb, run_is a.self.now a.t a.d a.e a.p (a.self.now.fields a.t c.requires))

pub returns-else-is_whole : goal.returns-else-is_whole
returns-else-is_whole c =
    let a = c.args in
    grind (arith, and-goes-on, and-stops, lt-ltb, le-ltb, run_is a.self.now a.t a.d a.e a.p (a.self.now.fields a.t c.requires))
