-- `access::tables::Tables::size` meets its contract.
use mathlib.Core.Path.{◌∙◌}
use native.Mathlib.Omega.{arith}
use Rattle.access.proofs.Fields.{size-past, size-at}
use Rattle.access.proofs.tables.Tables.size.Goals as goal

pub returns-in-Some : goal.returns-in-Some
returns-in-Some c =
    let (inside, is) = c.in-Some.ensures.lookup.3 in
    let e = is 0 ∙ size-at _ _ in
    (e, omega (arith, c.args.self.now.sized.small c.args.t), λ h. omega arith)

pub returns-in-None : goal.returns-in-None
returns-in-None c = (size-past _ _ c.in-None.ensures.lookup.3, omega arith, λ h. omega arith)
