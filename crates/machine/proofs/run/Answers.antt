-- `machine::run` meets its contract: what its opening questions refuse, or the run past them.
use mathlib.Core.Path.{ap, ◌∙◌}
use Rattle.model.specs.Table.{code_of}
use Rattle.model.specs.Machine.{Run, returned, ready}
use Rattle.machine.proofs.Runs.{run-refused, run-opens}
use Rattle.machine.proofs.run.Goals as goal

pub run_blocks-requires : goal.run_blocks-requires
run_blocks-requires c = c.opening.ensures.opened c.in-Ok.is

pub returns-in-Err : goal.returns-in-Err
returns-in-Err c =
    let w = run-refused (code_of c.args.blocks.now c.args.code.now) c.args.memory.now (ready c.args.block c.args.registers) c.args.budget
    c.opening.ensures.outcome c.in-Err.is in
    (c.answer.ensures ∙ rw c.number.ensures (ap returned w), ap (λ (a : Run). a.memory) w)

pub returns-in-Ok : goal.returns-in-Ok
returns-in-Ok c =
    let w = run-opens (code_of c.args.blocks.now c.args.code.now) c.args.memory.now (ready c.args.block c.args.registers) c.args.budget
    c.opening.ensures.outcome c.in-Ok.is in
    (c.run_blocks.ensures.0 ∙ ap returned w, c.run_blocks.ensures.1 ∙ ap (λ (a : Run). a.memory) w)
