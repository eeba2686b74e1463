-- `grammar::begins` meets its contract. The invariant: what is left of the name begins as the whole does.
use Rattle.std.proofs.Common.{◌≡◌, ◌-◌}
use Rattle.grammar.specs.Grammar.{begins}
use Rattle.grammar.proofs.begins.Given as goal

abbrev pub invariant-loop : goal.invariant-loop
invariant-loop l = begins 8 l.name l.letters ≡ begins (8 - l.counter) l.n l.letters
