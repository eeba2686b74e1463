-- How the program ended, and the exit status that says it.
use Rattle.std.specs.Prelude.{Bool, ℕ}
use Rattle.model.specs.Question.{pick}
use Rattle.console.specs.declared.Status.{Status}
use Rattle.console.specs.declared.Status.TheVariants.{AllWell, Refused, Usage, Failed}

-- failed where input or output failed, else refused where some answer was other than 0 and 40, else all well
abbrev pub status_of : (failed refused : Bool) → Status
status_of failed refused = pick failed Failed (pick refused Refused AllWell)

-- 3, 1 and 0 for these, and 2 for arguments that are not those of the program
abbrev pub number_of : Status → ℕ
number_of AllWell = 0
number_of Refused = 1
number_of Usage = 2
number_of Failed = 3
