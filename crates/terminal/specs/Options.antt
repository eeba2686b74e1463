-- What the arguments of the program ask for, one after the other.
use Rattle.std.specs.Prelude.{Bool, true, not, List, ℕ, ltb, eqb, length, get_or, bytes_eq}
use Prim.Native.String.{String}
use Rattle.model.specs.Question.{pick}
use Rattle.grammar.specs.Codes.{codes}
use Rattle.terminal.specs.declared.arguments.Asked.{Asked}
use Rattle.terminal.specs.declared.arguments.Wish.{Wish}
use Rattle.terminal.specs.declared.arguments.Wish.TheVariants.{Help, Version, Nothing}

abbrev pub is : List ℕ → String → Bool
is argument text = bytes_eq argument (codes text)

-- the name of an input: after -- every argument, before it one that does not begin with '-' and '-' alone
abbrev pub is_name : List ℕ → Bool → Bool
is_name argument literal = pick literal true (pick (ltb (length argument) 2) true (not (eqb (get_or argument 0 0) 45)))

abbrev pub wishing : Asked → Wish → Asked
wishing a wish = record a { wish = wish }

-- an option
unfoldable pub optioned : Asked → List ℕ → Asked
optioned a argument =
    pick (is argument "--words") (record a { worded = true })
    (pick (is argument "--lines") (record a { lined = true })
    (pick (is argument "--") (record a { literal = true })
    (pick (is argument "-h") (wishing a Help)
    (pick (is argument "--help") (wishing a Help)
    (pick (is argument "--version") (wishing a Version)
    (wishing a Nothing))))))
