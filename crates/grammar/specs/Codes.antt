-- Texts as the codes of their letters.
use Rattle.std.specs.Prelude.{List, [] as none, ◌∷◌ as ◌then◌, ℕ}
use Prim.Native.Char.{code}
use Prim.Native.String.{String, [], ◌∷◌}

-- a text in quotes, letter by letter, as ASCII has them
abbrev pub codes : String → List ℕ
codes [] = none
codes (letter ∷ rest) = code letter then codes rest
