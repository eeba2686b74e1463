-- How much a buffer holds.
use Rattle.std.specs.Prelude.{ℕ}

-- the bytes of a buffer
abbrev pub buffer : ℕ
buffer = 2097152
