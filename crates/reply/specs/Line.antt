-- The room of a line.
use Rattle.std.specs.Prelude.{ℕ}

-- "One line ended by LF": room for it, of which 151 bytes at most are written (`yes`, seven commas
-- with a number each, LF)
abbrev pub line_bytes : ℕ
line_bytes = 160

-- a 64-bit number has no more
abbrev pub number_digits : ℕ
number_digits = 20

-- a comma and a number
abbrev pub field_bytes : ℕ
field_bytes = 21
