-- What reading all lines of a file gives: the specification's own cut at LF and its own six fields
-- of a line, and every word and number that is read, mixed into one.
use Rattle.std.specs.Prelude.{List, [], ◌∷◌, ℕ, ◌-◌, ◌^◌, Option, None, Some}
use Rattle.std.specs.Int.Bits.{bit_xor}
use Rattle.tableau.specs.Basics.{then, Four}
use Rattle.tableau.specs.File.{LF, split}
use Rattle.lines.specs.Lines.{pack_word, any_shape}

-- a line's packed word and its numbers, mixed into a value
unfoldable pub mixed : ℕ → ℕ → Four ℕ → ℕ
mixed value word' n = bit_xor (bit_xor (bit_xor (bit_xor (bit_xor value word') n.a) n.b) n.c) n.d

-- behind the last LF stands nothing
abbrev pub at_end : List ℕ → ℕ → Option ℕ
at_end [] value = Some value
at_end (b ∷ l) value = None

-- the lines mixed into a value, if each has its shape; a text that is cut has a piece at least
unfoldable pub mixed_lines : List (List ℕ) → ℕ → Option ℕ
mixed_lines [] value = None
mixed_lines (l ∷ []) value = at_end l value
mixed_lines (l ∷ m ∷ ls) value =
    then (any_shape l) λ L. mixed_lines (m ∷ ls) (mixed value (pack_word L.word) L.fields)

-- all bits set where a line has not its shape
abbrev pub or_all_bits : Option ℕ → ℕ
or_all_bits None = 2 ^ 64 - 1
or_all_bits (Some value) = value

unfoldable pub read_file : List ℕ → ℕ
read_file file = or_all_bits (mixed_lines (split LF file) 0)
