-- What reading a line of a file gives: the specification's own cut at LF and its own six fields of
-- a line, with the word packed in one number.
use Rattle.std.specs.Prelude.{Bool, ◌&&◌, List, [], ◌∷◌, ◌≡◌, ℕ, ◌+◌, ◌*◌, ◌<◌, ◌≤◌, eqb, leb, length, drop, get_or, Option, None, Some, option_map}
use Rattle.tableau.specs.Basics.{guard, Four, four}
use Rattle.tableau.specs.File.{LF, comma, split, max_digits, Line, six_fields}
use Rattle.lines.specs.declared.LineFields.{LineFields}

-- the bytes of a word in one number, the first byte lowest
abbrev pub pack_word : List ℕ → ℕ
pack_word [] = 0
pack_word (b ∷ bs) = b + 256 * pack_word bs

-- FIELD 1 of any kind of file: one capital letter, by its byte. Which letters a file knows is its
-- own.
abbrev pub is_capital : ℕ → Bool
is_capital b = leb 65 b && leb b 90

abbrev pub capital_of : ℕ → Option ℕ
capital_of b = guard (is_capital b) (Some b)

unfoldable pub capital : List ℕ → Option ℕ
capital [] = None
capital (b ∷ bs) = guard (eqb (length bs) 0) (capital_of b)

abbrev pub any_shape : List ℕ → Option (Line ℕ)
any_shape l = six_fields max_digits capital (split comma l)

-- a line's six fields, and the position after its LF
abbrev pub line_fields : ℕ → Line ℕ → LineFields
line_fields next' l = record {
  letter = l.letter;
  word = pack_word l.word;
  a = l.fields.a;
  b = l.fields.b;
  c = l.fields.c;
  d = l.fields.d;
  next = record { at = next' };
}

abbrev pub line_read : ℕ → Option (Line ℕ) → Option LineFields
line_read next' = option_map (line_fields next')

-- The first of a text's lines, with the position after its LF. No LF follows the last piece of a
-- text that is cut at LF, which is no line.
abbrev pub first_line : {A : Type 0} → A → (ℕ → List ℕ → A) → ℕ → List (List ℕ) → A
first_line no_line read at [] = no_line
first_line no_line read at (l ∷ []) = no_line
first_line no_line read at (l ∷ m ∷ ls) = read (at + length l + 1) l

-- the line that begins at a position of the file
unfoldable pub line_at : List ℕ → ℕ → Option LineFields
line_at file at =
    first_line None (λ next' l. line_read next' (any_shape l)) at (split LF (drop at file))

-- An LF stands at the position or behind it: the line that begins there has an end.
pub record LFAhead (file : List ℕ) (at : ℕ) : Type 0 where
  pub position : ℕ
  pub behind : at ≤ position
  pub inside : position < length file
  pub is_lf : get_or file position 0 ≡ LF

-- the position behind the last LF, 0 where there is none
pub record LinesEnd (file : List ℕ) (end : ℕ) : Type 0 where
  pub ahead : (at : ℕ) → at < end → LFAhead file at
  pub last : (i : ℕ) → end ≤ i → i < length file → get_or file i 0 ≡ LF → ⊥

-- fields 3 to 6 of a line that was read
abbrev pub numbers_of : LineFields → Four ℕ
numbers_of f = four f.a f.b f.c f.d
