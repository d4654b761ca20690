-- Which terms stand in which, as rows of bits: bit w of the row of the term t says that w stands in t.
use Rattle.std.specs.Prelude.{◌≡◌, Bool, false, ◌||◌, List, ℕ, ◌+◌, ◌*◌, ◌/◌, ◌%◌, ◌^◌, ◌<◌, ◌≤◌, eqb, length, get_or}
use Rattle.tableau.specs.Basics.{Four, four}
use Rattle.tableau.specs.Terms.{TermNo, Table, Term, variable, apply, at, mentions}

-- a row has ten words of 64 bits, and there are 601 rows
abbrev pub row : ℕ
row = 10

abbrev pub rows_length : ℕ
rows_length = 6010

abbrev pub bit_at : ℕ → ℕ → Bool
bit_at x q = eqb (x / 2 ^ q % 2) 1

-- bit q of word i of the row of t
abbrev pub row_bit : List ℕ → TermNo → ℕ → ℕ → Bool
row_bit rows t i q = bit_at (get_or rows (t * row + i) 0) q

-- the row of t says that w stands in t
abbrev pub is_mentioned : List ℕ → TermNo → TermNo → Bool
is_mentioned rows t w = row_bit rows t (w / 64) (w % 64)

-- the rows of a table's terms
pub record MentionRows (table : Table) (rows : List ℕ) : Type 0 where
  pub size : length rows ≡ rows_length
  pub told : (t w : TermNo) → t ≤ length table → 0 < w → w < 640 → is_mentioned rows t w ≡ mentions (at table) w t

-- THE ARGUMENTS of a term, 0 for none; a variable's name is none
abbrev pub term_arguments : Term → Four TermNo
term_arguments (variable s n) = four 0 0 0 0
term_arguments (apply o k) = k

abbrev pub AllBelow : TermNo → Four TermNo → Type 0
AllBelow t k = (k.a < t) × (k.b < t) × (k.c < t) × (k.d < t)

-- the same bit in the row of any argument
abbrev pub joined_bit : List ℕ → Four TermNo → ℕ → ℕ → Bool
joined_bit rows k i q = row_bit rows k.a i q || (row_bit rows k.b i q || (row_bit rows k.c i q || row_bit rows k.d i q))

-- the same of a term's arguments; a variable has none
abbrev pub argument_bits : List ℕ → Term → ℕ → ℕ → Bool
argument_bits rows (variable s n) i q = false
argument_bits rows (apply o k) i q = joined_bit rows k i q

-- the first i words of the row t are filled with the bits of f, and no row before it is changed
pub record Filled (old new : List ℕ) (t : ℕ) (f : ℕ → ℕ → Bool) (i : ℕ) : Type 0 where
  pub size : length new ≡ length old
  pub below : (j : ℕ) → j < t * row → get_or new j 0 ≡ get_or old j 0
  pub words : (j q : ℕ) → j < i → q < 64 → row_bit new t j q ≡ f j q

-- what the rows say once a term t is noted, where f has the bits of its arguments
pub record Noted (old new : List ℕ) (t : TermNo) (f : ℕ → ℕ → Bool) : Type 0 where
  pub size : length new ≡ length old
  pub below : (s w : TermNo) → s < t → w < 640 → is_mentioned new s w ≡ is_mentioned old s w
  pub own : (w : TermNo) → w < 640 → is_mentioned new t w ≡ (eqb t w || f (w / 64) (w % 64))
