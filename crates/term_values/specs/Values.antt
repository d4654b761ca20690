-- The values of terms as numbers and rows, and what is computed of an operation.
use Rattle.std.specs.Prelude.{◌≡◌, List, [], ◌∷◌, ℕ, ◌*◌, ◌%◌, ◌<◌, length, get_or, set, take, drop}
use Rattle.std.specs.Int.Bits.{bit_and, bit_or, bit_xor}
use Rattle.tableau.specs.declared.TermNumber.{TermNumber}
use Rattle.tableau.specs.Terms.{TermNo}
use Rattle.packing.specs.declared.TermView.{TermView}
use Rattle.packing.specs.Packing.{term_limit}
use Rattle.regions.specs.declared.HeapTables.{HeapTables}
use Rattle.regions.specs.Masks.{row_length, place, entry, one_bit, image_mask}

-- a row for each of the numbers 0 to 600
abbrev pub rows_length : ℕ
rows_length = 615424

abbrev pub number_at : List ℕ → TermNo → ℕ
number_at numbers t = get_or numbers t 0

abbrev pub row_of : List ℕ → TermNo → List ℕ
row_of rows t = take row_length (drop (t * row_length) rows)

-- the arguments that a view shows
abbrev pub view_arguments : TermView → List TermNo
view_arguments (TermView.Variable s n) = []
view_arguments TermView.Nul = []
view_arguments (TermView.Rea h x f) = h.0 ∷ x.0 ∷ f.0 ∷ []
view_arguments TermView.Emp = []
view_arguments TermView.All = []
view_arguments (TermView.Cup r s) = r.0 ∷ s.0 ∷ []
view_arguments (TermView.Cap r s) = r.0 ∷ s.0 ∷ []
view_arguments (TermView.Dif r s) = r.0 ∷ s.0 ∷ []
view_arguments (TermView.Sin x) = x.0 ∷ []
view_arguments (TermView.Img h r f) = h.0 ∷ r.0 ∷ f.0 ∷ []
view_arguments (TermView.Wri h x f v) = h.0 ∷ x.0 ∷ f.0 ∷ v.0 ∷ []
view_arguments (TermView.Typ x) = x.0 ∷ []
view_arguments (TermView.Dty f) = f.0 ∷ []

abbrev pub AllBelow : ℕ → List TermNo → Type 0
AllBelow t [] = Unit {0}
AllBelow t (n ∷ ns) = (n < t) × AllBelow t ns

-- THE NUMBER OF AN OPERATION, from the numbers and rows of its arguments. References and fields are read modulo 64 and 16; a heap value's
-- number is not asked.
unfoldable pub operation_number : HeapTables → TermView → List ℕ → List ℕ → ℕ
operation_number A (TermView.Variable s n) numbers rows = 0
operation_number A TermView.Nul numbers rows = 0
operation_number A (TermView.Rea h x f) numbers rows = entry (row_of rows h.0) (number_at numbers x.0 % 64) (number_at numbers f.0 % 16)
operation_number A TermView.Emp numbers rows = 0
operation_number A TermView.All numbers rows = A.all
operation_number A (TermView.Cup r s) numbers rows = bit_or (number_at numbers r.0) (number_at numbers s.0)
operation_number A (TermView.Cap r s) numbers rows = bit_and (number_at numbers r.0) (number_at numbers s.0)
operation_number A (TermView.Dif r s) numbers rows = bit_xor (number_at numbers r.0) (bit_and (number_at numbers r.0) (number_at numbers s.0))
operation_number A (TermView.Sin x) numbers rows = bit_and A.all (one_bit (number_at numbers x.0))
operation_number A (TermView.Img h r f) numbers rows =
    image_mask (row_of rows h.0) (number_at numbers r.0) (get_or A.having (number_at numbers f.0 % 16) 0) (number_at numbers f.0 % 16) A.all
operation_number A (TermView.Wri h x f v) numbers rows = 0
operation_number A (TermView.Typ x) numbers rows = get_or A.typ (number_at numbers x.0 % 64) 0
operation_number A (TermView.Dty f) numbers rows = get_or A.dty (number_at numbers f.0 % 16) 0

-- a row with one entry changed
abbrev pub written_row : List ℕ → ℕ → ℕ → ℕ → List ℕ
written_row row x f v = set row (place (x % 64) (f % 16)) (v % 64)

-- the row t is the row h with one byte changed; those before t are as they were
pub record Written (old new : List ℕ) (h t i value : ℕ) : Type 0 where
  pub row : row_of new t ≡ set (row_of old h) i value
  pub size : length new ≡ length old
  pub earlier : (j : ℕ) → j < t * row_length → get_or new j 0 ≡ get_or old j 0

-- the rows once the term t has this view: `wri` has its row
pub record RowComputed (view : TermView) (numbers old new : List ℕ) (t : TermNo) : Type 0 where
  pub row : (h x f v : TermNumber) → view ≡ TermView.Wri h x f v
      → row_of new t ≡ written_row (row_of old h.0) (number_at numbers x.0) (number_at numbers f.0) (number_at numbers v.0)
  pub size : length new ≡ length old
  pub earlier : (j : ℕ) → j < t * row_length → get_or new j 0 ≡ get_or old j 0

-- WHAT IS COMPUTED of the operation t, in arrays of these lengths
pub record Computed (A : HeapTables) (view : TermView) (numbers rows numbers' rows' : List ℕ) (t : TermNo) : Type 0 where
  pub wide : length numbers ≡ term_limit
  pub long : length rows ≡ rows_length
  pub number : numbers' ≡ set numbers t (operation_number A view numbers rows)
  pub row : RowComputed view numbers rows rows' t
