-- Rows in one array.
use mathlib.Core.Path.{◌≡◌, sym, ◌∙◌}
use mathlib.Core.List.{List}
use Prim.Native.Nat.{ℕ, ◌+◌, ◌*◌, ◌<◌, ◌≤◌}
use native.Mathlib.Omega.{arith}
use lib.ListN.{length, get_or, drop, length-take, length-drop}
use lib.Seq.{get_or-take, get_or-drop, ext_get_or}
use Rattle.tableau.specs.Terms.{max_terms}
use Rattle.regions.specs.Masks.{row_length}
use Rattle.term_values.specs.Values.{row_of, rows_length}

pub row_length_lem : (rows : List ℕ) (t : ℕ) → t ≤ max_terms → length rows ≡ rows_length → length (row_of rows t) ≡ row_length
row_length_lem rows t l e = omega (arith, length-take row_length (drop (t * row_length) rows), length-drop (t * row_length) rows)

pub row_entry : (rows : List ℕ) (t i : ℕ) → i < row_length → get_or (row_of rows t) i 0 ≡ get_or rows (t * row_length + i) 0
row_entry rows t i l = get_or-take row_length (drop (t * row_length) rows) i 0 l ∙ get_or-drop (t * row_length) rows i 0

-- a row before t is as it was where all bytes before t are
pub earlier_row : (rows rows' : List ℕ) (t s : ℕ) → ((j : ℕ) → j < t * row_length → get_or rows' j 0 ≡ get_or rows j 0) → length rows ≡ rows_length → length rows' ≡ rows_length
    → t ≤ max_terms → s < t → row_of rows' s ≡ row_of rows s
earlier_row rows rows' t s same p q few l =
    let m : s ≤ max_terms = omega arith in
    ext_get_or 0 (row_of rows' s) (row_of rows s) (row_length_lem rows' s m q ∙ sym (row_length_lem rows s m p))
    (λ i k. let o : i < row_length = omega (arith, row_length_lem rows' s m q) in
    row_entry rows' s i o ∙ same (s * row_length + i) (omega arith) ∙ sym (row_entry rows s i o))
