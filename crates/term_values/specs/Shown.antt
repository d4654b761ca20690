-- The numbers and rows show the values of terms.
use Rattle.std.specs.Prelude.{List, ℕ, suc, ◌<◌, length}
use Rattle.tableau.specs.Terms.{TermNo, Table, at}
use Rattle.tableau.specs.Meaning.{FiniteHeap, Values, value}
use Rattle.regions.specs.Shown.{Shows}
use Rattle.term_values.specs.Values.{number_at, row_of}

-- those of the terms below t; all
unfoldable pub ShownBelow : (H : FiniteHeap) → Values H → Table → List ℕ → List ℕ → TermNo → Type 0
ShownBelow H ρ table numbers rows t = (s : TermNo) → s < t → Shows H (value ρ (at table) s) (number_at numbers s) (row_of rows s)

abbrev pub AllShown : (H : FiniteHeap) → Values H → Table → List ℕ → List ℕ → Type 0
AllShown H ρ table numbers rows = ShownBelow H ρ table numbers rows (suc (length table))
