-- The values of the terms, whatever heap the lines say.
use Rattle.std.specs.Prelude.{◌≡◌, true, List, ℕ}
use Rattle.tableau.specs.Terms.{TermNo, Table, at}
use Rattle.tableau.proofs.WellFormed.{WellFormed}
use Rattle.evaluation.specs.Facts.{Facts}
use Rattle.evaluation.specs.Heaps.{is_order, heap_of, values_of}
use Rattle.evaluation.proofs.Passable.{Passable}
use Rattle.table.specs.Held.{Entries}
use Rattle.facts.specs.declared.StoredFact.{StoredFact}
use Rattle.facts.specs.Keys.{FactsHeld}
use Rattle.regions.specs.declared.HeapTables.{HeapTables}
use Rattle.regions.specs.Shown.{HoldHeap}
use Rattle.term_values.specs.declared.TermValues.{TermValues}
use Rattle.term_values.specs.Shown.{ShownBelow}

-- the terms below t are shown in the heap and with the values that the lines say
pub record TermsShown (terms : List ℕ) (held : List StoredFact) (tables : HeapTables) (values : TermValues) (t : TermNo) : Type 0 where
  pub shown : (facts : Facts) (ordered : is_order facts ≡ true) (table : Table) → FactsHeld facts held → Passable facts → HoldHeap (heap_of facts ordered) tables
      → Entries table terms → WellFormed (at table) → ShownBelow (heap_of facts ordered) (values_of facts ordered) table values.numbers values.rows t
