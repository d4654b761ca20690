-- The truth of literals, by the numbers and rows of their sides.
use Rattle.std.specs.Prelude.{◌≡◌, Bool, not, List, ℕ, ◌%◌, get_or}
use Rattle.tableau.specs.declared.Relation.{Relation}
use Rattle.tableau.specs.Basics.{Four}
use Rattle.tableau.specs.Terms.{Table, Literal, literal, at, sort_of}
use Rattle.tableau.specs.Meaning.{FiniteHeap, Values}
use Rattle.tableau.specs.Tree.{passed}
use Rattle.tableau.specs.Fields.{sides}
use Rattle.tableau.specs.Reply.{literal_line}
use Rattle.tableau.proofs.WellFormed.{WellFormed}
use Rattle.mentions.specs.Mentions.{bit_at}
use Rattle.regions.specs.declared.HeapTables.{HeapTables}
use Rattle.regions.specs.Shown.{HoldHeap, same_shown}
use Rattle.term_values.specs.Values.{number_at, row_of}
use Rattle.term_values.specs.Shown.{AllShown}

-- WHAT IS COMPUTED of a literal
module _ (A : HeapTables) (table : Table) (numbers rows : List ℕ) where
  abbrev pub member_test : ℕ → ℕ → Bool
  member_test m n = bit_at (number_at numbers n) (number_at numbers m % 64)

  abbrev pub equal_test : ℕ → ℕ → Bool
  equal_test m n = same_shown (sort_of (at table m)) (number_at numbers m) (number_at numbers n) (row_of rows m) (row_of rows n)

  abbrev pub under_test : ℕ → ℕ → Bool
  under_test m n = bit_at (get_or A.under (number_at numbers m % 16) 0) (number_at numbers n % 64)

  unfoldable pub literal_test : Literal → Bool
  literal_test (literal Relation.In m n) = member_test m n
  literal_test (literal Relation.Ni m n) = not (member_test m n)
  literal_test (literal Relation.Eq m n) = equal_test m n
  literal_test (literal Relation.Ne m n) = not (equal_test m n)
  literal_test (literal Relation.Le m n) = under_test m n
  literal_test (literal Relation.Nl m n) = not (under_test m n)

-- the literal of an A or C line that passed its checks: the sides are terms of the sorts asked
abbrev pub IsAssumption : Table → Literal → Type 0
IsAssumption table l = (R : Relation) × (k : Four ℕ) × (literal_line table (sides R) R k ≡ passed l)

-- the arrays show the values of all terms
pub record Evaluable (H : FiniteHeap) (ρ : Values H) (table : Table) (A : HeapTables) (numbers rows : List ℕ) : Type 0 where
  pub well_formed : WellFormed (at table)
  pub heap : HoldHeap H A
  pub shown : AllShown H ρ table numbers rows
