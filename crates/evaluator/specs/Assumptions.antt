-- The assumed literals on the branch, and the first that is false; the clauses, and the first with no true literal.
use Rattle.std.specs.Prelude.{◌≡◌, Bool, List, [], ◌∷◌, map, ℕ, suc, ◌+◌, ◌<◌, ◌≤◌, length, Option, None, Some, IfSome}
use Rattle.tableau.specs.Reply.{max_clause_lines}
use Rattle.tableau.specs.Terms.{Table, Literal, Clauses, disjuncts, last_clause, at}
use Rattle.tableau.specs.Meaning.{FiniteHeap, Values}
use Rattle.evaluation.specs.Evaluation.{is_true, first_false, any_passes, first_false_clause}
use Rattle.packing.specs.Packing.{unpack_literal}
use Rattle.table.specs.Held.{Entries}
use Rattle.regions.specs.declared.HeapTables.{HeapTables}
use Rattle.term_values.specs.declared.TermValues.{TermValues}
use Rattle.term_values.specs.Literals.{IsAssumption, Evaluable}

abbrev pub literals_of : List ℕ → List Literal
literals_of codes = map unpack_literal codes

-- each passed its checks
unfoldable pub AllAssumptions : Table → List Literal → Type 0
AllAssumptions table [] = Unit {0}
AllAssumptions table (l ∷ ls) = IsAssumption table l × AllAssumptions table ls

-- the line of a literal, of which so many stand before it on the branch, where i lines stand before the first; 0 where there is none
abbrev pub literal_at : ℕ → Option ℕ → ℕ
literal_at i None = 0
literal_at i (Some n) = suc (i + n)

-- the last line of a clause up to which there are so many C lines, where i lines stand before the first; 0 where there is none
abbrev pub clause_at : ℕ → Option ℕ → ℕ
clause_at i None = 0
clause_at i (Some n) = i + n

-- whatever heap and values the arrays show, the place is that of the first false literal
pub record FirstFalse (ls : List Literal) (terms : List ℕ) (values : TermValues) (tables : HeapTables) (place : Option ℕ) : Type 0 where
  pub few : IfSome place (λ n. n < length ls)
  pub is : (H : FiniteHeap) (ρ : Values H) (table : Table) → Entries table terms → AllAssumptions table ls → Evaluable H ρ table tables values.numbers values.rows
      → (i : ℕ) → literal_at i place ≡ first_false (is_true ρ (at table)) i ls

-- the same of whether one of some literals is true
pub record AnyIs (ls : List Literal) (terms : List ℕ) (values : TermValues) (tables : HeapTables) (b : Bool) : Type 0 where
  pub is : (H : FiniteHeap) (ρ : Values H) (table : Table) → Entries table terms → AllAssumptions table ls → Evaluable H ρ table tables values.numbers values.rows
      → b ≡ any_passes (is_true ρ (at table)) ls

-- and of the clauses
pub record FirstFalseClause (C : Clauses) (terms : List ℕ) (values : TermValues) (tables : HeapTables) (end : Option ℕ) : Type 0 where
  pub few : IfSome end (λ n. n ≤ max_clause_lines)
  pub is : (H : FiniteHeap) (ρ : Values H) (table : Table) → Entries table terms → AllAssumptions table (disjuncts C) → Evaluable H ρ table tables values.numbers values.rows
      → (i : ℕ) → clause_at i end ≡ first_false_clause (is_true ρ (at table)) i C 1 (last_clause C)
