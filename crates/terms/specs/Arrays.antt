-- All that the arrays hold of a table.
use Rattle.std.specs.Prelude.{◌≡◌, List, ℕ, length}
use Rattle.tableau.specs.Terms.{Table, at}
use Rattle.tableau.proofs.WellFormed.{WellFormed}
use Rattle.table.specs.Held.{Searchable}
use Rattle.mentions.specs.Mentions.{MentionRows}

pub record Arrays : Type 0 where
  pub terms : List ℕ
  pub chains : List ℕ
  pub rows : List ℕ

abbrev pub arrays : List ℕ → List ℕ → List ℕ → Arrays
arrays t c m = record { terms = t; chains = c; rows = m }

-- the arrays hold a table of n terms
pub record Held (table : Table) (A : Arrays) (n : ℕ) : Type 0 where
  pub count : length table ≡ n
  pub well_formed : WellFormed (at table)
  pub searchable : Searchable table A.terms A.chains
  pub mentioned : MentionRows table A.rows
