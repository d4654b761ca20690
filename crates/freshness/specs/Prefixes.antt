-- Which terms the clauses and the literals of a branch mention, as rows of bits: bit w of row i says that a clause or one of the first i literals mentions w.
use Rattle.std.specs.Prelude.{◌≡◌, Bool, ◌||◌, List, [], map, ℕ, ◌/◌, ◌%◌, ◌<◌, ◌≤◌, length, take, get_or}
use Rattle.tableau.specs.Terms.{TermNo, Table, Clauses, disjuncts, at, mentions, mentioned, max_terms}
use Rattle.packing.specs.Packing.{unpack_literal}
use Rattle.mentions.specs.Mentions.{row, row_bit}

-- a row for each length of a branch, 0 to 1000
abbrev pub prefix_length : ℕ
prefix_length = 10010

-- the rows 0 to noted, of a branch given by its codes; row 0 is that of every branch, and with no clauses that of every table
pub record PrefixRows (table : Table) (C : Clauses) (codes prefix : List ℕ) (noted : ℕ) : Type 0 where
  pub size : length prefix ≡ prefix_length
  pub none : C ≡ [] → (k : ℕ) → k < row → get_or prefix k 0 ≡ 0
  pub told : (i : ℕ) (w : TermNo) → i ≤ noted → 0 < w → w ≤ length table → w ≤ max_terms
      → row_bit prefix i (w / 64) (w % 64) ≡ (mentioned (at table) w (disjuncts C) || mentioned (at table) w (map unpack_literal (take i codes)))

-- the row s mentions what a literal's side t does, in every table of n terms
pub record SideRow (n : ℕ) (t s : TermNo) : Type 0 where
  pub made : s ≤ n
  pub same : (table : Table) (w : TermNo) → length table ≡ n → 0 < w → w ≤ n → mentions (at table) w s ≡ mentions (at table) w t

-- the bits of row i, and of the rows of a literal's two sides
abbrev pub next_bits : List ℕ → List ℕ → ℕ → TermNo → TermNo → ℕ → ℕ → Bool
next_bits prefix rows i left right k q = row_bit prefix i k q || (row_bit rows left k q || row_bit rows right k q)
