-- The number and the row of a variable, from the lines as they are stored.
use Rattle.std.specs.Prelude.{◌≡◌, List, ◌⊎◌, ℕ, ◌+◌, ◌*◌, ◌<◌, ◌≤◌, length, get_or, set}
use Rattle.tableau.specs.declared.Sort.{Sort}
use Rattle.tableau.specs.Terms.{Name, TermNo}
use Rattle.evaluation.specs.declared.FactWord.{FactWord}
use Rattle.evaluation.specs.Facts.{fact_index}
use Rattle.facts.specs.declared.StoredFact.{StoredFact}
use Rattle.facts.specs.Keys.{pack_key, value_at}
use Rattle.packing.specs.Packing.{term_limit}
use Rattle.regions.specs.Masks.{row_length}
use Rattle.term_values.specs.Values.{rows_length}
use Rattle.heap_tables.specs.Scans.{key_at, IsMembers}

module _ (facts : List StoredFact) where
  -- `rfv`, `fnv`, `clv` name, value; `rgv` name, member
  abbrev pub NumberRead : Sort → Name → ℕ → Type 0
  NumberRead Sort.Reference n r = r ≡ value_at facts (pack_key (fact_index FactWord.Rfv) n 0 0)
  NumberRead Sort.Region n r = IsMembers facts (pack_key (fact_index FactWord.Rgv) n 0 0) 8 r
  NumberRead Sort.Heap n r = r ≡ 0
  NumberRead Sort.Field n r = r ≡ value_at facts (pack_key (fact_index FactWord.Fnv) n 0 0)
  NumberRead Sort.Class n r = r ≡ value_at facts (pack_key (fact_index FactWord.Clv) n 0 0)

  -- `arv` name, reference, field, value: place 16 x + f of the row t
  pub record IsHeapRow (n : Name) (old new : List ℕ) (t : TermNo) : Type 0 where
    pub size : length new ≡ length old
    pub entries : (p : ℕ) → p < row_length → get_or new (t * row_length + p) 0 ≡ value_at facts (key_at (pack_key (fact_index FactWord.Arv) n 0 0) 4 p)
    pub others : (j : ℕ) → (j < t * row_length) ⊎ (t * row_length + row_length ≤ j) → get_or new j 0 ≡ get_or old j 0

  abbrev pub RowRead : Sort → Name → List ℕ → List ℕ → TermNo → Type 0
  RowRead Sort.Reference n old new t = new ≡ old
  RowRead Sort.Region n old new t = new ≡ old
  RowRead Sort.Heap n old new t = IsHeapRow n old new t
  RowRead Sort.Field n old new t = new ≡ old
  RowRead Sort.Class n old new t = new ≡ old

  pub record VariableRead (sort : Sort) (n : Name) (numbers rows numbers' rows' : List ℕ) (t : TermNo) : Type 0 where
    pub wide : length numbers ≡ term_limit
    pub long : length rows ≡ rows_length
    pub value : ℕ
    pub read : NumberRead sort n value
    pub number : numbers' ≡ set numbers t value
    pub row : RowRead sort n rows rows' t
