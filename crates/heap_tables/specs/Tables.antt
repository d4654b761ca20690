-- The tables of a heap, from its lines as they are stored.
use Rattle.std.specs.Prelude.{◌≡◌, ℕ, ◌%◌, ◌<◌, ◌||◌, List, ◌==◌, slice_index}
use Rattle.evaluation.specs.declared.FactWord.{FactWord}
use Rattle.evaluation.specs.Facts.{fact_index}
use Rattle.mentions.specs.Mentions.{bit_at}
use Rattle.facts.specs.declared.StoredFact.{StoredFact}
use Rattle.facts.specs.Keys.{pack_key, has_key, value_at}
use Rattle.regions.specs.declared.HeapTables.{HeapTables}
use Rattle.heap_tables.specs.Scans.{IsMembers}

-- the bits of the classes above b, by `sub` b, c; "a class is always under itself"
pub record Above (facts : List StoredFact) (b r : ℕ) : Type 0 where
  pub bits : (c : ℕ) → c < 64 → bit_at r c ≡ (has_key facts (pack_key (fact_index FactWord.Sub) b c 0) || b == c)

pub record IsUnder (facts : List StoredFact) (under : List ℕ) : Type 0 where
  pub rows : (b : ℕ) → b < 16 → Above facts b (slice_index under b)

-- the bits of the references whose class is under a class
pub record Having (typ under : List ℕ) (class r : ℕ) : Type 0 where
  pub bits : (x : ℕ) → x < 64 → bit_at r x ≡ bit_at (slice_index under (slice_index typ x % 16)) (class % 64)

pub record IsHaving (typ dty under having : List ℕ) : Type 0 where
  pub rows : (f : ℕ) → f < 16 → Having typ under (slice_index dty f) (slice_index having f)

pub record TablesRead (facts : List StoredFact) (A : HeapTables) : Type 0 where
  pub all : IsMembers facts (pack_key (fact_index FactWord.Alc) 0 0 0) 14 A.all
  pub typ : (x : ℕ) → x < 64 → slice_index A.typ x ≡ value_at facts (pack_key (fact_index FactWord.Typ) x 0 0)
  pub dty : (f : ℕ) → f < 16 → slice_index A.dty f ≡ value_at facts (pack_key (fact_index FactWord.Dty) f 0 0)
  pub under : IsUnder facts A.under
  pub having : IsHaving A.typ A.dty A.under A.having
