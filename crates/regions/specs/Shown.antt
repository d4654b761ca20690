-- What the evaluator's arrays show: the tables of a heap, the values of terms.
use Rattle.std.specs.Prelude.{◌≡◌, Bool, true, cond, List, ℕ, ◌≤◌, eqb, get_or}
use Rattle.tableau.specs.declared.Sort.{Sort}
use Rattle.tableau.specs.Basics.{same_bytes}
use Rattle.tableau.specs.Terms.{same_sort}
use Rattle.tableau.specs.Meaning.{FiniteHeap, Ref, Field, Class, Value, kind, as_ref, as_region, as_store, as_field, as_class, within}
use Rattle.mentions.specs.Mentions.{bit_at}
use Rattle.regions.specs.declared.HeapTables.{HeapTables}
use Rattle.regions.specs.Masks.{IsMask, IsRow}

-- the tables are those of the heap
pub record HoldHeap (H : FiniteHeap) (A : HeapTables) : Type 0 where
  pub references : H.references ≤ 64
  pub fields : H.fields ≤ 16
  pub classes : H.classes ≤ 16
  pub nul : H.nul.0 ≡ 0
  pub all : IsMask H (within H (λ x. true)) A.all
  pub typ : (x : Ref H) → get_or A.typ x.0 0 ≡ (H.typ x).0
  pub dty : (f : Field H) → get_or A.dty f.0 0 ≡ (H.dty f).0
  pub having : (x : Ref H) (f : Field H) → bit_at (get_or A.having f.0 0) x.0 ≡ H.le (H.typ x) (H.dty f)
  pub under : (b c : Class H) → bit_at (get_or A.under b.0 0) c.0 ≡ H.le b c

-- A VALUE'S NUMBER AND ROW, as one of a sort: the number of a reference, a field or a class, a region's mask, a heap value's row
abbrev pub ShowsAs : (H : FiniteHeap) → Sort → Value H → ℕ → List ℕ → Type 0
ShowsAs H Sort.Reference v m row = m ≡ (as_ref v).0
ShowsAs H Sort.Region v m row = IsMask H (as_region v) m
ShowsAs H Sort.Heap v m row = IsRow H (as_store v) row
ShowsAs H Sort.Field v m row = m ≡ (as_field v).0
ShowsAs H Sort.Class v m row = m ≡ (as_class v).0

abbrev pub Shows : (H : FiniteHeap) → Value H → ℕ → List ℕ → Type 0
Shows H v = ShowsAs H (kind v) v

-- EQUALITY of two values of a sort: rows are compared for heap values, numbers for all others
abbrev pub same_shown : Sort → ℕ → ℕ → List ℕ → List ℕ → Bool
same_shown s m n row row' = cond (same_sort Sort.Heap s) (same_bytes row row') (eqb m n)
