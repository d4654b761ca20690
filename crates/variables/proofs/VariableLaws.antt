-- The number and the row that are read of a variable.
use mathlib.Core.Path.{◌≡◌, refl, sym, ◌∙◌, ap}
use mathlib.Core.List.{List, ◌++◌}
use mathlib.Core.Logic.{◌⊎◌, inl, inr}
use Prim.Native.Nat.{ℕ, ◌+◌, ◌*◌, ◌-◌, ◌<◌, ◌≤◌}
use native.Mathlib.Omega.{arith}
use lib.ListN.{length, get_or, take, drop, length-take, length-drop, get_or-append}
use lib.Seq.{get_or-take, get_or-drop, get_or-append-add, length-take-le}
use borrow.Rule.Slice.PartMut.{mid_of, post_of, put_mid, same_len_mid, drop_put}
use Rattle.tableau.specs.declared.Sort.{Sort}
use Rattle.tableau.specs.Terms.{Name, TermNo, max_terms}
use Rattle.evaluation.specs.declared.FactWord.{FactWord}
use Rattle.evaluation.specs.Facts.{fact_index}
use Rattle.facts.specs.declared.StoredFact.{StoredFact}
use Rattle.facts.specs.Keys.{pack_key, value_at}
use Rattle.regions.specs.Masks.{row_length}
use Rattle.heap_tables.specs.Scans.{key_at, IsScattered}
use Rattle.term_values.specs.Values.{rows_length}
use Rattle.variables.specs.Variables.{IsHeapRow, RowRead}

-- a variable of another sort has no row
pub row_kept : (facts : List StoredFact) (n : Name) (rows : List ℕ) (t : TermNo) (s : Sort) → (s ≡ Sort.Heap → ⊥)
    → RowRead facts s n rows rows t
row_kept facts n rows t Sort.Reference o = refl
row_kept facts n rows t Sort.Region o = refl
row_kept facts n rows t Sort.Heap o = absurd (o refl)
row_kept facts n rows t Sort.Field o = refl
row_kept facts n rows t Sort.Class o = refl

-- the part of the rows that is lent for the row t
part_length : (rows : List ℕ) (t : TermNo) → t ≤ max_terms → length rows ≡ rows_length → length (mid_of (t * row_length) (t * row_length + row_length - t * row_length) rows) ≡ row_length
part_length rows t l e =
    omega (arith, length-take (t * row_length + row_length - t * row_length) (drop (t * row_length) rows), length-drop (t * row_length) rows)

pub part_low : (rows : List ℕ) (t : TermNo) → t ≤ max_terms → length rows ≡ rows_length → length (mid_of (t * row_length) (t * row_length + row_length - t * row_length) rows) ≤ 1024
part_low rows t l e = omega (arith, part_length rows t l e)

module _ (facts : List StoredFact) (n : Name) (base : ℕ) (rows out : List ℕ) (t : TermNo) (few : t ≤ max_terms) (size : length rows ≡ rows_length)
    (e : base ≡ pack_key (fact_index FactWord.Arv) n 0 0) where
  abbrev from : ℕ
  from = t * row_length

  abbrev part : ℕ
  part = t * row_length + row_length - t * row_length

  pub row_put : IsScattered facts base 4 (mid_of (t * row_length) (t * row_length + row_length - t * row_length) rows) out
      → IsHeapRow facts n rows (put_mid (t * row_length) (t * row_length + row_length - t * row_length) rows out) t
  row_put S = record {
    size = same_len_mid from part rows out S.size;
    entries = λ p l. at_part p l ∙ S.entries p (omega (arith, long)) ∙ ap (λ (k : ℕ). value_at facts (key_at k 4 p)) e;
    others = λ j o. outside j o;
  }
    where
      long : length out ≡ row_length
      long = S.size ∙ part_length rows t few size

      before : length (take from rows) ≡ from
      before = length-take-le from rows (omega arith)

      at_part : (p : ℕ) → p < row_length → get_or (put_mid from part rows out) (from + p) 0 ≡ get_or out p 0
      at_part p l =
          ap (λ (k : ℕ). get_or (put_mid from part rows out) (k + p) 0) (sym before)
          ∙ get_or-append-add (take from rows) (out ++ post_of from part rows) p 0
          ∙ get_or-append out (post_of from part rows) 0 p (omega (arith, long))

      outside : (j : ℕ) → (j < from) ⊎ (from + row_length ≤ j) → get_or (put_mid from part rows out) j 0 ≡ get_or rows j 0
      outside j (inl l) = get_or-append (take from rows) (out ++ post_of from part rows) 0 j (omega (arith, before)) ∙ get_or-take from rows j 0 l
      outside j (inr l) =
          let i : from + row_length + (j - (from + row_length)) ≡ j = omega arith in
          ap (λ (k : ℕ). get_or (put_mid from part rows out) k 0) (sym i)
          ∙ sym (get_or-drop (from + row_length) (put_mid from part rows out) (j - (from + row_length)) 0)
          ∙ ap (λ (r : List ℕ). get_or r (j - (from + row_length)) 0) (drop_put from (from + row_length) rows out (omega arith) (omega arith) (omega (arith, long)))
          ∙ get_or-drop (from + row_length) rows (j - (from + row_length)) 0 ∙ ap (λ (k : ℕ). get_or rows k 0) i

-- the rows keep their length
pub row_size : (facts : List StoredFact) (s : Sort) (n : Name) (old new : List ℕ) (t : TermNo) → RowRead facts s n old new t → length new ≡ length old
row_size facts Sort.Reference n old new t R = ap length R
row_size facts Sort.Region n old new t R = ap length R
row_size facts Sort.Heap n old new t R = R.size
row_size facts Sort.Field n old new t R = ap length R
row_size facts Sort.Class n old new t R = ap length R
