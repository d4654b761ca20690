-- A row copied, and one of its bytes changed.
use mathlib.Core.Path.{◌≡◌, sym, ◌∙◌, ap}
use mathlib.Core.List.{List}
use mathlib.Core.Bool.{true, false}
use mathlib.Core.Logic.{◌⊎◌, inl, inr}
use Prim.Native.Nat.{ℕ, ◌+◌, ◌*◌, ◌-◌, ◌<◌, ◌≤◌}
use native.Mathlib.Omega.{arith}
use lib.Dec.{eqb}
use lib.ListN.{length, get_or, set, length-set}
use lib.Seq.{get_or-set_same, get_or-set_other, ext_get_or}
use borrow.Author.Tests.{eqb-true, eqb-false}
use Rattle.std.specs.List.{CopiedTo, SameBelow}
use Rattle.tableau.specs.Terms.{max_terms}
use Rattle.tableau.proofs.Bools.{dec}
use Rattle.regions.specs.Masks.{row_length}
use Rattle.term_values.specs.Values.{row_of, rows_length, Written}
use Rattle.term_values.proofs.RowLaws.{row_length_lem, row_entry}

module _ (old rows : List ℕ) (h t : ℕ) (n : ℕ) (row : n ≡ row_length) (lower : h < t) (few : t ≤ max_terms) (e : length old ≡ rows_length) (kept : length rows ≡ length old)
    (copied : CopiedTo old rows (h * row_length) (t * row_length) n) (earlier : SameBelow old rows (t * row_length)) where
  pub row_copied : (k value : ℕ) → k < row_length → Written old (set rows (t * row_length + k) value) h t k value
  row_copied k value room = record {
    row = ext_get_or 0 (row_of new t) (set (row_of old h) k value) (row_length_lem new t few (size ∙ e) ∙ sym (length-set (row_of old h) k value ∙ row_length_lem old h (omega arith) e))
        (λ j l. let m : j < row_length = omega (arith, row_length_lem new t few (size ∙ e)) in row_entry new t j m ∙ at j m (dec (eqb j k)));
    size = size;
    earlier = λ j l. get_or-set_other rows (t * row_length + k) j value 0 (λ z. omega arith) ∙ earlier j 0 l;
  }
    where
      new : List ℕ
      new = set rows (t * row_length + k) value

      size : length new ≡ length old
      size = length-set rows (t * row_length + k) value ∙ kept

      at : (j : ℕ) → j < row_length → (eqb j k ≡ true) ⊎ (eqb j k ≡ false) → get_or new (t * row_length + j) 0 ≡ get_or (set (row_of old h) k value) j 0
      at j l (inl z) =
          ap (λ (n : ℕ). get_or new (t * row_length + n) 0) (eqb-true j k z) ∙ get_or-set_same rows (t * row_length + k) value 0 (omega (arith, kept, e))
          ∙ sym (ap (λ (n : ℕ). get_or (set (row_of old h) k value) n 0) (eqb-true j k z)
          ∙ get_or-set_same (row_of old h) k value 0 (omega (arith, row_length_lem old h (let m : h ≤ max_terms = omega arith in m) e)))
      at j l (inr z) =
          get_or-set_other rows (t * row_length + k) (t * row_length + j) value 0 (λ q. eqb-false j k z (omega arith)) ∙ copied (t * row_length + j) 0 (omega arith) (omega arith)
          ∙ ap (λ (i : ℕ). get_or old i 0) (let i : h * row_length + (t * row_length + j - t * row_length) ≡ h * row_length + j = omega arith in i)
          ∙ sym (get_or-set_other (row_of old h) k j value 0 (eqb-false j k z) ∙ row_entry old h j l)
