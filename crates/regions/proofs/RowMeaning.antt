-- Heap values as rows follow the meaning: rows that are equal; one entry changed.
use mathlib.Core.Path.{◌≡◌, sym, ◌∙◌, ap, subst}
use mathlib.Core.Bool.{Bool, true, false, cond}
use mathlib.Core.List.{List}
use mathlib.Core.Logic.{◌⊎◌, inl, inr}
use Prim.Native.Nat.{ℕ, ◌/◌, ◌%◌, ◌<◌, ◌≤◌}
use native.Mathlib.Omega.{arith}
use lib.Dec.{ltb}
use lib.ListN.{length, get_or, set, length-set}
use lib.Seq.{get_or-set_same, get_or-set_other, ext_get_or}
use borrow.Author.Tests.{eqb-true, eq-eqb, ltb-true, ltb-false}
use Rattle.tableau.specs.Basics.{same_bytes}
use Rattle.tableau.specs.Meaning.{◌and◌, same, FiniteHeap, Ref, Field, Store, write}
use Rattle.tableau.proofs.Bools.{dec, clash, and_l, and_r, and_i}
use Rattle.tableau.proofs.Checks.{same_bytes_lem}
use Rattle.evaluation.specs.Orders.{each_out}
use Rattle.evaluation.specs.Evaluation.{same_store}
use Rattle.evaluation.proofs.Decision.{each_in}
use Rattle.regions.specs.Masks.{IsRow, place, entry, row_length}
use Rattle.regions.proofs.MaskLaws.{bool_iff}
use Rattle.regions.proofs.RowLaws.{bytes_refl}

module _ (H : FiniteHeap) (few : H.references ≤ 64) (few_fields : H.fields ≤ 16) where
  module _ (h k : Store H) (g g' : List ℕ) (D : IsRow H h g) (E : IsRow H k g') where
    pub row_eq : same_store H h k ≡ same_bytes g g'
    unfolding same_store
    row_eq = bool_iff (same_store H h k) (same_bytes g g')
        (λ s. subst (λ (x : List ℕ). same_bytes g x ≡ true)
        (ext_get_or 0 g g' (D.size ∙ sym E.size) (λ i l. at s i (omega (arith, D.size)) (dec (ltb (i / 16) H.references)) (dec (ltb (i % 16) H.fields)))) (bytes_refl g))
        (λ e. each_in H.references _ (λ x. each_in H.fields _ (λ f. eq-eqb (h x f).0 (k x f).0
        (sym (D.entries x f) ∙ ap (λ (r : List ℕ). entry r x.0 f.0) (same_bytes_lem g g' e) ∙ E.entries x f))))
      where
        at : same_store H h k ≡ true → (i : ℕ) → i < row_length
            → (ltb (i / 16) H.references ≡ true) ⊎ (ltb (i / 16) H.references ≡ false) → (ltb (i % 16) H.fields ≡ true) ⊎ (ltb (i % 16) H.fields ≡ false)
            → get_or g i 0 ≡ get_or g' i 0
        at s i l (inl a) (inl c) =
            let x : Ref H = (i / 16, ltb-true (i / 16) H.references a) in
            let f : Field H = (i % 16, ltb-true (i % 16) H.fields c) in
            let j : i ≡ place (i / 16) (i % 16) = omega arith in
            ap (λ (n : ℕ). get_or g n 0) j ∙ D.entries x f ∙ eqb-true (h x f).0 (k x f).0 (each_out H.fields _ (each_out H.references _ s x) f)
            ∙ sym (E.entries x f) ∙ ap (λ (n : ℕ). get_or g' n 0) (sym j)
        at s i l (inr a) c = let o = inl (ltb-false (i / 16) H.references a) in D.outside i l o ∙ sym (E.outside i l o)
        at s i l (inl a) (inr c) = let o = inr (ltb-false (i % 16) H.fields c) in D.outside i l o ∙ sym (E.outside i l o)

  pub row_wri : (h : Store H) (row : List ℕ) (u : Ref H) (f : Field H) (v : Ref H) → IsRow H h row
      → IsRow H (write H h u f v) (set row (place u.0 f.0) v.0)
  row_wri h row u f v D = record {
    size = length-set row (place u.0 f.0) v.0 ∙ D.size;
    entries = λ y g. at y g (dec (same u y and same f g));
    outside = λ i l o. get_or-set_other row (place u.0 f.0) i v.0 0 (apart i o) ∙ D.outside i l o;
  }
    where
      room : place u.0 f.0 < length row
      room = omega (arith, u.1, f.1, D.size)

      at : (y : Ref H) (g : Field H) → (same u y and same f g ≡ true) ⊎ (same u y and same f g ≡ false)
          → entry (set row (place u.0 f.0) v.0) y.0 g.0 ≡ (write H h u f v y g).0
      at y g (inl e) =
          let a = eqb-true u.0 y.0 (and_l _ _ e) in
          let b = eqb-true f.0 g.0 (and_r (same u y) _ e) in
          ap (λ (n : ℕ). get_or (set row (place u.0 f.0) v.0) n 0) (let j : place y.0 g.0 ≡ place u.0 f.0 = omega arith in j)
          ∙ get_or-set_same row (place u.0 f.0) v.0 0 room ∙ ap (λ (t : Bool). (cond t v (h y g)).0) (sym e)
      at y g (inr e) =
          get_or-set_other row (place u.0 f.0) (place y.0 g.0) v.0 0
          (λ j. clash (and_i (eq-eqb u.0 y.0 (omega (arith, f.1, g.1))) (eq-eqb f.0 g.0 (omega (arith, f.1, g.1)))) e)
          ∙ D.entries y g ∙ ap (λ (t : Bool). (cond t v (h y g)).0) (sym e)

      apart : (i : ℕ) → (H.references ≤ i / 16) ⊎ (H.fields ≤ i % 16) → i ≡ place u.0 f.0 → ⊥
      apart i (inl o) e = omega (arith, u.1, f.1)
      apart i (inr o) e = omega (arith, u.1, f.1)
