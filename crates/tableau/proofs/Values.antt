-- Facts on values.
use mathlib.Core.Path.{◌≡◌, refl, sym, ◌∙◌, ap}
use mathlib.Core.Bool.{true, Bool-set, false≢true}
use mathlib.Core.HLevel.{is_prop→PathP, Π_prop}
use mathlib.Core.Logic.{inl, inr}
use Rattle.tableau.specs.declared.Sort.{Sort}
use Rattle.tableau.specs.Meaning.{◌or◌, FiniteHeap, Region, within, Ref, Value, reference, region, heap, field, class, kind, is_ref, is_class, as_ref, as_region, as_store, as_field, as_class, is_le}
use Rattle.tableau.proofs.Bools.{and_i, and_l, and_r, or_e, or_i2, alike, dec, clash}

-- regions with the same members are equal
pub region_path : {H : FiniteHeap} (R S : Region H) → ((x : Ref H) → R.has x ≡ S.has x) → R ≡ S
region_path {H} R S e = λ i. record {
  has = λ x. e x i;
  inside = is_prop→PathP (λ j. (x : Ref H) → e x j ≡ true → H.all x ≡ true)
      (λ j. Π_prop (λ x. Π_prop (λ k. Bool-set (H.all x) true))) R.inside S.inside i;
}

-- a part of a region adds nothing to it
pub union_with_part : {H : FiniteHeap} (i r : Region H) → ((x : Ref H) → i.has x ≡ true → r.has x ≡ true) → within H (λ x. i.has x or r.has x) ≡ r
union_with_part i r part = region_path _ r (λ x. alike _ _ (dec _) (dec _)
    (λ c d. clash {b = r.has x} (elim (or_e (i.has x) (r.has x) (and_r _ _ c)) [ inl p ↦ part x p | inr p ↦ p ]) d)
    (λ c d. clash (and_i (r.inside x d) (or_i2 (i.has x) _ d)) c))

-- a value of a sort is that sort's constructor on what it holds
pub is_ref_lem : {H : FiniteHeap} (a : Value H) → is_ref a ≡ true → a ≡ reference (as_ref a)
is_ref_lem (reference x) e = refl
is_ref_lem (region x) e = absurd (false≢true e)
is_ref_lem (heap x) e = absurd (false≢true e)
is_ref_lem (field x) e = absurd (false≢true e)
is_ref_lem (class x) e = absurd (false≢true e)

pub is_class_lem : {H : FiniteHeap} (a : Value H) → is_class a ≡ true → a ≡ class (as_class a)
is_class_lem (reference x) e = absurd (false≢true e)
is_class_lem (region x) e = absurd (false≢true e)
is_class_lem (heap x) e = absurd (false≢true e)
is_class_lem (field x) e = absurd (false≢true e)
is_class_lem (class x) e = refl

-- the same, said once for the five sorts
module _ {H : FiniteHeap} where
  abbrev pub as_sort : Sort → Value H → Value H
  as_sort Sort.Reference a = reference (as_ref a)
  as_sort Sort.Region a = region (as_region a)
  as_sort Sort.Heap a = heap (as_store a)
  as_sort Sort.Field a = field (as_field a)
  as_sort Sort.Class a = class (as_class a)

  pub as_sort_lem : (a : Value H) (s : Sort) → kind a ≡ s → a ≡ as_sort s a
  as_sort_lem a s e = own a ∙ ap (λ k. as_sort k a) e
    where
      own : (a : Value H) → a ≡ as_sort (kind a) a
      own (reference x) = refl
      own (region x) = refl
      own (heap x) = refl
      own (field x) = refl
      own (class x) = refl

  pub as_ref_lem : (a : Value H) → kind a ≡ Sort.Reference → a ≡ reference (as_ref a)
  as_ref_lem a = as_sort_lem a Sort.Reference

  pub as_region_lem : (a : Value H) → kind a ≡ Sort.Region → a ≡ region (as_region a)
  as_region_lem a = as_sort_lem a Sort.Region

  pub as_field_lem : (a : Value H) → kind a ≡ Sort.Field → a ≡ field (as_field a)
  as_field_lem a = as_sort_lem a Sort.Field

  pub kind_class : (a : Value H) → kind a ≡ Sort.Class → is_class a ≡ true
  kind_class a e = ap is_class (as_sort_lem a Sort.Class e)

-- THE ORDER OF CLASSES, of values
module _ {H : FiniteHeap} where
  pub le_refl : (x : Value H) → kind x ≡ Sort.Class → is_le x x ≡ true
  le_refl x s = let c = kind_class x s in and_i (and_i c c) (H.le_refl (as_class x))

  pub le_trans : (x y z : Value H) → is_le x y ≡ true → is_le y z ≡ true → is_le x z ≡ true
  le_trans x y z i j = and_i (and_i (and_l _ _ (and_l _ _ i)) (and_r _ _ (and_l _ _ j))) (H.le_trans _ _ _ (and_r _ _ i) (and_r _ _ j))

  pub le_anti : (x y : Value H) → is_le x y ≡ true → is_le y x ≡ true → x ≡ y
  le_anti x y i j =
      is_class_lem x (and_l _ _ (and_l _ _ i)) ∙ ap class (H.le_anti _ _ (and_r _ _ i) (and_r _ _ j)) ∙ sym (is_class_lem y (and_r _ _ (and_l _ _ i)))
