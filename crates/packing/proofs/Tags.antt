-- An enum without payload is cast to the number that the specification gives it; the sort that a
-- number stands for.
use mathlib.Core.Path.{◌≡◌, refl, sym, ◌∙◌, ap, ap₂}
use mathlib.Core.Bool.{Bool}
use mathlib.Core.Logic.{inl, inr}
use mathlib.Core.List.{List, [], ◌∷◌}
use Prim.Native.Nat.{ℕ, ◌%◌}
use lib.Dec.{eqb}
use lib.ListN.{get_or}
use borrow.Author.Tests.{eq-eqb, ne_eqb, eqb-true, eqb-false}
use denote.Enum.Bare.{sameb}
use denote.Enum.Declared.{tag_of}
use Rattle.tableau.specs.declared.Sort.{Sort}
use Rattle.tableau.specs.declared.Operator.{Operator}
use Rattle.tableau.specs.declared.Relation.{Relation}
use Rattle.tableau.specs.contracts.Sort as sort-type
use Rattle.tableau.specs.contracts.Operator as operator-type
use Rattle.tableau.specs.contracts.Relation as relation-type
use Rattle.tableau.proofs.Bools.{dec}
use Rattle.tableau.specs.Terms.{Term, sort_index, operator_index, relation_index, sort_of, same_sort}
use Rattle.packing.specs.Packing.{pack_term}
use Rattle.packing.proofs.PackingLaws.{pack_sort}

pub sort_tag : (s : Sort) → tag_of sort-type.the_type s ≡ sort_index s
unfolding sort_index
sort_tag Sort.Reference = refl
sort_tag Sort.Region = refl
sort_tag Sort.Heap = refl
sort_tag Sort.Field = refl
sort_tag Sort.Class = refl

pub operator_tag : (o : Operator) → tag_of operator-type.the_type o ≡ operator_index o
unfolding operator_index
operator_tag Operator.Nul = refl
operator_tag Operator.Rea = refl
operator_tag Operator.Emp = refl
operator_tag Operator.All = refl
operator_tag Operator.Cup = refl
operator_tag Operator.Cap = refl
operator_tag Operator.Dif = refl
operator_tag Operator.Sin = refl
operator_tag Operator.Img = refl
operator_tag Operator.Wri = refl
operator_tag Operator.Typ = refl
operator_tag Operator.Dty = refl

pub relation_tag : (R : Relation) → tag_of relation-type.the_type R ≡ relation_index R
unfolding relation_index
relation_tag Relation.In = refl
relation_tag Relation.Ni = refl
relation_tag Relation.Eq = refl
relation_tag Relation.Ne = refl
relation_tag Relation.Le = refl
relation_tag Relation.Nl = refl

-- `==` of sorts is the specification's test, either way round
pub same_sorts : (s r : Sort) → sameb sort-type.the_type s r ≡ same_sort s r
same_sorts s r = ap₂ eqb (sort_tag s) (sort_tag r)

pub sort_is : {b : Bool} {s s' : Sort} (r : Sort) → b ≡ sameb sort-type.the_type s r → s ≡ s'
    → b ≡ same_sort r s'
sort_is {b} {s} {s'} r e q = e ∙ same_sorts s r ∙ turned (sort_index s) (sort_index r)
    ∙ ap (same_sort r) q
  where
    turned : (m n : ℕ) → eqb m n ≡ eqb n m
    turned m n = elim (dec (eqb m n)) [
      | inl p ↦ p ∙ sym (eq-eqb n m (sym (eqb-true m n p)))
      | inr p ↦ p ∙ sym (ne_eqb n m (λ e. eqb-false m n p (sym e)))
    ]

-- THE SORT of a packed term, by its low bits
unfoldable pub coded_sorts : List Sort
coded_sorts = Sort.Reference ∷ Sort.Region ∷ Sort.Heap ∷ Sort.Field ∷ []

unfoldable pub sort_at : ℕ → Sort
unfolding coded_sorts
sort_at k = get_or coded_sorts k Sort.Class

sort_back : (s : Sort) → sort_at (sort_index s) ≡ s
unfolding sort_at sort_index
sort_back Sort.Reference = refl
sort_back Sort.Region = refl
sort_back Sort.Heap = refl
sort_back Sort.Field = refl
sort_back Sort.Class = refl

pub sort_coded : (e : Term) (p k : ℕ) → p ≡ pack_term e → p % 8 ≡ k → sort_at k ≡ sort_of e
sort_coded e p k q h = ap sort_at (sym h ∙ ap (λ (n : ℕ). n % 8) q ∙ pack_sort e)
    ∙ sort_back (sort_of e)
