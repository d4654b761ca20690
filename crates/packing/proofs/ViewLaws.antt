-- The arms of a `let .. else`: which variant a view is.
use mathlib.Core.Path.{◌≡◌, refl, ◌∙◌, ap, subst}
use mathlib.Core.Bool.{Bool, true, false}
use Prim.Native.Nat.{suc}
use native.Mathlib.Omega.{arith}
use denote.Enum.Declared as Declared
use Rattle.tableau.specs.declared.Sort.{Sort}
use Rattle.tableau.specs.declared.Name.{Name}
use Rattle.tableau.specs.declared.Operator.{Operator}
use Rattle.tableau.specs.declared.Relation.{Relation}
use Rattle.tableau.specs.Basics.{Four}
use Rattle.tableau.specs.Terms.{TermNo, Term, variable, apply, operator_index, sort_index, same_sort, same_relation}
use Rattle.tableau.specs.Steps.{is_rfv}
use Rattle.tableau.proofs.Match.{same_relation_lem}
use Rattle.tableau.specs.declared.TermNumber.{TermNumber}
use Rattle.packing.specs.declared.TermView.{TermView}
use Rattle.packing.specs.declared.LiteralView.{LiteralView}
use Rattle.packing.specs.Packing.{name_of, view_of, view_apply, relation_of, IsNot}
use Rattle.packing.specs.contracts.TermView as term-view

-- A LITERAL that has not the relation
abbrev pub Misses : Relation → LiteralView → Type 0
Misses Relation.In p = (m n : TermNumber) → p ≡ LiteralView.In m n → ⊥
Misses Relation.Ni p = (m n : TermNumber) → p ≡ LiteralView.Ni m n → ⊥
Misses Relation.Eq p = (m n : TermNumber) → p ≡ LiteralView.Eq m n → ⊥
Misses Relation.Ne p = (m n : TermNumber) → p ≡ LiteralView.Ne m n → ⊥
Misses Relation.Le p = (m n : TermNumber) → p ≡ LiteralView.Le m n → ⊥
Misses Relation.Nl p = (m n : TermNumber) → p ≡ LiteralView.Nl m n → ⊥

has_its_own : (p : LiteralView) → Misses (relation_of p) p → ⊥
has_its_own (LiteralView.In m n) h = h m n refl
has_its_own (LiteralView.Ni m n) h = h m n refl
has_its_own (LiteralView.Eq m n) h = h m n refl
has_its_own (LiteralView.Ne m n) h = h m n refl
has_its_own (LiteralView.Le m n) h = h m n refl
has_its_own (LiteralView.Nl m n) h = h m n refl

pub is_not : (R : Relation) (p : LiteralView) → Misses R p → IsNot R p
is_not R p h = go (same_relation R (relation_of p)) refl
  where
    go : (b : Bool) → same_relation R (relation_of p) ≡ b → same_relation R (relation_of p) ≡ false
    go true e = absurd (has_its_own p (subst (λ (Q : Relation). Misses Q p) (same_relation_lem R (relation_of p) e) h))
    go false e = e

-- the key of an operator's view
pub operator_tag : (o : Operator) (k : Four TermNo) → Declared.tag_of term-view.the_type (view_apply o k) ≡ suc (operator_index o)
unfolding operator_index view_apply
operator_tag Operator.Nul k = refl
operator_tag Operator.Rea k = refl
operator_tag Operator.Emp k = refl
operator_tag Operator.All k = refl
operator_tag Operator.Cup k = refl
operator_tag Operator.Cap k = refl
operator_tag Operator.Dif k = refl
operator_tag Operator.Sin k = refl
operator_tag Operator.Img k = refl
operator_tag Operator.Wri k = refl
operator_tag Operator.Typ k = refl
operator_tag Operator.Dty k = refl

-- a term whose view is no variable is no `rfv`
pub not_variable : (e : Term) (x : TermView) → x ≡ view_of e → ((s : Sort) (n : Name) → x ≡ TermView.Variable s n → ⊥) → is_rfv e ≡ false
not_variable (variable s n) x q h = absurd (h s (name_of n) q)
not_variable (apply o k) x q h = refl

-- a variable of another sort is none either
pub not_reference : (s : Sort) → (s ≡ Sort.Reference → ⊥) → same_sort Sort.Reference s ≡ false
unfolding sort_index
not_reference Sort.Reference h = absurd (h refl)
not_reference Sort.Region h = refl
not_reference Sort.Heap h = refl
not_reference Sort.Field h = refl
not_reference Sort.Class h = refl

-- the term of a view that is a variable
pub variable_of : (e : Term) (s : Sort) (n : Name) → TermView.Variable s n ≡ view_of e → e ≡ variable s n.0
variable_of (variable s' n') s n q =
    let z : s' ≡ s = cc in
    let w : name_of n' ≡ n = cc in
    λ i. variable (z i) (w i).0
variable_of (apply o k) s n q =
    let z : 0 ≡ suc (operator_index o) = ap (Declared.tag_of term-view.the_type) q ∙ operator_tag o k in absurd (omega arith)

pub view_variable : (e : Term) (s : Sort) (n : Name) → TermView.Variable s n ≡ view_of e → is_rfv e ≡ same_sort Sort.Reference s
view_variable e s n q = ap is_rfv (variable_of e s n q)
