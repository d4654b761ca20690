-- What fits a pattern has the pattern's value.
use mathlib.Core.Path.{◌≡◌, refl, sym, ◌∙◌, ap, subst, subst₃}
use mathlib.Core.Bool.{true, false, cond}
use mathlib.Core.List.{List, [], ◌∷◌}
use Rattle.std.specs.Prelude.{Option, None, Some, slice_get}
use mathlib.Core.Logic.{◌⊎◌, inl, inr}
use Prim.Native.Nat.{ℕ, zero, suc}
use lib.Dec.{eqb}
use lib.ListN.{get_or}
use borrow.Author.Tests.{eqb-true}
use Rattle.tableau.specs.declared.Sort.{Sort}
use Rattle.tableau.specs.declared.Operator.{Operator}
use Rattle.tableau.specs.declared.Relation.{Relation}
use Rattle.tableau.specs.Basics.{Four, four}
use Rattle.tableau.specs.Fields.{Argument, unused, of, argument_use, arguments, if_argument}
use Rattle.tableau.specs.Terms.{TermNo, Term, variable, apply, Literal, literal, result, sort_of, sort_index, operator_index, relation_index, same_sort, same_operator, same_relation, layer}
use Rattle.tableau.specs.Meaning.{FiniteHeap, Value, reference, operation, Values, value_of, value, Holds, True, AllTrue, kind}
use Rattle.tableau.specs.Rules.{Pattern, letter, operator, –, LiteralPattern, pattern, Need, p∶, q∶, is, is_region}
use Rattle.tableau.specs.Steps.{Letters, fits_letter, arguments_of, fits, fits_literal, term_of, met}
use Rattle.tableau.proofs.Bools.{dec, eqb_same, none≢some, some_inj, then_inv, guard_inv}
use Rattle.tableau.proofs.WellFormed.{OkArgument, OkTerm, WellFormed}
use Rattle.tableau.proofs.Fold.{fold_eq}
use Rattle.tableau.proofs.RowMeaning.{⟦◌⟧, Asked, IfArgument, Sorted, IfHolds, IfMet}

-- operators, relations and sorts are equal where their indices are
operator_at : ℕ → Operator
operator_at n = get_or (Operator.Nul ∷ Operator.Rea ∷ Operator.Emp ∷ Operator.All ∷ Operator.Cup ∷ Operator.Cap ∷ Operator.Dif ∷ Operator.Sin
    ∷ Operator.Img ∷ Operator.Wri ∷ Operator.Typ ∷ Operator.Dty ∷ []) n Operator.Nul

operator_back : (o : Operator) → operator_at (operator_index o) ≡ o
unfolding operator_at operator_index
operator_back Operator.Nul = refl
operator_back Operator.Rea = refl
operator_back Operator.Emp = refl
operator_back Operator.All = refl
operator_back Operator.Cup = refl
operator_back Operator.Cap = refl
operator_back Operator.Dif = refl
operator_back Operator.Sin = refl
operator_back Operator.Img = refl
operator_back Operator.Wri = refl
operator_back Operator.Typ = refl
operator_back Operator.Dty = refl

pub same_operator_lem : (o o' : Operator) → same_operator o o' ≡ true → o ≡ o'
same_operator_lem o o' e = sym (operator_back o) ∙ ap operator_at (eqb-true _ _ e) ∙ operator_back o'

relation_at_lem : ℕ → Relation
relation_at_lem n = get_or (Relation.In ∷ Relation.Ni ∷ Relation.Eq ∷ Relation.Ne ∷ Relation.Le ∷ Relation.Nl ∷ []) n Relation.In

relation_back : (R : Relation) → relation_at_lem (relation_index R) ≡ R
unfolding relation_at_lem relation_index
relation_back Relation.In = refl
relation_back Relation.Ni = refl
relation_back Relation.Eq = refl
relation_back Relation.Ne = refl
relation_back Relation.Le = refl
relation_back Relation.Nl = refl

pub same_relation_lem : (R R' : Relation) → same_relation R R' ≡ true → R ≡ R'
same_relation_lem R R' e = sym (relation_back R) ∙ ap relation_at_lem (eqb-true _ _ e) ∙ relation_back R'

sort_at_lem : ℕ → Sort
sort_at_lem n = get_or (Sort.Reference ∷ Sort.Region ∷ Sort.Heap ∷ Sort.Field ∷ Sort.Class ∷ []) n Sort.Region

sort_back : (s : Sort) → sort_at_lem (sort_index s) ≡ s
unfolding sort_at_lem sort_index
sort_back Sort.Reference = refl
sort_back Sort.Region = refl
sort_back Sort.Heap = refl
sort_back Sort.Field = refl
sort_back Sort.Class = refl

pub same_sort_lem : (s s' : Sort) → same_sort s s' ≡ true → s ≡ s'
same_sort_lem s s' e = sym (sort_back s) ∙ ap sort_at_lem (eqb-true _ _ e) ∙ sort_back s'

pub arguments_inv : (o : Operator) (e : Term) (k : Four TermNo) → arguments_of o e ≡ Some k → e ≡ apply o k
arguments_inv o (variable s n) k e = none≢some e
arguments_inv o (apply o' k') k e =
    let g = guard_inv (same_operator o o') (Some k') e in
    λ i. apply (sym (same_operator_lem o o' g.0) i) (some_inj g.1 i)

-- a field that is no term leaves the letters as they are
pub if_argument_inv : (fld : Argument) (m : Option Letters) (σ σ' : Letters) → if_argument fld m (Some σ) ≡ Some σ' → (m ≡ Some σ') ⊎ (σ ≡ σ')
if_argument_inv unused m σ σ' e = inr (some_inj e)
if_argument_inv (of s) m σ σ' e = inl e

-- letters bound stay bound
abbrev pub Extends : Letters → Letters → Type 0
Extends σ σ' = (x m : ℕ) → σ x ≡ Some m → σ' x ≡ Some m

same_extends : (σ σ' : Letters) → σ ≡ σ' → Extends σ σ'
same_extends σ σ' e x m h = ap (λ (s : Letters). s x) (sym e) ∙ h

letter_extends : (m : Option ℕ) (x n : ℕ) (σ σ' : Letters) → σ x ≡ m → fits_letter m x n σ ≡ Some σ' → Extends σ σ'
letter_extends None x n σ σ' f e z k h = go (dec (eqb z x))
  where
    go : (eqb z x ≡ true) ⊎ (eqb z x ≡ false) → σ' z ≡ Some k
    go (inl p) = none≢some (sym f ∙ ap σ (sym (eqb-true z x p)) ∙ h)
    go (inr p) = ap (λ (s : Letters). s z) (sym (some_inj e)) ∙ ap (λ c. cond c (Some n) (σ z)) p ∙ h
letter_extends (Some m) x n σ σ' f e z k h = same_extends σ σ' (some_inj (guard_inv (eqb m n) (Some σ) e).1) z k h

-- a letter that fits stands for the term
letter_bound : (m : Option ℕ) (x n : ℕ) (σ σ' : Letters) → σ x ≡ m → fits_letter m x n σ ≡ Some σ' → σ' x ≡ Some n
letter_bound None x n σ σ' f e = ap (λ (s : Letters). s x) (sym (some_inj e)) ∙ ap (λ c. cond c (Some n) (σ x)) (eqb_same x)
letter_bound (Some m) x n σ σ' f e =
    let g = guard_inv (eqb m n) (Some σ) e in
    ap (λ (s : Letters). s x) (sym (some_inj g.1)) ∙ f ∙ ap Some (eqb-true m n g.0)

module _ (table : TermNo → Term) where
  -- what it means that the operator's pattern fits, field by field
  pub record OperatorFits (o : Operator) (k l m j : Pattern) (n : TermNo) (σ σ' : Letters) : Type 0 where
    pub arguments' : Four TermNo
    pub σ₁ : Letters
    pub σ₂ : Letters
    pub σ₃ : Letters
    pub is : table n ≡ apply o arguments'
    pub first : if_argument (arguments o).a (fits table k arguments'.a σ) (Some σ) ≡ Some σ₁
    pub second : if_argument (arguments o).b (fits table l arguments'.b σ₁) (Some σ₁) ≡ Some σ₂
    pub third : if_argument (arguments o).c (fits table m arguments'.c σ₂) (Some σ₂) ≡ Some σ₃
    pub fourth : if_argument (arguments o).d (fits table j arguments'.d σ₃) (Some σ₃) ≡ Some σ'

  pub fields_inv : (o : Operator) (k l m j : Pattern) (n : TermNo) (σ σ' : Letters) → fits table (operator o k l m j) n σ ≡ Some σ'
      → OperatorFits o k l m j n σ σ'
  unfolding fits
  fields_inv o k l m j n σ σ' e =
      let i = then_inv (arguments_of o (table n)) _ e in
      let f = then_inv (if_argument (arguments o).a (fits table k i.0.a σ) (Some σ)) _ i.2 in
      let g = then_inv (if_argument (arguments o).b (fits table l i.0.b f.0) (Some f.0)) _ f.2 in
      let h = then_inv (if_argument (arguments o).c (fits table m i.0.c g.0) (Some g.0)) _ g.2 in
      record {
        arguments' = i.0;
        σ₁ = f.0;
        σ₂ = g.0;
        σ₃ = h.0;
        is = arguments_inv o (table n) i.0 i.1;
        first = f.1;
        second = g.1;
        third = h.1;
        fourth = h.2;
      }

  field_extends : (fld : Argument) (m : Option Letters) (σ σ' : Letters) → if_argument fld m (Some σ) ≡ Some σ'
      → (m ≡ Some σ' → Extends σ σ') → Extends σ σ'
  field_extends fld m σ σ' e k = elim (if_argument_inv fld m σ σ' e) [ inl h ↦ k h | inr h ↦ same_extends σ σ' h ]

  fits_extends : (k : Pattern) (n : TermNo) (σ σ' : Letters) → fits table k n σ ≡ Some σ' → Extends σ σ'
  unfolding fits
  fits_extends (letter x) n σ σ' e = letter_extends (σ x) x n σ σ' refl e
  fits_extends (operator o k l m j) n σ σ' e =
      let d = fields_inv o k l m j n σ σ' e in
      λ x i b.
      field_extends (arguments o).d _ d.σ₃ σ' d.fourth (λ q. fits_extends j d.arguments'.d d.σ₃ σ' q) x i
      (field_extends (arguments o).c _ d.σ₂ d.σ₃ d.third (λ q. fits_extends m d.arguments'.c d.σ₂ d.σ₃ q) x i
      (field_extends (arguments o).b _ d.σ₁ d.σ₂ d.second (λ q. fits_extends l d.arguments'.b d.σ₁ d.σ₂ q) x i
      (field_extends (arguments o).a _ σ d.σ₁ d.first (λ q. fits_extends k d.arguments'.a σ d.σ₁ q) x i b)))
  fits_extends – n σ σ' e = none≢some e

-- the sort of a value is that of its term
kind_operation : (H : FiniteHeap) (o : Operator) (v : Four (Value H)) → kind (operation H o v) ≡ result o
unfolding operation result
kind_operation H Operator.Nul v = refl
kind_operation H Operator.Rea v = refl
kind_operation H Operator.Emp v = refl
kind_operation H Operator.All v = refl
kind_operation H Operator.Cup v = refl
kind_operation H Operator.Cap v = refl
kind_operation H Operator.Dif v = refl
kind_operation H Operator.Sin v = refl
kind_operation H Operator.Img v = refl
kind_operation H Operator.Wri v = refl
kind_operation H Operator.Typ v = refl
kind_operation H Operator.Dty v = refl

kind_variable : (H : FiniteHeap) (ρ : Values H) (s : Sort) (n : ℕ) → kind (value_of ρ s n) ≡ s
unfolding value_of
kind_variable H ρ Sort.Reference n = refl
kind_variable H ρ Sort.Region n = refl
kind_variable H ρ Sort.Heap n = refl
kind_variable H ρ Sort.Field n = refl
kind_variable H ρ Sort.Class n = refl

module _ (table : TermNo → Term) (wf : WellFormed table) (H : FiniteHeap) (ρ : Values H) where
  abbrev pub val : TermNo → Value H
  val = value ρ table

  abbrev nul' : Value H
  nul' = reference H.nul

  -- the value of each field of an operator's term
  abbrev pub argument_values : Operator → Four TermNo → Four (Value H)
  argument_values o k = four (if_argument (arguments o).a (val k.a) nul') (if_argument (arguments o).b (val k.b) nul')
      (if_argument (arguments o).c (val k.c) nul') (if_argument (arguments o).d (val k.d) nul')

  abbrev look : Term → TermNo → Value H
  look e t = layer (λ t. value_of ρ) (λ t. operation H) nul' table t e val

  value_eq : (t : TermNo) → val t ≡ look (table t) t
  value_eq t = fold_eq (λ t. value_of ρ) (λ t. operation H) nul' table wf t

  pub value_apply : (t : TermNo) (o : Operator) (k : Four TermNo) → table t ≡ apply o k → val t ≡ operation H o (argument_values o k)
  unfolding layer
  value_apply t o k e = value_eq t ∙ ap (λ x. look x t) e

  -- terms with one operator and arguments of equal values have equal values
  pub same_application : (t w : TermNo) (o : Operator) (k l : Four TermNo) → table t ≡ apply o k → table w ≡ apply o l
      → val k.a ≡ val l.a → val k.b ≡ val l.b → val k.c ≡ val l.c → val k.d ≡ val l.d → val t ≡ val w
  same_application t w o k l p q a b c d =
      value_apply t o k p
      ∙ (λ i. operation H o (four (if_argument (arguments o).a (a i) nul') (if_argument (arguments o).b (b i) nul')
      (if_argument (arguments o).c (c i) nul') (if_argument (arguments o).d (d i) nul')))
      ∙ sym (value_apply w o l q)

  pub value_variable : (t : TermNo) (s : Sort) (n : ℕ) → table t ≡ variable s n → val t ≡ value_of ρ s n
  unfolding layer
  value_variable t s n e = value_eq t ∙ ap (λ x. look x t) e

  kind_look : (e : Term) (t : TermNo) → kind (look e t) ≡ sort_of e
  unfolding layer result
  kind_look (variable s n) t = kind_variable H ρ s n
  kind_look (apply o k) t = kind_operation H o (argument_values o k)

  pub kind_value : (t : TermNo) → kind (val t) ≡ sort_of (table t)
  kind_value t = ap kind (value_eq t) ∙ kind_look (table t) t

  -- φ gives each letter the value of the term that it stands for
  abbrev pub Under : Letters → (ℕ → Value H) → Type 0
  Under σ φ = (x m : ℕ) → σ x ≡ Some m → φ x ≡ val m

  abbrev pub Fits : Pattern → TermNo → (ℕ → Value H) → Type 0
  Fits k n φ = (val n ≡ ⟦◌⟧ H k φ) × Sorted H k φ

  -- the same of a field, which may be no term
  abbrev FieldFits : Argument → Pattern → TermNo → (ℕ → Value H) → Type 0
  FieldFits fld k n φ = (if_argument fld (val n) nul' ≡ if_argument fld (⟦◌⟧ H k φ) nul')
      × Asked H (argument_use fld) (⟦◌⟧ H k φ) × IfArgument H fld (Sorted H k φ)

  field_fits : (fld : Argument) (k : Pattern) (t n : TermNo) (σ σ' : Letters) (φ : ℕ → Value H) → OkArgument table t fld n
      → if_argument fld (fits table k n σ) (Some σ) ≡ Some σ' → (fits table k n σ ≡ Some σ' → Fits k n φ) → FieldFits fld k n φ
  unfolding result
  field_fits unused k t n σ σ' φ ok e f = (refl, tt, tt)
  field_fits (of s) k t n σ σ' φ ok e f = ((f e).0, sym (ap kind (f e).0) ∙ kind_value n ∙ ok.1, (f e).1)

  pub fits_value : (k : Pattern) (n : TermNo) (σ σ' : Letters) → fits table k n σ ≡ Some σ' → (φ : ℕ → Value H) → Under σ' φ → Fits k n φ
  unfolding fits
  fits_value (letter x) n σ σ' e φ u = (sym (u x n (letter_bound (σ x) x n σ σ' refl e)), tt)
  fits_value (operator o k l m j) n σ σ' e φ u =
      let d = fields_inv table o k l m j n σ σ' e in
      let n' = d.arguments' in
      let u₃ : Under d.σ₃ φ = λ x i b. u x i
      (field_extends table (arguments o).d _ d.σ₃ σ' d.fourth (fits_extends table j n'.d d.σ₃ σ') x i b) in
      let u₂ : Under d.σ₂ φ = λ x i b. u₃ x i
      (field_extends table (arguments o).c _ d.σ₂ d.σ₃ d.third (fits_extends table m n'.c d.σ₂ d.σ₃) x i b) in
      let u₁ : Under d.σ₁ φ = λ x i b. u₂ x i
      (field_extends table (arguments o).b _ d.σ₁ d.σ₂ d.second (fits_extends table l n'.b d.σ₁ d.σ₂) x i b) in
      let ok : OkTerm table n (apply o n') = subst (OkTerm table n) d.is (wf.ok n) in
      let K = field_fits (arguments o).a k n n'.a σ d.σ₁ φ ok.0 d.first (λ q. fits_value k n'.a σ d.σ₁ q φ u₁) in
      let L = field_fits (arguments o).b l n n'.b d.σ₁ d.σ₂ φ ok.1 d.second (λ q. fits_value l n'.b d.σ₁ d.σ₂ q φ u₂) in
      let M = field_fits (arguments o).c m n n'.c d.σ₂ d.σ₃ φ ok.2 d.third (λ q. fits_value m n'.c d.σ₂ d.σ₃ q φ u₃) in
      let J = field_fits (arguments o).d j n n'.d d.σ₃ σ' φ ok.3 d.fourth (λ q. fits_value j n'.d d.σ₃ σ' q φ u) in (
        value_apply n o n' d.is ∙ (λ i. operation H o (four (K.0 i) (L.0 i) (M.0 i) (J.0 i))),
        ((K.1, L.1, M.1, J.1), (K.2, L.2, M.2, J.2)),
      )
  fits_value – n σ σ' e φ u = none≢some e

  pub literal_value : (l : LiteralPattern) (L : Literal) (σ σ' : Letters) → fits_literal table l L σ ≡ Some σ' → (φ : ℕ → Value H) → Under σ' φ
      → True ρ table L → (G : Type 0) → IfHolds H φ l G → G
  unfolding fits_literal
  literal_value (pattern R k l) (literal R' m n) σ σ' e φ u t G f =
      let g = guard_inv (same_relation R R') _ e in
      let h = then_inv (fits table k m σ) _ g.1 in
      let K = fits_value k m σ h.0 h.1 φ (λ z i b. u z i (fits_extends table l n h.0 σ' h.2 z i b)) in
      let L = fits_value l n h.0 σ' h.2 φ u in
      f K.1 L.1 (subst₃ (λ (Q : Relation) (x y : Value H). Holds Q x y) (sym (same_relation_lem R R' g.0)) K.0 L.0 t)

  literal_extends : (l : LiteralPattern) (L : Literal) (σ σ' : Letters) → fits_literal table l L σ ≡ Some σ' → Extends σ σ'
  unfolding fits_literal
  literal_extends (pattern R k l) (literal R' m n) σ σ' e z i b =
      let g = guard_inv (same_relation R R') _ e in
      let h = then_inv (fits table k m σ) _ g.1 in
      fits_extends table l n h.0 σ' h.2 z i (fits_extends table k m σ h.0 h.1 z i b)

  term_of_bound : (k : Pattern) (σ : Letters) (n : TermNo) → term_of table k σ ≡ Some n → (φ : ℕ → Value H) → Under σ φ → ⟦◌⟧ H k φ ≡ val n
  term_of_bound (letter x) σ n e φ u = u x n e
  term_of_bound (operator o k l m j) σ n e φ u = none≢some e
  term_of_bound – σ n e φ u = none≢some e

  -- where P and Q, if there are any, are true
  abbrev pub IfAny : Option Literal → Type 0
  IfAny None = Unit {0}
  IfAny (Some L) = True ρ table L

  -- a literal on a true branch is true
  pub literal_true : (B : List Literal) (n : ℕ) → AllTrue ρ table B → IfAny (slice_get B n)
  literal_true [] n t = tt
  literal_true (l ∷ B) zero t = t.0
  literal_true (l ∷ B) (suc n) t = literal_true B n t.1

  any_true_lem : (P : Option Literal) (L : Literal) → P ≡ Some L → IfAny P → True ρ table L
  any_true_lem P L e h = subst IfAny e h

  module _ (P Q : Option Literal) where
    pub met_extends : (ns : List Need) (σ σ' : Letters) → met table ns P Q σ ≡ Some σ' → Extends σ σ'
    unfolding met
    met_extends [] σ σ' e x m b = same_extends σ σ' (some_inj e) x m b
    met_extends (p∶ l ∷ ns) σ σ' e x m b =
        let L = then_inv P _ e in
        let f = then_inv (fits_literal table l L.0 σ) _ L.2 in
        met_extends ns f.0 σ' f.2 x m (literal_extends l L.0 σ f.0 f.1 x m b)
    met_extends (q∶ l ∷ ns) σ σ' e x m b =
        let L = then_inv Q _ e in
        let f = then_inv (fits_literal table l L.0 σ) _ L.2 in
        met_extends ns f.0 σ' f.2 x m (literal_extends l L.0 σ f.0 f.1 x m b)
    met_extends (is y other k ∷ ns) σ σ' e x m b =
        let n = then_inv (σ y) _ e in
        let f = then_inv (fits table k n.0 σ) _ n.2 in
        met_extends ns f.0 σ' f.2 x m (fits_extends table k n.0 σ f.0 f.1 x m b)
    met_extends (is_region k ∷ ns) σ σ' e x m b =
        let n = then_inv (term_of table k σ) _ e in
        met_extends ns σ σ' (guard_inv (same_sort Sort.Region (sort_of (table n.0))) _ n.2).1 x m b

    -- needs that are met hold of the values
    pub met_value : (ns : List Need) (σ σ' : Letters) → met table ns P Q σ ≡ Some σ' → (φ : ℕ → Value H) → Under σ' φ
        → IfAny P → IfAny Q → (G : Type 0) → IfMet H φ ns G → G
    unfolding met result
    met_value [] σ σ' e φ u hp hq G k = k
    met_value (p∶ l ∷ ns) σ σ' e φ u hp hq G k =
        let L = then_inv P _ e in
        let f = then_inv (fits_literal table l L.0 σ) _ L.2 in
        met_value ns f.0 σ' f.2 φ u hp hq G
        (literal_value l L.0 σ f.0 f.1 φ (λ z j b. u z j (met_extends ns f.0 σ' f.2 z j b)) (any_true_lem P L.0 L.1 hp) _ k)
    met_value (q∶ l ∷ ns) σ σ' e φ u hp hq G k =
        let L = then_inv Q _ e in
        let f = then_inv (fits_literal table l L.0 σ) _ L.2 in
        met_value ns f.0 σ' f.2 φ u hp hq G
        (literal_value l L.0 σ f.0 f.1 φ (λ z j b. u z j (met_extends ns f.0 σ' f.2 z j b)) (any_true_lem Q L.0 L.1 hq) _ k)
    met_value (is y other l ∷ ns) σ σ' e φ u hp hq G k =
        let n = then_inv (σ y) _ e in
        let f = then_inv (fits table l n.0 σ) _ n.2 in
        let u₁ : Under f.0 φ = λ z j b. u z j (met_extends ns f.0 σ' f.2 z j b) in
        let X = fits_value l n.0 σ f.0 f.1 φ u₁ in
        let T : φ y ≡ val n.0 = u₁ y n.0 (fits_extends table l n.0 σ f.0 f.1 y n.0 n.1) in
        met_value ns f.0 σ' f.2 φ u hp hq G (k X.1 (T ∙ X.0))
    met_value (is_region l ∷ ns) σ σ' e φ u hp hq G k =
        let n = then_inv (term_of table l σ) _ e in
        let g = guard_inv (same_sort Sort.Region (sort_of (table n.0))) _ n.2 in
        met_value ns σ σ' g.1 φ u hp hq G
        (k (ap kind (term_of_bound l σ n.0 n.1 φ (λ z j b. u z j (met_extends ns σ σ' g.1 z j b)))
        ∙ kind_value n.0 ∙ sym (same_sort_lem Sort.Region _ g.0)))
