-- An operation that is computed from arguments that are shown is shown.
use mathlib.Core.Path.{◌≡◌, refl, sym, ◌∙◌, ap, subst, subst₂}
use mathlib.Core.List.{List}
use mathlib.Core.Logic.{◌⊎◌, inl, inr}
use Prim.Native.Nat.{ℕ, suc, ◌+◌, ◌*◌, ◌%◌, ◌<◌, ◌≤◌}
use native.Mathlib.Nat.{mod-eq_of_lt, eq-or-lt_of_le, le_of_suc-le-suc}
use native.Mathlib.Omega.{arith}
use lib.Bits.{bit_and}
use lib.ListN.{length, get_or, set}
use lib.Seq.{get_or-set_same, get_or-set_other}
use Rattle.tableau.specs.declared.Sort.{Sort}
use Rattle.tableau.specs.declared.Operator.{Operator}
use Rattle.tableau.specs.Basics.{Four}
use Rattle.tableau.specs.Fields.{Argument, unused, of, arguments, if_argument}
use Rattle.tableau.specs.Terms.{TermNo, Table, Term, variable, apply, at, max_terms}
use Rattle.tableau.specs.Meaning.{same, image, FiniteHeap, Ref, Field, Value, reference, as_ref, as_region, as_store, as_field, within, operation, Values, value}
use Rattle.tableau.proofs.WellFormed.{OkArgument, OkTerm, WellFormed}
use Rattle.tableau.proofs.Match.{value_apply, kind_value, argument_values}
use Rattle.packing.specs.declared.TermView.{TermView}
use Rattle.packing.specs.Packing.{name_of, view_apply, view_of, number}
use Rattle.tableau.specs.declared.Name.{Name}
use Rattle.table.specs.Held.{ViewAt}
use Rattle.regions.specs.declared.HeapTables.{HeapTables}
use Rattle.regions.specs.Masks.{IsMask, IsRow, row_length, entry, one_bit, image_mask}
use Rattle.regions.specs.Shown.{HoldHeap, ShowsAs, Shows}
use Rattle.regions.proofs.MaskMeaning.{mask_emp, mask_cup, mask_cap, mask_dif, mask_sin, mask_img}
use Rattle.regions.proofs.RowMeaning.{row_wri}
use Rattle.regions.proofs.LiteralLaws.{shown_as}
use Rattle.term_values.specs.Values.{number_at, row_of, rows_length, operation_number, RowComputed, Computed}
use Rattle.term_values.specs.Shown.{ShownBelow}
use Rattle.term_values.proofs.RowLaws.{earlier_row}

-- an argument is shown as one of the sort asked
abbrev ArgumentShown : (H : FiniteHeap) → Argument → Value H → ℕ → List ℕ → Type 0
ArgumentShown H unused v m row = Unit {0}
ArgumentShown H (of s) v m row = ShowsAs H s v m row

module _ (H : FiniteHeap) (A : HeapTables) (G : HoldHeap H A) where
  -- references and fields are read as they are
  ref_mod : (x : Ref H) (m : ℕ) → m ≡ x.0 → m % 64 ≡ x.0
  ref_mod x m e = ap (λ (n : ℕ). n % 64) e ∙ mod-eq_of_lt (let l : x.0 < 64 = omega (arith, x.1, G.references) in l)

  field_mod : (f : Field H) (m : ℕ) → m ≡ f.0 → m % 16 ≡ f.0
  field_mod f m e = ap (λ (n : ℕ). n % 16) e ∙ mod-eq_of_lt (let l : f.0 < 16 = omega (arith, f.1, G.fields) in l)

  module _ (numbers rows new : List ℕ) (t : TermNo) (k : Four TermNo) (v : Four (Value H)) where
    abbrev num : TermNo → ℕ
    num = number_at numbers

    abbrev row : TermNo → List ℕ
    row = row_of rows

    -- THE TWELVE OPERATORS
    shows_operation : (o : Operator) → ArgumentShown H (arguments o).a v.a (num k.a) (row k.a) → ArgumentShown H (arguments o).b v.b (num k.b) (row k.b)
        → ArgumentShown H (arguments o).c v.c (num k.c) (row k.c) → ArgumentShown H (arguments o).d v.d (num k.d) (row k.d)
        → RowComputed (view_apply o k) numbers rows new t → Shows H (operation H o v) (operation_number A (view_apply o k) numbers rows) (row_of new t)
    unfolding operation_number view_apply operation arguments
    shows_operation Operator.Nul a b c d R = sym G.nul
    shows_operation Operator.Rea a b c d R =
        (λ i. entry (row k.a) (ref_mod (as_ref v.b) (num k.b) b i) (field_mod (as_field v.c) (num k.c) c i)) ∙ a.entries (as_ref v.b) (as_field v.c)
    shows_operation Operator.Emp a b c d R = mask_emp H
    shows_operation Operator.All a b c d R = G.all
    shows_operation Operator.Cup a b c d R = mask_cup H (as_region v.a) (as_region v.b) (num k.a) (num k.b) a b
    shows_operation Operator.Cap a b c d R = mask_cap H (as_region v.a) (as_region v.b) (num k.a) (num k.b) a b
    shows_operation Operator.Dif a b c d R = mask_dif H (as_region v.a) (as_region v.b) (num k.a) (num k.b) a b
    shows_operation Operator.Sin a b c d R =
        subst (λ (n : ℕ). IsMask H (within H (λ x. same x (as_ref v.a))) (bit_and A.all (one_bit n))) (sym a) (mask_sin H G.references A.all G.all (as_ref v.a))
    shows_operation Operator.Img a b c d R =
        subst (λ (n : ℕ). IsMask H (within H (image H (as_store v.a) (as_region v.b) (as_field v.c))) (image_mask (row k.a) (num k.b) (get_or A.having n 0) n A.all))
        (sym (field_mod (as_field v.c) (num k.c) c))
        (mask_img H G.references A.all G.all (as_store v.a) (as_region v.b) (as_field v.c) (row k.a) (num k.b)
        (get_or A.having (as_field v.c).0 0) a b (λ x. G.having x (as_field v.c)))
    shows_operation Operator.Wri a b c d R =
        subst (IsRow H _) (sym (R.row (number k.a) (number k.b) (number k.c) (number k.d) refl
        ∙ (λ i. set (row k.a) (ref_mod (as_ref v.b) (num k.b) b i * 16 + field_mod (as_field v.c) (num k.c) c i) (ref_mod (as_ref v.d) (num k.d) d i))))
        (row_wri H G.references G.fields (as_store v.a) (row k.a) (as_ref v.b) (as_field v.c) (as_ref v.d) a)
    shows_operation Operator.Typ a b c d R = ap (λ (n : ℕ). get_or A.typ n 0) (ref_mod (as_ref v.a) (num k.a) a) ∙ G.typ (as_ref v.a)
    shows_operation Operator.Dty a b c d R = ap (λ (n : ℕ). get_or A.dty n 0) (field_mod (as_field v.a) (num k.a) a) ∙ G.dty (as_field v.a)

-- no term is below 0
pub shown_none : (H : FiniteHeap) (ρ : Values H) (table : Table) (numbers rows : List ℕ) → ShownBelow H ρ table numbers rows 0
unfolding ShownBelow
shown_none H ρ table numbers rows s l = absurd (omega arith)

-- A FURTHER TERM of the table
module _ (table : Table) (wf : WellFormed (at table)) (H : FiniteHeap) (ρ : Values H) (numbers rows numbers' rows' : List ℕ) (t : TermNo)
    (before : ShownBelow H ρ table numbers rows t) where
  -- its number and row are written, and those of the earlier terms stay
  pub shown_more : ((s : TermNo) → s < t → number_at numbers' s ≡ number_at numbers s) → ((j : ℕ) → j < t * row_length → get_or rows' j 0 ≡ get_or rows j 0)
      → length rows ≡ rows_length → length rows' ≡ rows_length → t ≤ max_terms → Shows H (value ρ (at table) t) (number_at numbers' t) (row_of rows' t)
      → ShownBelow H ρ table numbers' rows' (suc t)
  unfolding ShownBelow
  shown_more same earlier p q few shown s l = go (eq-or-lt_of_le (le_of_suc-le-suc l))
    where
      go : (s ≡ t) ⊎ (s < t) → Shows H (value ρ (at table) s) (number_at numbers' s) (row_of rows' s)
      go (inl e) = subst (λ (n : ℕ). Shows H (value ρ (at table) n) (number_at numbers' n) (row_of rows' n)) (sym e) shown
      go (inr m) = subst₂ (Shows H (value ρ (at table) s)) (sym (same s m)) (sym (earlier_row rows rows' t s earlier p q few m)) (before s m)

  argument_shown : (u : Argument) (n : TermNo) → OkArgument (at table) t u n
      → ArgumentShown H u (if_argument u (value ρ (at table) n) (reference H.nul)) (number_at numbers n) (row_of rows n)
  unfolding ShownBelow
  argument_shown unused n ok = tt
  argument_shown (of s) n ok = shown_as H s (value ρ (at table) n) (number_at numbers n) (row_of rows n) (kind_value (at table) wf H ρ n ∙ ok.1) (before n ok.0)

  operation_here : (A : HeapTables) → HoldHeap H A → (o : Operator) (k : Four TermNo) → at table t ≡ apply o k → RowComputed (view_apply o k) numbers rows rows' t
      → Shows H (value ρ (at table) t) (operation_number A (view_apply o k) numbers rows) (row_of rows' t)
  operation_here A G o k e R =
      let ok : OkTerm (at table) t (apply o k) = subst (OkTerm (at table) t) e (wf.ok t) in
      subst (λ (v : Value H). Shows H v (operation_number A (view_apply o k) numbers rows) (row_of rows' t)) (sym (value_apply (at table) wf H ρ t o k e))
      (shows_operation H A G numbers rows rows' t k (argument_values (at table) wf H ρ o k) o
      (argument_shown (arguments o).a k.a ok.0) (argument_shown (arguments o).b k.b ok.1)
      (argument_shown (arguments o).c k.c ok.2) (argument_shown (arguments o).d k.d ok.3) R)

  -- an operation, once it is computed
  pub operation_shown : (A : HeapTables) → HoldHeap H A → (view : TermView) → ViewAt table t view → ((s : Sort) (n : Name) → view ≡ TermView.Variable s n → ⊥)
      → t ≤ max_terms → Computed A view numbers rows numbers' rows' t → ShownBelow H ρ table numbers' rows' (suc t)
  operation_shown A G view w o few C = go (at table t) refl
    where
      go : (e : Term) → at table t ≡ e → ShownBelow H ρ table numbers' rows' (suc t)
      go (variable s n) e = absurd (o s (name_of n) (sym (ap view_of (sym e) ∙ w.is)))
      go (apply x k) e =
          let same : view_apply x k ≡ view = ap view_of (sym e) ∙ w.is in
          let own : number_at numbers' t ≡ operation_number A (view_apply x k) numbers rows =
          ap (λ (l : List ℕ). number_at l t) C.number ∙ get_or-set_same numbers t _ 0 (omega (arith, C.wide)) ∙ ap (λ (v : TermView). operation_number A v numbers rows) (sym same) in
          shown_more (λ s l. ap (λ (z : List ℕ). number_at z s) C.number ∙ get_or-set_other numbers t s _ 0 (λ z. omega arith)) C.row.earlier C.long (C.row.size ∙ C.long) few
          (subst (λ (m : ℕ). Shows H (value ρ (at table) t) m (row_of rows' t)) (sym own)
          (operation_here A G x k e (subst (λ (v : TermView). RowComputed v numbers rows rows' t) (sym same) C.row)))
