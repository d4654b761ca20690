-- A further term shown: an operation or a variable.
use mathlib.Core.Path.{◌≡◌, sym, ◌∙◌, subst}
use mathlib.Core.List.{List}
use Prim.Native.Nat.{ℕ, ◌+◌, ◌<◌, ◌≤◌}
use native.Mathlib.Numerals.{add-one}
use Rattle.tableau.specs.declared.Sort.{Sort}
use Rattle.tableau.specs.declared.Name.{Name}
use Rattle.tableau.specs.Terms.{TermNo, Table, variable, at, max_terms}
use Rattle.packing.specs.declared.TermView.{TermView}
use Rattle.packing.specs.Packing.{Packable, name_limit}
use Rattle.packing.proofs.ViewLaws.{variable_of}
use Rattle.table.specs.Held.{Entries, ViewAt}
use Rattle.facts.specs.declared.StoredFact.{StoredFact}
use Rattle.regions.specs.declared.HeapTables.{HeapTables}
use Rattle.term_values.specs.declared.TermValues.{TermValues}
use Rattle.term_values.specs.Values.{Computed}
use Rattle.term_values.proofs.OperationLaws.{shown_none, operation_shown}
use Rattle.variables.specs.Variables.{VariableRead}
use Rattle.variables.proofs.ValueLaws.{variable_more}
use Rattle.evaluation.specs.Heaps.{heap_of, values_of}
use Rattle.evaluator.specs.Values.{TermsShown}

pub none_shown : {terms : List ℕ} {held : List StoredFact} {tables : HeapTables} {values : TermValues} → TermsShown terms held tables values 0
none_shown = record { shown = λ facts ordered table F p G E wf. shown_none _ _ _ _ _ }

-- the view of a variable has its name in its bounds
pub variable_at : (table : Table) (terms : List ℕ) → Entries table terms → (t : TermNo) (view : TermView) → ViewAt table t view → (s : Sort) (n : Name) → view ≡ TermView.Variable s n
    → (at table t ≡ variable s n.0) × (n.0 < name_limit)
variable_at table terms E t view W s n e =
    let q = variable_of (at table t) s n (sym e ∙ sym W.is) in
    (q, subst Packable q (E.packable t))

module _ {terms : List ℕ} {held : List StoredFact} {tables : HeapTables} {values : TermValues} {t : TermNo} (T : TermsShown terms held tables values t)
    (few : t ≤ max_terms) {after : TermValues} where
  pub with_variable : (s : Sort) (x : Name) → ((table : Table) → Entries table terms → at table t ≡ variable s x.0)
      → VariableRead held s x.0 values.numbers values.rows after.numbers after.rows t → TermsShown terms held tables after (t + 1)
  with_variable s x is D = record {
    shown = λ facts ordered table F p G E wf. rw (add-one t)
        (variable_more held F p ordered s x.0 values.numbers values.rows after.numbers after.rows t few D table wf (is table E) (T.shown facts ordered table F p G E wf));
  }

  pub with_operation : {view : TermView} → ((table : Table) → Entries table terms → ViewAt table t view) → ((s : Sort) (x : Name) → view ≡ TermView.Variable s x → ⊥)
      → Computed tables view values.numbers values.rows after.numbers after.rows t → TermsShown terms held tables after (t + 1)
  with_operation {view} is o C = record {
    shown = λ facts ordered table F p G E wf. rw (add-one t)
        (operation_shown table wf (heap_of facts ordered) (values_of facts ordered) values.numbers values.rows after.numbers after.rows t (T.shown facts ordered table F p G E wf) tables G view (is table E) o few C);
  }
