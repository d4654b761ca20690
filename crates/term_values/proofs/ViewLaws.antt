-- The arguments of a view.
use mathlib.Core.Path.{◌≡◌, refl, subst}
use mathlib.Core.List.{List, [], ◌∷◌}
use Prim.Native.Nat.{ℕ, ◌≤◌, ◌<◌}
use native.Mathlib.Omega.{arith}
use Rattle.tableau.specs.declared.TermNumber.{TermNumber}
use Rattle.tableau.specs.declared.Operator.{Operator}
use Rattle.tableau.specs.Basics.{Four}
use Rattle.tableau.specs.Fields.{arguments}
use Rattle.tableau.specs.Terms.{TermNo, Table, Term, variable, apply, at}
use Rattle.tableau.proofs.WellFormed.{OkTerm, WellFormed}
use Rattle.packing.specs.declared.TermView.{TermView}
use Rattle.packing.specs.Packing.{view_apply, view_of}
use Rattle.table.specs.Held.{ViewAt}
use Rattle.term_values.specs.Values.{view_arguments, AllBelow, RowComputed}

-- of a view that an arm knows
pub arguments_of_lem : (n : ℕ) {view w : TermView} → view ≡ w → AllBelow n (view_arguments view) → AllBelow n (view_arguments w)
arguments_of_lem n e l = subst (λ (x : TermView). AllBelow n (view_arguments x)) e l

pub below_more : (m n : ℕ) → m ≤ n → (k : List TermNo) → AllBelow m k → AllBelow n k
below_more m n l [] b = tt
below_more m n l (x ∷ k) b = ((let o : x < n = omega (arith, b.0) in o), below_more m n l k b.1)

-- a row that is not written
pub row_kept : (numbers rows : List ℕ) (t : TermNo) (view : TermView) → ((h x f v : TermNumber) → view ≡ TermView.Wri h x f v → ⊥)
    → RowComputed view numbers rows rows t
row_kept numbers rows t view o = record { row = λ h x f v e. absurd (o h x f v e); size = refl; earlier = λ j l. refl }

-- the arguments of a term of the table are earlier
operation_below : (table : TermNo → Term) (t : TermNo) (o : Operator) (k : Four TermNo) → OkTerm table t (apply o k) → AllBelow t (view_arguments (view_apply o k))
unfolding view_apply arguments
operation_below table t Operator.Nul k ok = tt
operation_below table t Operator.Rea k ok = (ok.0.0, (ok.1.0, (ok.2.0, tt)))
operation_below table t Operator.Emp k ok = tt
operation_below table t Operator.All k ok = tt
operation_below table t Operator.Cup k ok = (ok.0.0, (ok.1.0, tt))
operation_below table t Operator.Cap k ok = (ok.0.0, (ok.1.0, tt))
operation_below table t Operator.Dif k ok = (ok.0.0, (ok.1.0, tt))
operation_below table t Operator.Sin k ok = (ok.0.0, tt)
operation_below table t Operator.Img k ok = (ok.0.0, (ok.1.0, (ok.2.0, tt)))
operation_below table t Operator.Wri k ok = (ok.0.0, (ok.1.0, (ok.2.0, (ok.3.0, tt))))
operation_below table t Operator.Typ k ok = (ok.0.0, tt)
operation_below table t Operator.Dty k ok = (ok.0.0, tt)

term_below : (table : TermNo → Term) (t : TermNo) (e : Term) → OkTerm table t e → AllBelow t (view_arguments (view_of e))
term_below table t (variable s n) ok = tt
term_below table t (apply o k) ok = operation_below table t o k ok

pub view_below : (table : Table) → WellFormed (at table) → (t : TermNo) (view : TermView) → ViewAt table t view → AllBelow t (view_arguments view)
view_below table wf t view e = arguments_of_lem t e.is (term_below (at table) t (at table t) (wf.ok t))
