-- A variable, or an operation.
use mathlib.Core.Path.{◌≡◌}
use Prim.Native.Nat.{◌<◌}
use Rattle.tableau.specs.Terms.{Table, variable, at}
use Rattle.packing.specs.Packing.{name_limit}
use Rattle.table.specs.Held.{Entries}
use Rattle.term_values.proofs.ViewLaws.{view_below}
use Rattle.evaluator.proofs.ValueLaws.{variable_at, with_variable, with_operation}
use Rattle.evaluator.proofs.values.term_value.Goals as goal
use Rattle.evaluator.proofs.values.term_value.Goals.{In-Variable}

is_variable : (c : goal.In-Variable) (table : Table) → Entries table c.args.terms.now
    → (at table c.args.t.0 ≡ variable c.in-Variable.sort c.in-Variable.name.0) × (c.in-Variable.name.0 < name_limit)
is_variable c table E = variable_at table _ E _ _ (c.view.ensures table E) _ _ c.in-Variable.is

pub read_variable-requires : goal.read_variable-requires
read_variable-requires c = ((is_variable (goal.at.read_variable-requires c).In-Variable c.requires.entries.0 c.requires.entries.1).1, c.requires.few)

pub returns-in-Variable : goal.returns-in-Variable
returns-in-Variable c =
    with_variable c.requires.terms_shown c.requires.few _ _ (λ table E. (is_variable (goal.at.returns-in-Variable c).In-Variable table E).0) c.read_variable.ensures

pub operation-requires : goal.operation-requires
operation-requires c = let e = c.requires.entries in (view_below e.0 e.2 _ _ (c.view.ensures e.0 e.1), c.requires.few)

pub returns-in_default : goal.returns-in_default
returns-in_default c = with_operation c.requires.terms_shown c.requires.few c.view.ensures c.in_default.not-Variable c.operation.ensures
