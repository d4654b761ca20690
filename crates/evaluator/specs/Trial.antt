-- The state after the checker file's lines, in arrays.
use Rattle.std.specs.Prelude.{◌≡◌, ◌≤◌, length}
use Rattle.tableau.specs.Terms.{disjuncts, at}
use Rattle.tableau.specs.Tree.{max_places}
use Rattle.tableau.specs.Reply.{State}
use Rattle.tableau.proofs.WellFormed.{WellFormed}
use Rattle.evaluation.specs.Evaluation.{assumptions_of}
use Rattle.clauses.specs.Held.{ClausesHeld}
use Rattle.table.specs.Held.{Entries}
use Rattle.evaluator.specs.declared.assumptions.Assumptions.{Assumptions}
use Rattle.evaluator.specs.Assumptions.{literals_of, AllAssumptions}

pub record StateHeld (σ : State) (a : Assumptions) : Type 0 where
  pub entries : Entries σ.table a.terms.now
  pub count : a.count ≡ length σ.table
  pub well_formed : WellFormed (at σ.table)
  pub room : length a.branch.now ≤ max_places
  pub literals : assumptions_of σ.status ≡ literals_of a.branch.now
  pub checked : AllAssumptions σ.table (literals_of a.branch.now)
  pub clauses : ClausesHeld σ.clauses a.clauses.now a.last
  pub disjuncts' : AllAssumptions σ.table (disjuncts σ.clauses)
