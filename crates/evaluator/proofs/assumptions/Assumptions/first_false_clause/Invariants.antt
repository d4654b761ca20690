-- The invariant: every clause before k has a true literal.
use Rattle.tableau.specs.Terms.{Clauses}
use Rattle.clauses.specs.Held.{ClausesHeld}
use Rattle.evaluator.proofs.DisjunctionLaws.{MetBefore}
use Rattle.evaluator.proofs.assumptions.Assumptions.first_false_clause.Given as goal

abbrev pub invariant-loop-k : goal.invariant-loop-k
invariant-loop-k l = (C : Clauses) → ClausesHeld C l.self.clauses.now l.self.last → MetBefore C l.self.terms.now l.values l.tables l.k
