-- The invariant: the terms below t are shown.
use Rattle.evaluator.specs.Values.{TermsShown}
use Rattle.evaluator.proofs.values.term_values.Given as goal

abbrev pub invariant-loop-t : goal.invariant-loop-t
invariant-loop-t l = TermsShown l.terms l.facts l.tables l.values l.t
