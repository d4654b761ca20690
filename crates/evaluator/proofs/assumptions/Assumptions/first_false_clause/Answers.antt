use mathlib.Core.Path.{sym, subst}
use native.Mathlib.Omega.{arith}
use Rattle.evaluator.specs.Assumptions.{AllAssumptions}
use Rattle.evaluator.proofs.DisjunctionLaws.{clause_checked, all_met, false_clause_here, met_here}
use Rattle.evaluator.proofs.assumptions.Assumptions.first_false_clause.Goals as goal

pub any_true-requires-clause-entries : goal.any_true-requires-clause-entries
any_true-requires-clause-entries c =
    let p = c.requires in
    let S = c.span_of-span.ensures p.1 _ p.4 c.loop-k-test.true in
    (p.0, p.2, subst (AllAssumptions p.0) (sym S.literals) (clause_checked p.0 p.1 _ p.3))

pub returns-then-not-any_true : goal.returns-then-not-any_true
returns-then-not-any_true c C K =
    false_clause_here (c.loop-k.invariant C K) (omega (arith, c.loop-k-test.true, K.last)) (c.span_of-span.ensures C _ K c.loop-k-test.true) c.any_true.ensures c.if-not-any_true.true

pub loop-k-preserved : goal.loop-k-preserved
loop-k-preserved c C K =
    met_here (c.loop-k.invariant C K) (omega (arith, c.loop-k-test.true, K.last)) (c.span_of-span.ensures C _ K c.loop-k-test.true) c.any_true.ensures c.if-not-any_true.false

pub returns : goal.returns
returns c C K = all_met (c.loop-k.invariant C K) (omega (arith, K.last))

pub returns-else-not-any_true : goal.returns-else-not-any_true
returns-else-not-any_true c C K = all_met
    (met_here (c.loop-k.invariant C K) (omega (arith, c.loop-k-test.true, K.last)) (c.span_of-span.ensures C _ K c.loop-k-test.true) c.any_true.ensures c.if-not-any_true.false)
    (omega (arith, K.last))
