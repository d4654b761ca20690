use mathlib.Core.Path.{refl, ap}
use Rattle.tableau.specs.declared.Relation.{Relation}
use Rattle.packing.specs.Packing.{literal_of}
use Rattle.rules.proofs.Laws.{computing, is_not}
use Rattle.rules.proofs.Rows.{met, other_p, other_q, unmet}
use Rattle.equality_rules.proofs.Chains.{chained}
use Rattle.equality_rules.proofs.order.transitive.Goals as goal

-- q is of another relation
pub returns-in_default : goal.returns-in_default
unfolding computing
returns-in_default c =
    let q = c.args.q in
    other_q q refl c.in_default.is-0 (λ table. refl) (is_not Relation.Le q c.in_default.not-Le-1)

-- p is
pub returns-in_default-2 : goal.returns-in_default-2
unfolding computing
returns-in_default-2 c =
    let p = c.args.p in other_p p refl (is_not Relation.Le p c.in_default.not-Le-0)

-- whether q's left side is b decides
pub returns-then-ne : goal.returns-then-ne
unfolding computing
returns-then-ne c =
    unmet (chained refl (ap literal_of c.in-Le-Le.is-0)
    (ap literal_of c.in-Le-Le.is-1)) c.ne.ensures c.if-ne.true

pub returns : goal.returns
unfolding computing
returns c =
    met (chained refl (ap literal_of c.in-Le-Le.is-0)
    (ap literal_of c.in-Le-Le.is-1)) c.ne.ensures c.if-ne.false
    (rw c.literal.ensures at c.adds_one.ensures)
