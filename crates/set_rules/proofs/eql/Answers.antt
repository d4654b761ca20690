-- `eql` answers what its row says.
use mathlib.Core.Path.{refl}
use Rattle.tableau.specs.declared.Relation.{Relation}
use Rattle.rules.proofs.Laws.{agree, computing, differ, is_not}
use Rattle.rules.proofs.Rows.{other_p, where_false, where_true}
use Rattle.set_rules.proofs.Regions.{carried, no_member}
use Rattle.set_rules.proofs.eql.Goals as goal
use Rattle.set_rules.proofs.eql.Goals.{then-not-are_regions-via-then-not-are_regions}
use Rattle.set_rules.proofs.eql.Goals.{then-not-are_regions-via-else-not-are_regions+then-ne}

-- q is not u in x
pub returns-in_default : goal.returns-in_default
unfolding computing
returns-in_default c =
    let q = c.args.q in
    no_member refl c.in_default.is-0 q (is_not Relation.In q c.in_default.not-In-1)

-- p is not r eq s
pub returns-in_default-2 : goal.returns-in_default-2
unfolding computing
returns-in_default-2 c =
    let p = c.args.p in other_p p refl (is_not Relation.Eq p c.in_default.not-Eq-0)

-- one of them is no region, or x is another
pub returns-then-not-are_regions : goal.returns-then-not-are_regions
unfolding computing
returns-then-not-are_regions c =
    where_false (carried refl c.in-Eq-In.is-0 c.in-Eq-In.is-1 c.are_regions.ensures refl refl)
    (elim c.then-not-are_regions.branch [
      | then-not-are_regions-via-then-not-are_regions w ↦ rw w.if-not-are_regions.true
      | then-not-are_regions-via-else-not-are_regions+then-ne w ↦
          rw (w.if-not-are_regions.false, differ w.ne.ensures w.if-ne.true)
    ])

pub returns : goal.returns
unfolding computing
returns c =
    where_true (carried refl c.in-Eq-In.is-0 c.in-Eq-In.is-1 c.are_regions.ensures refl refl)
    (rw (c.if-not-are_regions.false, agree c.ne.ensures c.if-ne.false))
    (rw c.literal.ensures at c.adds_one.ensures)
