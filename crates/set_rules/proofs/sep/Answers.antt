-- `sep` answers what its row says.
use mathlib.Core.Path.{refl}
use Rattle.tableau.specs.declared.Relation.{Relation}
use Rattle.rules.proofs.Laws.{computing, is_not}
use Rattle.rules.proofs.Rows.{met, other_p, other_q, unmet}
use Rattle.set_rules.proofs.Regions.{separated}
use Rattle.set_rules.proofs.sep.Goals as goal

-- q is not v ni s
pub returns-in_default : goal.returns-in_default
unfolding computing
returns-in_default c =
    let q = c.args.q in
    other_q q refl c.in_default.is-0 (λ table. refl) (is_not Relation.Ni q c.in_default.not-Ni-1)

-- p is not u in r
pub returns-in_default-2 : goal.returns-in_default-2
unfolding computing
returns-in_default-2 c =
    let p = c.args.p in other_p p refl (is_not Relation.In p c.in_default.not-In-0)

-- the regions differ
pub returns-then-ne : goal.returns-then-ne
returns-then-ne c = unmet (separated c.in-In-Ni.is-0 c.in-In-Ni.is-1) c.ne.ensures c.if-ne.true

pub returns : goal.returns
returns c =
    met (separated c.in-In-Ni.is-0 c.in-In-Ni.is-1) c.ne.ensures c.if-ne.false
    (rw c.literal.ensures at c.adds_one.ensures)
