-- `dfi` answers what its row says.
use mathlib.Core.Path.{refl, ap}
use Rattle.tableau.specs.declared.Relation.{Relation}
use Rattle.packing.specs.Packing.{literal_of}
use Rattle.rules.proofs.Laws.{computing, is_dif, is_not}
use Rattle.rules.proofs.Rows.{met, other_p, other_q, other_term, unmet}
use Rattle.set_rules.proofs.Regions.{joins}
use Rattle.set_rules.proofs.dfi.Goals as goal

-- q is of another relation
pub returns-in_default : goal.returns-in_default
unfolding computing
returns-in_default c =
    let q = c.args.q in
    other_q q refl c.in_default.is-0 (λ table. refl) (is_not Relation.Ni q c.in_default.not-Ni-1)

-- p is
pub returns-in_default-2 : goal.returns-in_default-2
unfolding computing
returns-in_default-2 c =
    let p = c.args.p in other_p p refl (is_not Relation.In p c.in_default.not-In-0)

-- t is not dif(a,b)
pub returns-in_default-view : goal.returns-in_default-view
unfolding computing
returns-in_default-view c =
    let k = c.in-In-Ni in
    other_term refl refl (ap literal_of k.is-0)
    (ap literal_of k.is-1) c.view.ensures c.in_default-view.not-Dif

-- the references differ, or the regions are not a and b
pub returns-then-ne : goal.returns-then-ne
unfolding computing
returns-then-ne c =
    let k = c.in-In-Ni in
    unmet (joins refl refl (ap literal_of k.is-0) (ap literal_of k.is-1)
    (λ e. is_dif e _ _) c.in-Dif.is c.view.ensures) c.ne.ensures c.if-ne.true

pub returns : goal.returns
unfolding computing
returns c =
    let k = c.in-In-Ni in
    met (joins refl refl (ap literal_of k.is-0) (ap literal_of k.is-1)
    (λ e. is_dif e _ _) c.in-Dif.is c.view.ensures) c.ne.ensures c.if-ne.false
    (rw c.literal.ensures at c.adds_one.ensures)
