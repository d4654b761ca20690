-- `cue` answers what its row says.
use mathlib.Core.Path.{refl}
use Rattle.tableau.specs.declared.Relation.{Relation}
use Rattle.rules.proofs.Laws.{computing, is_cup, is_not}
use Rattle.rules.proofs.Rows.{other_p, other_region, parted}
use Rattle.set_rules.proofs.cue.Goals as goal

pub returns : goal.returns
unfolding computing
returns c =
    parted refl refl c.in-In.is c.in-Cup.is (λ e. is_cup e _ _) c.view.ensures (λ table. refl)
    (rw (c.literal.ensures, c.literal-2.ensures) at c.splits.ensures)

-- p is not u in x
pub returns-in_default : goal.returns-in_default
unfolding computing
returns-in_default c = let p = c.args.p in other_p p refl (is_not Relation.In p c.in_default.not-In)

-- x is not cup(r,s)
pub returns-in_default-view : goal.returns-in_default-view
unfolding computing
returns-in_default-view c =
    other_region refl refl c.in-In.is c.view.ensures c.in_default-view.not-Cup
