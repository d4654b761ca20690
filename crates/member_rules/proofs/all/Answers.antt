-- `all` answers what its row says.
use mathlib.Core.Path.{refl}
use Rattle.tableau.specs.declared.Relation.{Relation}
use Rattle.rules.proofs.Laws.{computing, is_not}
use Rattle.rules.proofs.Rows.{named, not_named, other_p, passes_on}
use Rattle.member_rules.proofs.all.Goals as goal

-- p is not u in r
pub returns-in_default : goal.returns-in_default
unfolding computing
returns-in_default c = let p = c.args.p in other_p p refl (is_not Relation.In p c.in_default.not-In)

-- `all` does not stand in the table
pub returns-in_err-a : goal.returns-in_err-a
unfolding computing
returns-in_err-a c =
    passes_on c.from_residual.ensures.1
    (not_named refl refl c.in-In.is c.on_none.ensures c.in_err-a.was)

-- it does
pub returns : goal.returns
unfolding computing
returns c =
    named refl refl c.in-In.is c.on_none.ensures c.in_ok-a.was
    (rw c.literal.ensures at c.adds_one.ensures)
