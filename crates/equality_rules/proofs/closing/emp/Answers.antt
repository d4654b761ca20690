-- `emp` answers what its row says.
use mathlib.Core.Path.{refl, ◌∙◌}
use Rattle.tableau.specs.declared.Relation.{Relation}
use Rattle.tableau.specs.Terms.{at}
use Rattle.rules.proofs.Laws.{computing, is_emp, is_not}
use Rattle.rules.proofs.Rows.{other_p, other_region}
use Rattle.equality_rules.proofs.closing.emp.Goals as goal

-- u in emp
pub returns : goal.returns
unfolding computing
returns c =
    record {
      room = tt;
      answers = λ table h fresh.
          rw (
            c.in-In.is,
            (is_emp (at table c.in-In.r.0)
                ((c.view.ensures table h).is ∙ c.in-Emp.is)).1,
          );
    }

-- p is not u in r
pub returns-in_default : goal.returns-in_default
unfolding computing
returns-in_default c = let p = c.args.p in other_p p refl (is_not Relation.In p c.in_default.not-In)

-- r is not emp
pub returns-in_default-view : goal.returns-in_default-view
unfolding computing
returns-in_default-view c =
    other_region refl refl c.in-In.is c.view.ensures c.in_default-view.not-Emp
