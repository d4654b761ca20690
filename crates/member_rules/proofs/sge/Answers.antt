-- `sge` answers what its row says.
use mathlib.Core.Path.{refl, ◌∙◌}
use Rattle.tableau.specs.declared.Relation.{Relation}
use Rattle.tableau.specs.Terms.{at}
use Rattle.rules.proofs.Laws.{computing, is_not, is_sin}
use Rattle.rules.proofs.Rows.{other_p, other_region}
use Rattle.member_rules.proofs.sge.Goals as goal

pub returns : goal.returns
unfolding computing
returns c =
    let built = rw c.literal.ensures at c.adds_one.ensures in
    record {
      room = built.room;
      answers = λ table h fresh.
          let K = is_sin (at table c.in-In.x.0) _ ((c.view.ensures table h).is ∙ c.in-Sin.is) in
          rw (c.in-In.is, K.3, built.adds);
    }

-- p is not u in x
pub returns-in_default : goal.returns-in_default
unfolding computing
returns-in_default c = let p = c.args.p in other_p p refl (is_not Relation.In p c.in_default.not-In)

-- x is not sin(v)
pub returns-in_default-view : goal.returns-in_default-view
unfolding computing
returns-in_default-view c =
    other_region refl refl c.in-In.is c.view.ensures c.in_default-view.not-Sin
