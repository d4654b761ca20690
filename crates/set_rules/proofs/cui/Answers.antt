-- `cui` answers what its rows say.
use Rattle.tableau.specs.declared.Operator.{Operator}
use Rattle.tableau.specs.declared.Relation.{Relation}
use Rattle.tableau.specs.Terms.{at}
use Rattle.rules.proofs.Laws.{agree, by_sides, computing, differ, is_not, no_arguments}
use Rattle.rules.proofs.Rows.{where_false, where_true}
use Rattle.set_rules.proofs.Regions.{united}
use Rattle.set_rules.proofs.cui.Goals as goal
use Rattle.set_rules.proofs.cui.Goals.{else-ne-via-then-ne+else-ne-2, else-ne-via-else-ne}

-- p is not u in x
pub returns-in_default : goal.returns-in_default
unfolding computing
returns-in_default c =
    let p = c.args.p in
    record {
      room = tt;
      answers = λ table h fresh.
          rw (by_sides p, is_not Relation.In p c.in_default.not-In);
    }

-- t is not cup(r,s)
pub returns-in_default-view : goal.returns-in_default-view
unfolding computing
returns-in_default-view c =
    let t = c.args.t.0 in
    record {
      room = tt;
      answers = λ table h fresh.
          rw (
            c.in-In.is,
            no_arguments Operator.Cup (at table t)
                (c.view.ensures table h).is c.in_default-view.not-Cup,
          );
    }

-- x is neither
pub returns-then-ne-2 : goal.returns-then-ne-2
returns-then-ne-2 c =
    where_false (united c.in-In.is c.in-Cup.is c.view.ensures)
    (rw (differ c.ne.ensures c.if-ne.true, differ c.ne-then-ne.ensures c.if-ne-2.true))

-- x is r or s
pub returns : goal.returns
returns c =
    where_true (united c.in-In.is c.in-Cup.is c.view.ensures)
    (elim c.else-ne.branch [
      | else-ne-via-then-ne+else-ne-2 w ↦
          rw (differ c.ne.ensures w.if-ne.true, agree w.ne-then-ne.ensures w.if-ne-2.false)
      | else-ne-via-else-ne w ↦ rw (agree c.ne.ensures w.if-ne.false)
    ])
    (rw c.literal.ensures at c.adds_one.ensures)
