use Rattle.tableau.specs.declared.Relation.{Relation}
use Rattle.tableau.specs.Steps.{conclude_sub}
use Rattle.rules.proofs.Laws.{by_sides, computing, is_not, test_fails, test_holds}
use Rattle.equality_rules.proofs.equality.sub.Goals as goal

-- p is not a eq b
pub returns-in_default : goal.returns-in_default
unfolding computing conclude_sub
returns-in_default c =
    let p = c.args.p in
    record {
      room = tt;
      answers = λ table h fresh.
          rw (by_sides p, is_not Relation.Eq p c.in_default.not-Eq);
    }

-- t and w are not congruent
pub returns-then-not-congruent : goal.returns-then-not-congruent
unfolding computing conclude_sub
returns-then-not-congruent c =
    record {
      room = tt;
      answers = λ table h fresh.
          let e = c.congruent.ensures _ _ (c.packed.ensures table h) (c.packed-2.ensures table h) in
          rw (c.in-Eq.is, test_fails e c.if-not-congruent.true);
    }

-- they are
pub returns : goal.returns
unfolding computing conclude_sub
returns c =
    let b = rw c.literal.ensures at c.adds_one.ensures in
    record {
      room = b.room;
      answers = λ table h fresh.
          let e = c.congruent.ensures _ _ (c.packed.ensures table h) (c.packed-2.ensures table h) in
          rw (c.in-Eq.is, test_holds e c.if-not-congruent.false, b.adds);
    }
