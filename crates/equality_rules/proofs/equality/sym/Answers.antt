-- `sym` answers what its rows say.
use mathlib.Core.Path.{◌≡◌}
use Rattle.tableau.specs.declared.Relation.{Relation}
use Rattle.packing.specs.declared.LiteralView.{LiteralView}
use Rattle.rules.proofs.Laws.{by_sides, computing, is_not}
use Rattle.equality_rules.proofs.equality.sym.Goals as goal
use Rattle.equality_rules.proofs.equality.sym.Goals.{in-Eq, in-Eq-2}

-- p is neither
pub returns-in_default : goal.returns-in_default
unfolding computing
returns-in_default c =
    let p = c.args.p in
    let n = c.in_default in
    record {
      room = tt;
      answers = λ table h fresh.
          rw (by_sides p, is_not Relation.Eq p n.not-Eq, is_not Relation.Ne p n.not-Ne);
    }

-- p is a eq b, or a ne b
pub returns : goal.returns
unfolding computing
returns c = elim c.match-p.branch [
  | in-Eq w ↦
      let p : c.args.p ≡ LiteralView.Eq c.match-p.a c.match-p.b = cc in
      let b = rw (c.literal.ensures, c.relation.ensures, w.p-is) at c.adds_one.ensures in
      record { room = b.room; answers = λ table h fresh. rw (p, b.adds) }
  | in-Eq-2 w ↦
      let p : c.args.p ≡ LiteralView.Ne c.match-p.a c.match-p.b = cc in
      let b = rw (c.literal.ensures, c.relation.ensures, w.p-is) at c.adds_one.ensures in
      record { room = b.room; answers = λ table h fresh. rw (p, b.adds) }
]
