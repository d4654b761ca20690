-- `cls` answers what its rows say.
use mathlib.Core.Path.{◌≡◌, refl}
use Rattle.tableau.specs.declared.Relation.{Relation}
use Rattle.packing.specs.declared.LiteralView.{LiteralView}
use Rattle.rules.proofs.Laws.{by_sides, computing, is_not}
use Rattle.rules.proofs.Rows.{met, unmet}
use Rattle.equality_rules.proofs.Denials.{Compares, in_ni, eq_ne, le_nl}
use Rattle.equality_rules.proofs.closing.cls.Goals as goal
use Rattle.equality_rules.proofs.closing.cls.Goals.{Joined-p, in-In-Ni, in-In-Ni-2, in-In-Ni-3}

-- p is a in b, and q no denial
pub returns-in_default : goal.returns-in_default
unfolding computing
returns-in_default c =
    let q = c.args.q in
    record {
      room = tt;
      answers = λ table h fresh.
          rw (c.in_default.is-0, by_sides q, is_not Relation.Ni q c.in_default.not-Ni-1);
    }

-- p is a eq b, and q no denial
pub returns-in_default-2 : goal.returns-in_default-2
unfolding computing
returns-in_default-2 c =
    let q = c.args.q in
    record {
      room = tt;
      answers = λ table h fresh.
          rw (c.in_default.is-0, by_sides q, is_not Relation.Ne q c.in_default.not-Ne-1);
    }

-- p is a le b, and q no denial
pub returns-in_default-3 : goal.returns-in_default-3
unfolding computing
returns-in_default-3 c =
    let q = c.args.q in
    record {
      room = tt;
      answers = λ table h fresh.
          rw (c.in_default.is-0, by_sides q, is_not Relation.Nl q c.in_default.not-Nl-1);
    }

-- p is none of the three
pub returns-in_default-4 : goal.returns-in_default-4
unfolding computing
returns-in_default-4 c =
    let p = c.args.p in
    let n = c.in_default in
    record {
      room = tt;
      answers = λ table h fresh.
          rw (
            by_sides p,
            is_not Relation.In p n.not-In-0,
            is_not Relation.Eq p n.not-Eq-0,
            is_not Relation.Le p n.not-Le-0,
          );
    }

-- p is of a relation, and q of its denial
compares : (j : goal.Joined-p)
    → Compares j.args.p j.args.q j.match-p.a j.match-p.b j.match-p.x j.match-p.y
compares j = elim j.match-p.branch [
  | in-In-Ni w ↦
      let p : j.args.p ≡ LiteralView.In j.match-p.a j.match-p.b = cc in
      let q : j.args.q ≡ LiteralView.Ni j.match-p.x j.match-p.y = cc in
      rw (p, q) (in_ni _ _ _ _)
  | in-In-Ni-2 w ↦
      let p : j.args.p ≡ LiteralView.Eq j.match-p.a j.match-p.b = cc in
      let q : j.args.q ≡ LiteralView.Ne j.match-p.x j.match-p.y = cc in
      rw (p, q) (eq_ne _ _ _ _)
  | in-In-Ni-3 w ↦
      let p : j.args.p ≡ LiteralView.Le j.match-p.a j.match-p.b = cc in
      let q : j.args.q ≡ LiteralView.Nl j.match-p.x j.match-p.y = cc in
      rw (p, q) (le_nl _ _ _ _)
]

-- on other terms
pub returns-then-ne : goal.returns-then-ne
returns-then-ne c = unmet (compares (goal.at.returns-then-ne c).Joined-p) c.ne.ensures c.if-ne.true

-- on the same terms
pub returns : goal.returns
returns c =
    met (compares (goal.at.returns c).Joined-p) c.ne.ensures c.if-ne.false
    (record { room = tt; adds = refl })
