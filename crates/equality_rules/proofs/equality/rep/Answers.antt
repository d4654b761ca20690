-- `rep` answers what its row says.
use lib.Dec.{eqb}
use mathlib.Core.Path.{◌≡◌, sym}
use mathlib.Core.Bool.{true, false}
use native.Mathlib.Omega.{arith}
use borrow.Author.Tests.{ne_eqb}
use Rattle.tableau.specs.declared.Relation.{Relation}
use Rattle.tableau.specs.Steps.{conclude_rep}
use Rattle.packing.specs.Packing.{left_of, right_of}
use Rattle.rules.proofs.Laws.{by_sides, computing, is_not}
use Rattle.equality_rules.proofs.equality.rep.Goals as goal

-- q is not a eq b
pub returns-in_default : goal.returns-in_default
unfolding computing conclude_rep
returns-in_default c =
    let g = c.args in
    record {
      room = tt;
      answers = λ table h fresh.
          rw (by_sides g.p, by_sides g.q, is_not Relation.Eq g.q c.in_default.not-Eq);
    }

-- b on the left
pub returns-in-1 : goal.returns-in-1
unfolding computing conclude_rep
returns-in-1 c =
    let e : true ≡ eqb (left_of c.args.p) c.in-Eq.a.0 = rw c.left-m.ensures at c.if-eq.ensures in
    let b = rw (c.literal.ensures, c.right-n.ensures, c.relation.ensures) at c.adds_one.ensures in
    record {
      room = b.room;
      answers = λ table h fresh.
          rw (by_sides c.args.p, c.in-Eq.is, c.in-1.is, sym e, b.adds);
    }

-- the left side is not a
pub returns-in_default-0₀ : goal.returns-in_default-0₀
unfolding computing conclude_rep
returns-in_default-0₀ c =
    let e : false ≡ eqb (left_of c.args.p) c.in-Eq.a.0 = rw c.left-m.ensures at c.if-eq.ensures in
    record {
      room = tt;
      answers = λ table h fresh.
          rw (by_sides c.args.p, c.in-Eq.is, c.in-1.is, sym e);
    }

-- b on the right
pub returns-in-2 : goal.returns-in-2
unfolding computing conclude_rep
returns-in-2 c =
    let e : true ≡ eqb (right_of c.args.p) c.in-Eq.a.0 =
    rw c.right-n.ensures at c.if-eq-2.ensures in
    let b =
    rw (
      c.literal-in-2.ensures,
      c.left-m.ensures,
      c.relation-in-2.ensures,
    ) at c.adds_one-in-2.ensures in
    record {
      room = b.room;
      answers = λ table h fresh.
          rw (by_sides c.args.p, c.in-Eq.is, c.in-2.is, sym e, b.adds);
    }

-- the right side is not a
pub returns-in_default-0₀-2 : goal.returns-in_default-0₀-2
unfolding computing conclude_rep
returns-in_default-0₀-2 c =
    let e : false ≡ eqb (right_of c.args.p) c.in-Eq.a.0 =
    rw c.right-n.ensures at c.if-eq-2.ensures in
    record {
      room = tt;
      answers = λ table h fresh.
          rw (by_sides c.args.p, c.in-Eq.is, c.in-2.is, sym e);
    }

-- no such side
pub returns-in_default-0₀-3 : goal.returns-in_default-0₀-3
unfolding computing conclude_rep
returns-in_default-0₀-3 c =
    let g = c.args in
    record {
      room = tt;
      answers = λ table h fresh.
          rw (
            by_sides g.p,
            c.in-Eq.is,
            ne_eqb g.side.0 1 (λ z. omega arith),
            ne_eqb g.side.0 2
                (λ z. omega arith),
          );
    }
