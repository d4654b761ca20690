use lib.Dec.{eqb}
use mathlib.Core.Path.{refl}
use mathlib.Core.Bool.{◌&&◌}
use mathlib.Core.List.{[], ◌∷◌}
use Rattle.std.specs.Prelude.{None}
use Rattle.tableau.specs.declared.Relation.{Relation}
use Rattle.tableau.specs.declared.Rule.{Rule}
use Rattle.tableau.specs.Terms.{literal}
use Rattle.rules.specs.Answer.{HeldBy}
use Rattle.rules.proofs.Laws.{computing}
use Rattle.rules.proofs.Rows.{MetIf, by_tests, met, other_t, unmet}
use Rattle.heap_rules.proofs.Written.{other_heap, read_written}
use Rattle.heap_rules.proofs.reads.rdh.Goals as goal
use Rattle.heap_rules.proofs.reads.rdh.Goals.{In-Wri}

-- whether the references and the fields are the same decides
same_place : (i : goal.In-Wri)
    → let a = i.in-Rea in
    let b = i.in-Wri in
    MetIf (HeldBy i.args.terms.now) Rule.Rdh None None i.args.t.0 0
    (eqb b.u.0 a.k.0 && eqb b.f.0 a.g.0)
    ((literal Relation.Eq i.args.t.0 b.v.0 ∷ []) ∷ [])
unfolding computing
same_place i =
    let a = i.in-Rea in
    let b = i.in-Wri in
    record {
      answers = λ table h fresh.
          let K = read_written a.is i.view.ensures i.view-2.ensures b.is table h in
          rw (K.0.1, K.1) (by_tests (eqb b.u.0 a.k.0) (eqb b.f.0 a.g.0) (λ m. rw m)
          (λ m n. rw (m, n)) (λ m n. rw (m, n)));
    }

pub returns-then-ne : goal.returns-then-ne
returns-then-ne c = unmet (same_place (goal.at.returns-then-ne c).In-Wri) c.ne.ensures c.if-ne.true

pub returns : goal.returns
returns c =
    met (same_place (goal.at.returns c).In-Wri) c.ne.ensures c.if-ne.false
    (rw c.literal.ensures at c.adds_one.ensures)

-- t is not rea(z,k,g)
pub returns-in_default : goal.returns-in_default
unfolding computing
returns-in_default c = other_t refl c.view.ensures c.in_default.not-Rea

-- z is not wri(h,u,f,v)
pub returns-in_default-view : goal.returns-in_default-view
unfolding computing
returns-in_default-view c =
    other_heap c.in-Rea.is c.view.ensures c.view-2.ensures refl c.in_default-view.not-Wri
