use lib.Dec.{eqb}
use mathlib.Core.Path.{refl}
use mathlib.Core.Bool.{◌&&◌}
use mathlib.Core.List.{[], ◌∷◌}
use Rattle.std.specs.Prelude.{Some}
use Rattle.tableau.specs.declared.Relation.{Relation}
use Rattle.tableau.specs.declared.Rule.{Rule}
use Rattle.tableau.specs.Terms.{literal}
use Rattle.packing.specs.Packing.{literal_of}
use Rattle.rules.specs.Answer.{Anywhere}
use Rattle.rules.proofs.Laws.{computing, is_not}
use Rattle.rules.proofs.Rows.{MetIf, by_tests, met, other_p, other_q, unmet}
use Rattle.equality_rules.proofs.order.lea.Goals as goal
use Rattle.equality_rules.proofs.order.lea.Goals.{In-Le-Le}

-- q is of another relation
pub returns-in_default : goal.returns-in_default
unfolding computing
returns-in_default c =
    let q = c.args.q in
    other_q q refl c.in_default.is-0 (λ table. refl) (is_not Relation.Le q c.in_default.not-Le-1)

-- p is
pub returns-in_default-2 : goal.returns-in_default-2
unfolding computing
returns-in_default-2 c =
    let p = c.args.p in other_p p refl (is_not Relation.Le p c.in_default.not-Le-0)

-- whether q's sides are b and a decides
turned : (i : goal.In-Le-Le)
    → let k = i.in-Le-Le in
    MetIf Anywhere Rule.Lea (Some (literal_of i.args.p)) (Some (literal_of i.args.q)) 0 0
    (eqb k.b.0 k.x.0 && eqb k.a.0 k.y.0)
    ((literal Relation.Eq k.a.0 k.b.0 ∷ []) ∷ [])
unfolding computing
turned i =
    let k = i.in-Le-Le in
    record {
      answers = λ table h fresh.
          rw (k.is-0, k.is-1) (by_tests (eqb k.b.0 k.x.0) (eqb k.a.0 k.y.0) (λ m. rw m)
          (λ m n. rw (m, n)) (λ m n. rw (m, n)));
    }

pub returns-then-ne : goal.returns-then-ne
returns-then-ne c = unmet (turned (goal.at.returns-then-ne c).In-Le-Le) c.ne.ensures c.if-ne.true

pub returns : goal.returns
returns c =
    met (turned (goal.at.returns c).In-Le-Le) c.ne.ensures c.if-ne.false
    (rw c.literal.ensures at c.adds_one.ensures)
