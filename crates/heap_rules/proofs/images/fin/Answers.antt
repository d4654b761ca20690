use lib.Dec.{eqb}
use mathlib.Core.Bool.{true}
use Rattle.tableau.proofs.Bools.{both_true}
use mathlib.Core.Path.{◌≡◌, refl, ◌∙◌}
use Rattle.tableau.specs.declared.Operator.{Operator}
use Rattle.tableau.specs.declared.Relation.{Relation}
use Rattle.tableau.specs.Terms.{Table, at}
use Rattle.table.specs.Held.{Entries}
use Rattle.rules.proofs.Laws.{Arguments2, Arguments3, agree, by_test, computing, differ, found}
use Rattle.rules.proofs.Laws.{is_cup, is_img, is_not, missing, no_arguments}
use Rattle.rules.proofs.Rows.{by_failed, other_p, passes_on}
use Rattle.heap_rules.proofs.images.fin.Goals as goal
use Rattle.heap_rules.proofs.images.fin.Goals.{Else-ne, In-Cup, In-Img}

-- the left side is cup(r,i)
is_union : (u : goal.In-Cup) (table : Table) → Entries table u.args.terms.now
    → Arguments2 Operator.Cup (at table u.in-Eq.union.0) u.in-Cup.r u.in-Cup.i
is_union u table e = is_cup (at table _) _ _ ((u.view.ensures table e).is ∙ u.in-Cup.is)

-- i is img(h,s,f)
is_image : (i : goal.In-Img) (table : Table) → Entries table i.args.terms.now
    → Arguments3 Operator.Img (at table i.in-Cup.i.0) i.in-Img.field-0 i.in-Img.s i.in-Img.field-2
is_image i table e = is_img (at table _) _ _ _ ((i.view-2.ensures table e).is ∙ i.in-Img.is)

-- p is no eq
pub returns-in_default : goal.returns-in_default
unfolding computing
returns-in_default c = let p = c.args.p in other_p p refl (is_not Relation.Eq p c.in_default.not-Eq)

-- the left side is not cup(r,i)
pub returns-in_default-view : goal.returns-in_default-view
unfolding computing
returns-in_default-view c =
    record {
      room = tt;
      answers = λ table h fresh.
          rw (
            c.in-Eq.is,
            no_arguments Operator.Cup (at table _)
                (c.view.ensures table h.entries).is c.in_default-view.not-Cup,
          );
    }

-- i is not img(h,s,f)
pub returns-in_default-view-2 : goal.returns-in_default-view-2
unfolding computing
returns-in_default-view-2 c =
    record {
      room = tt;
      answers = λ table h fresh.
          rw (c.in-Eq.is, (is_union (goal.at.returns-in_default-view-2 c).In-Cup table h.entries).2)
          (by_test (eqb c.in-Cup.i.0 c.in-Eq.image.0)
          (λ e. rw (
            e,
            no_arguments Operator.Img (at table _)
                (c.view-2.ensures table h.entries).is c.in_default-view-2.not-Img,
          ))
          (λ e. rw e));
    }

-- i is not the right side, or the regions differ
pub returns-then-ne : goal.returns-then-ne
unfolding computing
returns-then-ne c =
    let i = c.in-Cup.i.0 in
    let image = c.in-Eq.image.0 in
    record {
      room = tt;
      answers = λ table h fresh.
          let U = is_union (goal.at.returns-then-ne c).In-Cup table h.entries in
          let I = is_image (goal.at.returns-then-ne c).In-Img table h.entries in
          rw (c.in-Eq.is, U.2)
          (by_failed (eqb i image) (eqb c.in-Cup.r.0 c.in-Img.s.0)
          (differ c.ne.ensures c.if-ne.true) (λ m. rw m) (λ m n. rw (m, I.1, n)));
    }

-- they are the same
same_parts : (e : goal.Else-ne)
    → (eqb e.in-Cup.i.0 e.in-Eq.image.0 ≡ true) × (eqb e.in-Cup.r.0 e.in-Img.s.0 ≡ true)
same_parts e = both_true _ _ (agree e.ne.ensures e.if-ne.false)

-- cup(i,r) is no term
pub returns-in_err-turned : goal.returns-in_err-turned
unfolding computing
returns-in_err-turned c =
    let same = same_parts (goal.at.returns-in_err-turned c).Else-ne in
    passes_on c.from_residual.ensures.1 record {
      room = tt;
      answers = λ table h fresh.
          let U = is_union (goal.at.returns-in_err-turned c).In-Cup table h.entries in
          let I = is_image (goal.at.returns-in_err-turned c).In-Img table h.entries in
          let m = missing c.on_three.ensures h c.in_err-turned.was in
          rw (c.in-Eq.is, U.2, same.0, I.1, same.1, m.0, m.1);
    }

-- cup(i,r) eq r
pub returns : goal.returns
unfolding computing
returns c =
    let same = same_parts (goal.at.returns c).Else-ne in
    let b = rw c.literal.ensures at c.adds_one.ensures in
    record {
      room = b.room;
      answers = λ table h fresh.
          let U = is_union (goal.at.returns c).In-Cup table h.entries in
          let I = is_image (goal.at.returns c).In-Img table h.entries in
          rw (
            c.in-Eq.is,
            U.2,
            same.0,
            I.1,
            same.1,
            found c.on_three.ensures h c.in_ok-turned.was,
            b.adds,
          );
    }
