use mathlib.Core.Path.{refl, ◌∙◌}
use Rattle.tableau.specs.declared.Operator.{Operator}
use Rattle.tableau.specs.declared.Relation.{Relation}
use Rattle.tableau.specs.Terms.{Table, at}
use Rattle.table.specs.Held.{Searchable}
use Rattle.rules.proofs.Laws.{Arguments3, agree, computing, differ, found, is_img, is_not, missing}
use Rattle.rules.proofs.Laws.{no_arguments}
use Rattle.rules.proofs.Rows.{other_p, passes_on}
use Rattle.heap_rules.proofs.Made.{all_made, one_missing}
use Rattle.heap_rules.proofs.images.img.Goals as goal
use Rattle.heap_rules.proofs.images.img.Goals.{In-Img}

-- t is img(h,s,f)
image : (i : goal.In-Img) (table : Table)
    → Searchable table i.args.terms.now i.args.chains.now
    → Arguments3 Operator.Img (at table i.args.t.0) i.in-Img.h i.in-Img.s i.in-Img.f
image i table h = is_img (at table _) _ _ _ ((i.view.ensures table h.entries).is ∙ i.in-Img.is)

-- p is not u in r
pub returns-in_default : goal.returns-in_default
unfolding computing
returns-in_default c = let p = c.args.p in other_p p refl (is_not Relation.In p c.in_default.not-In)

-- t is not img(h,s,f)
pub returns-in_default-view : goal.returns-in_default-view
unfolding computing
returns-in_default-view c =
    let t = c.args.t.0 in
    record {
      room = tt;
      answers = λ table h fresh.
          rw (
            c.in-In.is,
            no_arguments Operator.Img (at table t)
                (c.view.ensures table h.entries).is c.in_default-view.not-Img,
          );
    }

-- the regions differ
pub returns-then-ne : goal.returns-then-ne
unfolding computing
returns-then-ne c =
    record {
      room = tt;
      answers = λ table h fresh.
          let K = image (goal.at.returns-then-ne c).In-Img table h in
          rw (c.in-In.is, K.1, differ c.ne.ensures c.if-ne.true);
    }

-- typ(u), dty(f) or rea(h,u,f) is no term
pub returns-in_err-access : goal.returns-in_err-access
unfolding computing
returns-in_err-access c =
    passes_on c.from_residual.ensures.1 record {
      room = tt;
      answers = λ table h fresh.
          let K = image (goal.at.returns-in_err-access c).In-Img table h in
          rw (c.in-In.is, K.1, agree c.ne.ensures c.if-ne.false)
          (one_missing c.find_access.ensures h c.in_err-access.was
          (λ d q. rw (d, q)) (λ k d q s. rw (d, q, s)) (λ k l d q s o. rw (d, q, s, o)));
    }

-- all is no term
pub returns-in_err-a : goal.returns-in_err-a
unfolding computing
returns-in_err-a c =
    passes_on c.from_residual-in_err-a.ensures.1 record {
      room = tt;
      answers = λ table h fresh.
          let K = image (goal.at.returns-in_err-a c).In-Img table h in
          let A = all_made c.find_access.ensures h c.in_ok-access.was in
          let m = missing c.on_none.ensures h c.in_err-a.was in
          rw (c.in-In.is, K.1, agree c.ne.ensures c.if-ne.false, A.0, A.1, A.2, m.0, m.1);
    }

-- typ(u) nl dty(f), or rea(h,u,f) ni all, or rea(h,u,f) in t
pub returns : goal.returns
unfolding computing
returns c =
    let b =
    rw (c.literal.ensures, c.literal-2.ensures, c.literal-3.ensures) at c.splits_three.ensures in
    record {
      room = b.room;
      answers = λ table h fresh.
          let K = image (goal.at.returns c).In-Img table h in
          let A = all_made c.find_access.ensures h c.in_ok-access.was in
          rw (
            c.in-In.is,
            K.1,
            agree c.ne.ensures c.if-ne.false,
            A.0,
            A.1,
            A.2,
            found c.on_none.ensures h c.in_ok-a.was,
            b.adds,
          );
    }
