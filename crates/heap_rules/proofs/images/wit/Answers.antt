use mathlib.Core.Path.{refl, ◌∙◌}
use Rattle.tableau.specs.declared.Operator.{Operator}
use Rattle.tableau.specs.declared.Relation.{Relation}
use Rattle.tableau.specs.Terms.{Table, at}
use Rattle.table.specs.Held.{Searchable}
use Rattle.rules.proofs.Laws.{Arguments3, computing, is_img, is_not, passed_on}
use Rattle.rules.proofs.Rows.{fresh_or_not, other_p, other_region}
use Rattle.heap_rules.proofs.Made.{all_made, one_missing}
use Rattle.heap_rules.proofs.images.wit.Goals as goal
use Rattle.heap_rules.proofs.images.wit.Goals.{In-Img}

-- s is img(h,r,f)
image : (i : goal.In-Img) (table : Table)
    → Searchable table i.args.terms.now i.args.chains.now
    → Arguments3 Operator.Img (at table i.in-In.s.0) i.in-Img.h i.in-Img.r i.in-Img.f
image i table h = is_img (at table _) _ _ _ ((i.view.ensures table h.entries).is ∙ i.in-Img.is)

-- p is not u in s
pub returns-in_default : goal.returns-in_default
unfolding computing
returns-in_default c =
    let p = c.args.p in fresh_or_not (other_p p refl (is_not Relation.In p c.in_default.not-In))

-- s is not img(h,r,f)
pub returns-in_default-view : goal.returns-in_default-view
unfolding computing
returns-in_default-view c =
    fresh_or_not (other_region refl refl c.in-In.is
    (λ table h. c.view.ensures table h.entries) c.in_default-view.not-Img)

-- w is not fresh
pub returns-in-NotFresh : goal.returns-in-NotFresh
unfolding computing
returns-in-NotFresh c =
    record {
      room = tt;
      answers = λ table h.
          let K = image (goal.at.returns-in-NotFresh c).In-Img table h in
          rw (c.in-In.is, K.1, c.in-NotFresh.is);
    }

-- typ(w), dty(f) or rea(h,w,f) is no term
pub returns-in_err-access : goal.returns-in_err-access
unfolding computing
returns-in_err-access c =
    rw (passed_on c.from_residual.ensures.1) record {
      room = tt;
      answers = λ table h.
          let K = image (goal.at.returns-in_err-access c).In-Img table h in
          rw (c.in-In.is, K.1, c.in_default-fresh.is)
          (one_missing c.find_access.ensures h c.in_err-access.was
          (λ d q. rw (d, q)) (λ k d q s. rw (d, q, s)) (λ k l d q s o. rw (d, q, s, o)));
    }

-- w in r, typ(w) le dty(f), rea(h,w,f) eq u
pub returns : goal.returns
unfolding computing
returns c =
    let b =
    rw (c.literal.ensures, c.literal-2.ensures, c.literal-3.ensures) at c.adds_three.ensures in
    record {
      room = b.room;
      answers = λ table h.
          let K = image (goal.at.returns c).In-Img table h in
          let A = all_made c.find_access.ensures h c.in_ok-access.was in
          rw (c.in-In.is, K.1, c.in_default-fresh.is, A.0, A.1, A.2, b.adds);
    }
