-- `sgi` answers what its row says.
use mathlib.Core.Path.{refl, ◌∙◌}
use Rattle.tableau.specs.Terms.{at}
use Rattle.rules.proofs.Laws.{computing, found, missing, is_sin}
use Rattle.rules.proofs.Rows.{other_t, passes_on}
use Rattle.member_rules.proofs.sgi.Goals as goal

-- t is sin(u), and `all` does not stand in the table
pub returns-in_err-a : goal.returns-in_err-a
unfolding computing
returns-in_err-a c =
    passes_on c.from_residual.ensures.1 record {
      room = tt;
      answers = λ table h fresh.
          let K =
          is_sin (at table c.args.t.0) _ ((c.view.ensures table h.entries).is ∙ c.in-Sin.is) in
          let m = missing c.on_none.ensures h c.in_err-a.was in
          rw (K.3, m.0, m.1);
    }

pub returns : goal.returns
unfolding computing
returns c =
    let built = rw (c.literal.ensures, c.literal-2.ensures) at c.splits.ensures in
    record {
      room = built.room;
      answers = λ table h fresh.
          let K =
          is_sin (at table c.args.t.0) _ ((c.view.ensures table h.entries).is ∙ c.in-Sin.is) in
          rw (K.3, found c.on_none.ensures h c.in_ok-a.was, built.adds);
    }

-- t is not sin(u)
pub returns-in_default : goal.returns-in_default
unfolding computing
returns-in_default c = other_t refl (λ table h. c.view.ensures table h.entries) c.in_default.not-Sin
