-- A yes and a no.
use mathlib.Core.List.{[], ◌∷◌, ◌++◌}
use mathlib.Core.Logic.{∥∥₁_map}
use Rattle.reply.specs.Verdict.{reply_record}
use Rattle.figures.proofs.Sums.{totals_yes, totals_no, small_yes, small_no}
use Rattle.figures.proofs.totals.Totals.add.Goals as goal

pub invariant_of-self : goal.invariant_of-self
invariant_of-self c =
    let r = reply_record c.args.reply in
    record {
      small = small_yes _ _ _ _ c.args.self.now.small c.requires.0 _ c.requires.1;
      of_some =
          ∥∥₁_map c.args.self.now.of_some
          (λ t. record {
            replies = t.replies ++
                (r ∷ []);
            totals = totals_yes _ _ _ _ _ r t.totals c.if-reply.true;
          });
    }

pub invariant_of-self-else-reply : goal.invariant_of-self-else-reply
invariant_of-self-else-reply c =
    let r = reply_record c.args.reply in
    record {
      small = small_no _ _ _ _ c.args.self.now.small c.requires.0;
      of_some =
          ∥∥₁_map c.args.self.now.of_some
          (λ t. record {
            replies = t.replies ++
                (r ∷ []);
            totals = totals_no _ _ _ _ _ r t.totals c.if-reply.false;
          });
    }

pub returns-then-reply : goal.returns-then-reply
returns-then-reply c rs h = totals_yes rs _ _ _ _ _ h c.if-reply.true

pub returns-else-reply : goal.returns-else-reply
returns-else-reply c rs h = totals_no rs _ _ _ _ _ h c.if-reply.false
