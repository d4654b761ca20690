-- The totals of no replies.
use mathlib.Core.List.{[]}
use mathlib.Core.Path.{refl}
use native.Mathlib.Omega.{arith}
use Rattle.statistics.specs.Figures.{step_counts, sum}
use Rattle.figures.specs.Totals.{TotalsOf}
use Rattle.figures.proofs.totals.Totals.none.Goals as goal

no_replies : TotalsOf [] 0 0 0 0
unfolding step_counts sum
no_replies = record { files = refl; accepted = refl; sum = refl; squares = refl }

pub invariant_of-result : goal.invariant_of-result
invariant_of-result c = record {
  small = record {
    files = omega arith;
    accepted = omega arith;
    sum = omega arith;
    squares = omega arith;
  };
  of_some = ∣ record { replies = []; totals = no_replies } ∣₁;
}

pub returns : goal.returns
returns c = no_replies
