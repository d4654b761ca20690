-- Some are accepted.
use mathlib.Core.Logic.{∥∥₁_elim}
use mathlib.Core.Path.{◌∙◌}
use Rattle.std.specs.Coded.{le_prop}
use Rattle.figures.proofs.Sums.{sum_squared, variance_from}
use Rattle.figures.proofs.totals.Totals.variance.Goals as goal

pub overflow_sub-variance : goal.overflow_sub-variance
overflow_sub-variance c =
    ∥∥₁_elim c.args.self.of_some le_prop
    (λ t. sum_squared t.replies _ _ _ _ t.totals c.if-n-eq0.false)

pub returns : goal.returns
returns c rs h = c.lowest.ensures ∙ variance_from rs _ _ _ _ h c.if-n-eq0.false
