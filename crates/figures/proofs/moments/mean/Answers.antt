-- Some are accepted.
use mathlib.Core.Path.{◌∙◌}
use Rattle.figures.proofs.Sums.{mean_lowest}
use Rattle.figures.proofs.moments.mean.Goals as goal

pub returns : goal.returns
returns c ns h k = c.lowest.ensures ∙ mean_lowest ns _ _ h k c.if-accepted-eq0.false
