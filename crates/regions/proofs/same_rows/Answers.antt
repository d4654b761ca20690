use mathlib.Core.Path.{◌∙◌}
use Rattle.regions.proofs.RowLaws.{pointwise_same}
use Rattle.regions.proofs.same_rows.Goals as goal

pub returns : goal.returns
returns c = c.eq.ensures ∙ pointwise_same _ _
