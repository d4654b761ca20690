use mathlib.Core.Path.{refl}
use Rattle.tableau.specs.Fields.{rule_fields}
use Rattle.tableau.specs.Rules.{rule}
use Rattle.conclusions.proofs.Laws.{infers, is_rep}
use Rattle.conclusions.proofs.conclude.Goals as goal

-- a side is that of `rep`
pub returns-in-Side : goal.returns-in-Side
unfolding rule_fields rule
returns-in-Side c =
    let k = rw c.in-Side.is at c.requires.small_literal in
    rw c.in-Side.is (infers (is_rep _ k.3) refl k.2 (λ table S. tt) c.rep.ensures)
