-- `cut` answers what its row says.
use mathlib.Core.Path.{refl}
use Rattle.rules.proofs.Laws.{computing}
use Rattle.rules.proofs.Rows.{always}
use Rattle.member_rules.proofs.cut.Goals as goal

pub returns : goal.returns
unfolding computing
returns c =
    always refl (λ table. refl) (rw (c.literal.ensures, c.literal-2.ensures) at c.splits.ensures)
