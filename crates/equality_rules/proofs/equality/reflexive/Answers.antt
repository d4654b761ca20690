use mathlib.Core.Path.{refl}
use Rattle.rules.proofs.Laws.{computing}
use Rattle.rules.proofs.Rows.{always}
use Rattle.equality_rules.proofs.equality.reflexive.Goals as goal

pub returns : goal.returns
unfolding computing
returns c = always refl (λ table. refl) (rw c.literal.ensures at c.adds_one.ensures)
