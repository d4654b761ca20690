-- The word with the term's own bit has that bit beside its others; no other word is changed.
use native.Mathlib.Omega.{arith}
use Rattle.mentions.proofs.RowLaws.{own_set}
use Rattle.mentions.proofs.set_own.Goals as goal

pub returns : goal.returns
returns c old f F = own_set old _ _ f F (omega arith) (omega arith)
