use Rattle.std.proofs.Common.{arith}
use Rattle.mentions.proofs.BitLaws.{own_here}
use Rattle.class_order.proofs.own_word.Goals as goal

pub returns-then-y-i : goal.returns-then-y-i
returns-then-y-i c = ((λ q. own_here _ _ q c.if-y-i.true), omega arith)
