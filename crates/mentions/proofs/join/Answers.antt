use native.Mathlib.Omega.{arith}
use Rattle.mentions.proofs.RowLaws.{joined_more}
use Rattle.mentions.proofs.join.Goals as goal

pub loop-i-preserved : goal.loop-i-preserved
loop-i-preserved c = joined_more _ _ _ _ _ _ (omega arith) c.requires.1 c.loop-i-test.true
    c.loop-i.invariant (λ q. c.joined_word.ensures q)
