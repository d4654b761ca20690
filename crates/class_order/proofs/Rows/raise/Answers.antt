use Rattle.std.proofs.Common.{arith}
use Rattle.class_order.proofs.WordLaws.{raised_more}
use Rattle.class_order.proofs.Rows.raise.Goals as goal

pub loop-i-preserved : goal.loop-i-preserved
loop-i-preserved c = raised_more _ _ _ _ _ _ _ _ _ c.requires.0 c.requires.1 (omega arith)
    c.loop-i.invariant c.own_word-own.ensures.0 c.raise_word-changed.ensures
