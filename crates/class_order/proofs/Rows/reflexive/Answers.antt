use Rattle.std.proofs.Common.{arith}
use Rattle.class_order.proofs.FillLaws.{class_more, class_all}
use Rattle.class_order.proofs.Rows.reflexive.Goals as goal

pub returns : goal.returns
returns c = class_all _ _ _ _ _ (omega arith) c.loop-t.invariant

-- after the last term
pub returns-2 : goal.returns-2
returns-2 c =
    class_all _ _ _ _ _ (omega arith)
    (class_more _ _ _ _ _ c.loop-t.invariant c.raise_class.ensures)
