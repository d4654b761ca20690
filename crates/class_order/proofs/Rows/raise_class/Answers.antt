use Rattle.class_order.proofs.RowLaws.{class_raised}
use Rattle.class_order.proofs.Rows.raise_class.Goals as goal

pub returns-then-has_sort : goal.returns-then-has_sort
returns-then-has_sort c =
    class_raised c.args.blocks.now _ _ _ _ _ _ (λ table k. c.has_sort.ensures _ k.is)
    c.if-has_sort.true (rw c.block-x.ensures.block at c.raise.ensures)
