use Rattle.class_order.proofs.RowLaws.{extended_then}
use Rattle.class_order.proofs.Rows.hasten.Goals as goal

pub loop-pair-preserved : goal.loop-pair-preserved
loop-pair-preserved c blocks = extended_then _ _ _ blocks _ _ _ (c.loop-pair.invariant blocks)
    (c.raise_pair.ensures blocks) (λ table B t. t) (λ table B t. t)
