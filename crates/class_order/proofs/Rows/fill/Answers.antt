use Rattle.class_order.proofs.FillLaws.{told_first, told_more}
use Rattle.class_order.proofs.Rows.fill.Goals as goal

pub loop-init : goal.loop-init
loop-init c =
    let blocks = c.args.blocks.now in
    told_more _ blocks _ _ _ _ _ (λ table. tt) (c.hasten.ensures blocks)
    (told_more _ blocks _ _ _ _ _ (λ table l o. o) c.pass.ensures.change
    (told_first _ _ _ _ _ c.reflexive.ensures))
