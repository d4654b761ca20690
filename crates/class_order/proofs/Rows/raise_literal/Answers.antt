use Rattle.tableau.specs.declared.Relation.{Relation}
use Rattle.tableau.specs.Terms.{relation_index}
use Rattle.packing.proofs.PackingLaws.{literal_read_lem, literal_view_small}
use Rattle.packing.proofs.ViewLaws.{is_not}
use Rattle.class_order.proofs.RowLaws.{literal_skipped, literal_raised}
use Rattle.class_order.proofs.Rows.raise_literal.Goals as goal

-- the literal is no le
pub returns-in_default : goal.returns-in_default
unfolding relation_index
returns-in_default c =
    let p = c.view.result in
    literal_skipped _ _ p _ (literal_read_lem _ p c.view.ensures)
    (is_not Relation.Le p c.in_default.not-Le)

pub block-requires : goal.block-requires
block-requires c = (literal_view_small c.args.code _ c.in-Le.ensures).0

pub block-requires-2 : goal.block-requires-2
block-requires-2 c = (literal_view_small c.args.code _ c.in-Le.ensures).1

pub returns : goal.returns
returns c = literal_raised c.args.blocks.now _ _ _ _ _ (literal_read_lem _ _ c.in-Le.ensures) _
    (rw (c.block.ensures.block, c.block-2.ensures.block) at c.raise.ensures)
