use Rattle.std.proofs.Common.{sym, ◌∙◌}
use Rattle.tableau.specs.declared.Relation.{Relation}
use Rattle.tableau.specs.Terms.{relation_index}
use Rattle.packing.proofs.PackingLaws.{literal_read_lem, literal_view_small}
use Rattle.packing.proofs.ViewLaws.{is_not}
use Rattle.background.proofs.OrderLaws.{mutual_skipped, not_mutual, mutual_joined}
use Rattle.background.proofs.order.join_mutual.Goals as goal

-- the literal is no le
pub returns-in_default : goal.returns-in_default
unfolding relation_index
returns-in_default c =
    let p = c.view.result in
    mutual_skipped _ _ p _ (literal_read_lem _ p c.view.ensures)
    (is_not Relation.Le p c.in_default.not-Le)

pub terms_under-requires : goal.terms_under-requires
terms_under-requires c = let s = literal_view_small c.args.code _ c.in-Le.ensures in (s.1, s.0)

pub join-requires : goal.join-requires
join-requires c = literal_view_small c.args.code _ c.in-Le.ensures

pub returns-then-terms_under : goal.returns-then-terms_under
returns-then-terms_under c =
    let s = literal_view_small c.args.code _ c.in-Le.ensures in
    mutual_joined c.args.rows.now _ _ _ _ (literal_read_lem _ _ c.in-Le.ensures) _ _ s.0 s.1
    (sym c.terms_under.ensures ∙ c.if-terms_under.true) c.join.ensures

pub returns-else-terms_under : goal.returns-else-terms_under
returns-else-terms_under c =
    rw c.if-terms_under.false
    (not_mutual c.args.rows.now c.args.blocks.now _ _ _ (literal_read_lem _ _ c.in-Le.ensures)
    (sym c.terms_under.ensures ∙ c.if-terms_under.false))
