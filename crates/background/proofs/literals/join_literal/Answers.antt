use Rattle.tableau.specs.declared.Relation.{Relation}
use Rattle.tableau.specs.Terms.{relation_index}
use Rattle.packing.proofs.PackingLaws.{literal_read_lem, literal_view_small}
use Rattle.packing.proofs.ViewLaws.{is_not}
use Rattle.background.proofs.LiteralLaws.{literal_skipped, literal_joined}
use Rattle.background.proofs.literals.join_literal.Goals as goal

-- the literal is no eq
pub returns-in_default : goal.returns-in_default
unfolding relation_index
returns-in_default c =
    let p = c.view.result in
    literal_skipped _ p _ (literal_read_lem _ p c.view.ensures)
    (is_not Relation.Eq p c.in_default.not-Eq)

pub join-requires : goal.join-requires
join-requires c = literal_view_small c.args.code _ c.in-Eq.ensures

pub returns : goal.returns
returns c = literal_joined _ _ _ _ _ _ (literal_read_lem _ _ c.in-Eq.ensures) c.join.ensures
