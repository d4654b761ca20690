use Rattle.background.proofs.RoundLaws.{none_alike, round_ordered}
use Rattle.background.proofs.round.Goals as goal

pub returns : goal.returns
returns c =
    round_ordered _ _ _ _ c.args.branch.now _ _
    (none_alike _ _ _ _ _ _ _ _ c.if-join_congruent.false c.join_literals.ensures
    c.join_congruent.ensures) _ c.by_order.ensures
