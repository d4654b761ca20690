use Rattle.std.proofs.Common.{arith, refl, ◌||◌}
use Rattle.table.proofs.GrowthLaws.{chains_empty}
use Rattle.congruence.proofs.AlikeLaws.{Part, part_none, part_step, part_all}
use Rattle.congruence.proofs.join_alike.Goals as goal
use Rattle.congruence.proofs.join_alike.Goals.{After-add}

pub loop-t-init : goal.loop-t-init
loop-t-init c = (0, refl, part_none _ _ _ _ _ refl (chains_empty _ _ refl))

-- the term t is signed too
signed : (c : After-add) → Part c.args.blocks.now c.join_signed-changed.new.blocks c.args.terms.now
    c.add.new.terms c.add.new.chains c.args.n c.loop-t.t
    (c.loop-t.changed || c.join_signed-changed.result)
signed c =
    let P = c.loop-t.invariant in
    part_step _ _ _ _ _ _ _ _ _ _ _ _ _ _ _ c.requires (omega (arith, P.1)) P.2 P.1
    c.sign-signature.ensures
    (c.join_signed-changed.ensures P.0 P.2.chained (omega (arith, P.1))) c.add.ensures.terms_after
    c.add.ensures.chains_after refl

pub loop-t-preserved : goal.loop-t-preserved
loop-t-preserved c = (c.loop-t.t, omega arith, signed (goal.at.loop-t-preserved c).After-add)

pub returns : goal.returns
returns c = let P = c.loop-t.invariant in part_all _ _ _ _ _ _ _ _ (omega (arith, P.1)) P.2

-- after the last term
pub returns-2 : goal.returns-2
returns-2 c = part_all _ _ _ _ _ _ _ _ (omega arith) (signed (goal.at.returns-2 c).After-add)
