use native.Mathlib.Omega.{arith}
use Rattle.freshness.proofs.PrefixLaws.{prefix_less, prefix_more}
use Rattle.freshness.proofs.note.Goals as goal

pub loop-i-preserved : goal.loop-i-preserved
loop-i-preserved c table C R e P =
    let Q = c.loop-i.invariant table C R e P in
    let s = c.side_rows-left.ensures in
    prefix_more table C _ _ _ _ _ R (omega (arith, c.requires)) (rw e s.0)
    (rw e s.1) _ _ Q c.fill.ensures

pub returns : goal.returns
returns c table C R e P = prefix_less (omega arith) (c.loop-i.invariant table C R e P)
