-- Row 0 is filled from itself.
use Rattle.freshness.proofs.PrefixLaws.{prefix_clause}
use Rattle.freshness.proofs.note_clause.Goals as goal

pub returns : goal.returns
returns c table C codes k R e P =
    let s = c.side_rows-left.ensures in
    prefix_clause table _ _ _ _ R (rw e s.0) (rw e s.1) C codes k _ _ P c.fill.ensures
