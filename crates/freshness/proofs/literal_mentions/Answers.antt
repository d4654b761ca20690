-- The bit of w in the rows of the two sides.
use mathlib.Core.Path.{◌∙◌}
use native.Mathlib.Omega.{arith}
use Rattle.packing.specs.Packing.{unpack_literal}
use Rattle.freshness.proofs.PrefixLaws.{sides_bit}
use Rattle.freshness.proofs.literal_mentions.Goals as goal

pub returns : goal.returns
returns c table R e first =
    let s = c.side_rows-left.ensures in
    c.has_bit.ensures
    ∙ sides_bit table _ (unpack_literal c.args.literal) _ _ R (rw e s.0)
    (rw e s.1) c.args.w.0 first (omega (arith, c.requires)) (omega (arith, c.requires))
