use mathlib.Core.Path.{◌∙◌, ap, sym, subst}
use Rattle.tableau.specs.Terms.{at}
use Rattle.packing.specs.Packing.{view_of, unpack_term, SmallView}
use Rattle.packing.proofs.PackingLaws.{unpack_pack, packable_small}
use Rattle.table.proofs.view.Goals as goal

pub returns : goal.returns
returns c =
    λ table E.
    let p = c.packed.ensures table E in
    let e = at table c.args.term.0 in
    let v = c.view.ensures ∙ ap view_of (ap unpack_term p.is ∙ unpack_pack e p.packable) in
    record { is = sym v; small = subst SmallView (sym v) (packable_small e p.packable) }
