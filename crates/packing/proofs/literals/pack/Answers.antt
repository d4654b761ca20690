use native.Mathlib.Omega.{arith}
use Rattle.packing.specs.Packing.{pack_literal}
use Rattle.packing.proofs.PackingLaws.{relation_small}
use Rattle.packing.proofs.Tags.{relation_tag}
use Rattle.packing.proofs.literals.pack.Goals as goal

pub returns : goal.returns
unfolding pack_literal
returns c =
    let R = c.args.literal.relation in
    let e = relation_tag R in
    (omega arith, omega (arith, relation_small R))
