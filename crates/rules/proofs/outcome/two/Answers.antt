use mathlib.Core.Path.{◌∙◌, ap}
use mathlib.Core.List.{[], ◌∷◌, map}
use Rattle.packing.specs.Packing.{unpack_literal}
use Rattle.rules.proofs.Laws.{packed_back}
use Rattle.rules.proofs.outcome.two.Goals as goal

pub returns : goal.returns
returns c =
    let s = c.requires in
    record {
      at_most = c.two.ensures.0;
      is = ap (map unpack_literal) c.two.ensures.1
          ∙ (λ i. packed_back _ s.0 c.pack.ensures.0 i ∷ packed_back _ s.1 c.pack-2.ensures.0 i
          ∷ []);
    }
