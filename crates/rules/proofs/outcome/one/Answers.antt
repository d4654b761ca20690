use mathlib.Core.Path.{◌∙◌, ap}
use mathlib.Core.List.{[], ◌∷◌, map}
use Rattle.packing.specs.Packing.{unpack_literal}
use Rattle.tree.specs.State.{codes_of}
use Rattle.rules.proofs.Laws.{packed_back}
use Rattle.rules.proofs.outcome.one.Goals as goal

pub returns : goal.returns
returns c =
    record {
      at_most = c.one.ensures.0;
      is =
          ap (λ k. map unpack_literal (codes_of k)) c.one.ensures.1
          ∙ ap (λ l. l ∷ []) (packed_back _ c.requires c.pack.ensures.0);
    }
