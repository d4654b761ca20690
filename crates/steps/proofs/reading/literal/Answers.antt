-- The literal at the place is read.
use mathlib.Core.Path.{sym, ap, ◌∙◌}
use Rattle.std.specs.Prelude.{Some}
use Rattle.packing.specs.Packing.{unpack_literal, literal_of}
use Rattle.packing.proofs.PackingLaws.{literal_of_view, literal_view_small}
use Rattle.steps.proofs.reading.literal.Goals as goal

pub returns : goal.returns
returns c =
    let e = c.view.ensures in
    record {
      small = literal_view_small _ _ e;
      is = λ h.
          c.literal_at.ensures.literal unpack_literal
          ∙ ap Some (sym (ap literal_of e ∙ literal_of_view _));
    }
