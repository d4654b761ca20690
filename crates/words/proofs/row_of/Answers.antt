use mathlib.Core.Path.{◌≡◌, ◌∙◌}
use native.Mathlib.Omega.{arith}
use Rattle.std.specs.Prelude.{Some, slice_get}
use Rattle.std.proofs.lemmas.Grind.{common_steps}
use Rattle.std.proofs.lemmas.Option.{gets}
use Rattle.words.proofs.TableLaws.{row_there}
use Rattle.words.proofs.row_of.Goals as goal

pub returns-in_err-place_of : goal.returns-in_err-place_of
returns-in_err-place_of g c =
    rw c.from_residual.ensures
    (row_there _ _ c.args.rows.now _
    (rw c.as_chunks.ensures.front at c.in_err-place_of.ensures))

pub returns : goal.returns
returns g c =
    let e : c.copied.result ≡ slice_get c.args.rows.now c.in_ok-place_of.field-0 =
    grind (arith, common_steps, gets) in
    e ∙ row_there c.args.word c.args.words.now c.args.rows.now (Some c.in_ok-place_of.field-0)
    (rw c.as_chunks.ensures.front at c.in_ok-place_of.ensures)
