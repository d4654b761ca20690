use mathlib.Core.Path.{refl, ◌∙◌}
use mathlib.Core.List.{◌∷◌}
use native.Mathlib.Omega.{arith}
use Rattle.tableau.specs.File.{comma}
use Rattle.tableau.specs.Reply.{decimal, comma_numbers}
use Rattle.reply.proofs.NumberFields.{number_written, none_left}
use Rattle.reply.proofs.line.Text.put_fields.Goals as goal

pub loop-value-preserved : goal.loop-value-preserved
unfolding comma_numbers
loop-value-preserved c =
    let l = c.loop-value in (
      omega (arith, c.put_field.ensures.upper_bound),
      number_written (λ n. comma ∷ decimal n) comma_numbers
          (λ n ns. refl) c.args.values.now l.value-index l.self c.loop-value-test.true
          c.put_field.ensures.put
          ∙ l.invariant.1,
    )

pub returns : goal.returns
unfolding comma_numbers
returns c =
    let l = c.loop-value in
    c.put.ensures ∙ rw (none_left c.args.values.now l.value-index (omega arith)) at l.invariant.1
