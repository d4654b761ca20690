-- The step has the row's rule and mask, and the line's fields.
use mathlib.Core.Path.{refl, sym, ◌∙◌}
use Rattle.tableau.specs.Fields.{rule_uses}
use Rattle.parsing.proofs.step_of.Goals as goal

pub returns-then-not-unused_zero : goal.returns-then-not-unused_zero
returns-then-not-unused_zero c = (
  sym (c.unused_zero.ensures (rule_uses c.args.row.word) c.requires)
      ∙ c.if-not-unused_zero.true,
  refl,
)

pub returns : goal.returns
returns c =
    let e =
    sym (c.unused_zero.ensures (rule_uses c.args.row.word) c.requires)
    ∙ c.if-not-unused_zero.false in
    let t = c.third_of.ensures in
    (refl, rw t.1, record { used = c.requires; third = t.0; unused_zero = rw t.1 e })
