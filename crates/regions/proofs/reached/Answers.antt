use mathlib.Core.Path.{sym, ◌∙◌, refl}
use Rattle.regions.specs.Masks.{reached_below}
use Rattle.regions.proofs.MaskLaws.{reach_member, reach_other}
use Rattle.regions.proofs.reached.Goals as goal
use Rattle.regions.proofs.reached.Goals.{then-has, else-has}

pub loop-x-init : goal.loop-x-init
unfolding reached_below
loop-x-init c = refl

pub loop-x-preserved : goal.loop-x-preserved
loop-x-preserved c = elim c.if-has.branch [
  | then-has w ↦ w.out-is ∙ reach_member _ _ _ _ _ (sym c.has.ensures ∙ w.if-has.true) c.loop-x.invariant
  | else-has w ↦ w.out-is ∙ reach_other _ _ _ _ _ (sym c.has.ensures ∙ w.if-has.false) c.loop-x.invariant
]
