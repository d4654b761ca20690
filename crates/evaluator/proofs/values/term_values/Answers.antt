use Rattle.evaluator.proofs.ValueLaws.{none_shown}
use Rattle.evaluator.proofs.values.term_values.Goals as goal

pub loop-t-init : goal.loop-t-init
loop-t-init c = none_shown
