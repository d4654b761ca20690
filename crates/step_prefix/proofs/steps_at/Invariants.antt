-- The loop's invariant: no line that begins `S,` begins before the position.
use Rattle.evaluation.specs.Parts.{StepsAhead}
use Rattle.step_prefix.proofs.steps_at.Given as goal

abbrev pub invariant-loop-at : goal.invariant-loop-at
invariant-loop-at l = StepsAhead l.file l.at l.line_start
