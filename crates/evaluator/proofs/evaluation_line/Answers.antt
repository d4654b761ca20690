-- The line of the reply to both files.
use mathlib.Core.Path.{sym, ◌∙◌, ap}
use Rattle.evaluation.specs.Evaluation.{evaluation_line}
use Rattle.evaluator.proofs.CallLaws.{never_line}
use Rattle.evaluator.proofs.evaluation_line.Goals as goal

pub returns-clause-never_all_true : goal.returns-clause-never_all_true
returns-clause-never_all_true c =
    λ y q. never_line c.args.file.now c.args.heap.now y (sym (c.line.ensures ∙ ap evaluation_line c.evaluate.ensures.result_value) ∙ q)
