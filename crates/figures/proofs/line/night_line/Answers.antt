-- The figures, or a refusal.
use mathlib.Core.Path.{subst, ◌∙◌}
use Rattle.statistics.specs.Figures.{figures_line}
use Rattle.figures.specs.Night.{ReadTo}
use Rattle.figures.proofs.line.night_line.Goals as goal

pub returns-in-Ok : goal.returns-in-Ok
unfolding figures_line
returns-in-Ok c replies h =
    let r = subst (ReadTo replies) c.in-Ok.is h in
    c.totals_line.ensures r.replies r.totals ∙ rw r.read

pub returns-in-Err : goal.returns-in-Err
unfolding figures_line
returns-in-Err c replies h = c.refusal_line.ensures ∙ rw (subst (ReadTo replies) c.in-Err.is h)
