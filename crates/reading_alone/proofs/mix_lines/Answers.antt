use mathlib.Core.Path.{sym, ◌∙◌}
use native.Mathlib.Omega.{arith}
use Rattle.lines.proofs.FileSteps.{ahead_here, no_line_behind}
use Rattle.running.proofs.Lines.{check_fields, line_here}
use Rattle.reading_alone.proofs.Mixing.{line_mixed, bad_mixed, end_mixed}
use Rattle.reading_alone.proofs.mix_lines.Goals as goal

pub returns-in_err-f : goal.returns-in_err-f
returns-in_err-f c =
    let l = c.loop-at in
    let ahead = c.lines_end-end.ensures.ahead _ c.loop-at-test.true in
    rw c.from_residual.ensures
    (sym (bad_mixed _ l.at l.value (ahead_here _ _ ahead) (sym c.in_err-f.ensures))
    ∙ l.invariant)

pub loop-at-smaller : goal.loop-at-smaller
loop-at-smaller c =
    let h = line_here check_fields _ _ _ (sym c.in_ok-f.ensures) in
    omega (arith, h.longer, h.inside)

pub loop-at-preserved : goal.loop-at-preserved
loop-at-preserved c =
    let l = c.loop-at in
    rw c.mix-value.ensures (sym (line_mixed _ l.at l.value _ (sym c.in_ok-f.ensures)) ∙ l.invariant)

-- behind the last LF
pub returns-then-at-file : goal.returns-then-at-file
returns-then-at-file c =
    let l = c.loop-at in
    sym (bad_mixed _ l.at l.value c.if-at-file.true
    (no_line_behind _ _ l.at c.lines_end-end.ensures c.loop-at-test.false)) ∙ l.invariant

pub returns-else-at-file : goal.returns-else-at-file
returns-else-at-file c =
    let l = c.loop-at in sym (end_mixed _ l.at l.value c.if-at-file.false) ∙ l.invariant
