-- Each return names the first of the checks 4 to 6 that the line breaks.
use mathlib.Core.Path.{◌≡◌, sym, ◌∙◌}
use Rattle.std.specs.Prelude.{Some}
use Rattle.std.proofs.lemmas.Result.{err_from_is_err_and}
use Rattle.tableau.specs.Words.{rule_names}
use Rattle.words.specs.Words.{lookup_packed, rule_row, RuleFits}
use Rattle.words.proofs.TableLaws.{known_rule, no_row}
use Rattle.line_checks.proofs.Results.{none_or}
use Rattle.line_checks.proofs.StepLines.{step_unknown, step_closed, step_unused, step_takes}
use Rattle.line_checks.proofs.step_line.check.Goals as goal
use Rattle.line_checks.proofs.step_line.check.Goals.{In_ok-row}

known : (c : goal.In_ok-row) → (lookup_packed rule_names c.args.f.word ≡ Some c.in_ok-row.row.word)
    × RuleFits c.in_ok-row.row
known c = known_rule _ _ (sym c.in_ok-row.ensures.ok_part ∙ c.rule_of.ensures)

-- check 4
pub returns-in_err-row : goal.returns-in_err-row
returns-in_err-row c table C H K P =
    let q = err_from_is_err_and c.from_residual.result c.from_residual.ensures.1 in
    let k = c.in_err-row.ensures in
    rw (q.1, q.2, none_or k.value k.ok_part)
    (step_unknown table C _ _ _ c.requires.ready.0 c.args.f c.requires.letter _ _ _ K
    (no_row rule_row _ (sym k.ok_part ∙ c.rule_of.ensures)))

-- check 5
pub returns-then-progress : goal.returns-then-progress
returns-then-progress c table C H K P =
    step_closed table C _ _ _ c.requires.ready.0 c.args.f c.requires.letter _ _ _ K _
    (known (goal.at.returns-then-progress c).In_ok-row).0 c.if-progress.true

-- check 6
pub returns-in_err-step : goal.returns-in_err-step
returns-in_err-step c table C H K P =
    let q = err_from_is_err_and c.from_residual-in_err-step.result c.from_residual-in_err-step.ensures.1 in
    let u = c.in_err-step.ensures in
    rw (q.1, q.2, u.1)
    (step_unused table C _ _ _ c.requires.ready.0 c.args.f c.requires.letter _ _ _ K _
    (known (goal.at.returns-in_err-step c).In_ok-row).0 c.if-progress.false u.0)

pub returns : goal.returns
returns c table C H K P =
    let u = c.in_ok-step.ensures in
    step_takes table C _ _ _ c.requires.ready.0 c.args.f c.requires.letter _ _ _ K _
    (known (goal.at.returns c).In_ok-row).0 c.if-progress.false H _ u.0 u.1 _
    (c.take.ensures table C H K P)
