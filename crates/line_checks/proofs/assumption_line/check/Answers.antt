-- The literal of the line, and check 15.
use mathlib.Core.Path.{ap}
use Rattle.std.proofs.lemmas.Result.{err_from_is_err_and}
use Rattle.tree.specs.State.{codes_of}
use Rattle.line_checks.proofs.AssumptionLines.{assumption_refused, assumption_full}
use Rattle.line_checks.proofs.AssumptionLines.{assumption_added}
use Rattle.line_checks.proofs.assumption_line.check.Goals as goal

-- checks 4, 6, 8 and 9
pub returns-in_err-code : goal.returns-in_err-code
returns-in_err-code c table C E n =
    let p = c.requires.letter in
    let q = err_from_is_err_and c.from_residual.result c.from_residual.ensures.1 in
    rw (q.1, q.2)
    (assumption_refused table C _ _ _ c.args.f c.requires.ready p.0 p.1 _
    (c.in_err-code.ensures.value table E n))

-- check 15
pub returns-in_err-change : goal.returns-in_err-change
returns-in_err-change c table C E n =
    let p = c.requires.letter in
    let q = err_from_is_err_and c.from_residual-in_err-change.result c.from_residual-in_err-change.ensures.1 in
    let S = rw (ap codes_of c.one.ensures.1) at c.in_err-change.ensures in
    rw (q.1, q.2)
    (assumption_full table C _ _ _ c.args.f c.requires.ready p.0 p.1 _ E.few
    (c.in_ok-code.ensures.value table E n) S)

pub returns : goal.returns
returns c table C E n =
    let p = c.requires.letter in
    let S = rw (ap codes_of c.one.ensures.1) at c.in_ok-change.ensures in
    rw (c.changed.ensures, c.after_literal.ensures)
    (assumption_added table C _ _ _ c.args.f c.requires.ready p.0 p.1 _ E.few
    (c.in_ok-code.ensures.value table E n) S)
