-- `check` meets its contract: check 1, then the lines.
use mathlib.Core.Path.{refl, ◌∙◌}
use native.Mathlib.Omega.{arith}
use Rattle.std.proofs.lemmas.Result.{err_from_is_err_and}
use Rattle.terms.proofs.GrowthLaws.{held_empty}
use Rattle.freshness.proofs.PrefixLaws.{prefix_zeros}
use Rattle.clauses.proofs.Laws.{none_held}
use Rattle.checker.proofs.Whole.{too_long, lines_stop, lines_end}
use Rattle.checker.proofs.check.Goals as goal

-- check 1
pub returns-then-file-gt-FILE_BYTES : goal.returns-then-file-gt-FILE_BYTES
returns-then-file-gt-FILE_BYTES c = too_long _ (omega arith)

pub run-requires-clause-held : goal.run-requires-clause-held
run-requires-clause-held c = (held_empty, prefix_zeros 10010 refl, none_held 801 refl)

-- a line is refused
pub returns-in_err-ran : goal.returns-in_err-ran
returns-in_err-ran c =
    let q = err_from_is_err_and c.from_residual.result c.from_residual.ensures.1 in
    rw (q.1, q.2) (lines_stop _ (omega arith) _ _ c.in_err-ran.ensures)

-- all pass
pub returns : goal.returns
returns c =
    let short = c.if-file-gt-FILE_BYTES.false in
    c.end.ensures ∙ lines_end _ (omega (arith, short)) c.in_ok-ran.ensures
