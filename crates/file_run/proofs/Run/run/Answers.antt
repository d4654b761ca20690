use mathlib.Core.Path.{◌≡◌, sym, ◌∙◌}
use native.Mathlib.Omega.{arith}
use Rattle.std.specs.Prelude.{Some, Ok}
use Rattle.std.proofs.lemmas.Result.{err_from_is_err_and}
use Rattle.lines.specs.Lines.{line_at, LFAhead}
use Rattle.lines.proofs.FileSteps.{ahead_here, no_line_behind}
use Rattle.terms.specs.Arrays.{arrays}
use Rattle.freshness.specs.Prefixes.{PrefixRows}
use Rattle.tree.specs.State.{codes_in, waiting_in}
use Rattle.tree.proofs.Waiting.{reads_codes}
use Rattle.line_checks.specs.Checks.{LineDone}
use Rattle.line_checks.proofs.Results.{none_or}
use Rattle.running.proofs.Lines.{check_fields, line_here}
use Rattle.file_run.proofs.Reaching.{ready, reached_bad, reached_end}
use Rattle.file_run.proofs.Reaching.{reached_refused, reached_more}
use Rattle.file_run.proofs.Run.run.Goals as goal
use Rattle.file_run.proofs.Run.run.Goals.{In-loop-at, In_ok-f, In_ok-effect, After-view}

-- in the loop an LF is ahead
ahead : (c : goal.In-loop-at) → LFAhead c.args.file.now c.loop-at.at
ahead c = c.lines_end-end.ensures.ahead _ c.loop-at-test.true

-- check 2
pub returns-in_err-f : goal.returns-in_err-f
returns-in_err-f c =
    let q = err_from_is_err_and c.from_residual.result c.from_residual.ensures.1 in
    let k = c.in_err-f.ensures in
    rw (q.1, q.2, none_or k.value k.ok_part, c.bad_shape.ensures)
    (reached_bad c.loop-at.invariant
    (ahead_here _ _ (ahead (goal.at.returns-in_err-f c).In-loop-at))
    (sym c.read_line.ensures ∙ k.ok_part))

is_line : (c : goal.In_ok-f) → line_at c.args.file.now c.loop-at.at ≡ Some c.in_ok-f.f
is_line c = sym c.read_line.ensures ∙ c.in_ok-f.ensures.ok_part

pub check_line-requires-clause-ready : goal.check_line-requires-clause-ready
check_line-requires-clause-ready c =
    let R = c.loop-at.invariant in
    let h = ahead_here _ _ (ahead (goal.at.check_line-requires-clause-ready c).In-loop-at) in (
      rw (c.view.ensures.branch, c.view.ensures.waiting) (ready R h),
      (line_here check_fields _ _ _
          (is_line (goal.at.check_line-requires-clause-ready c).In_ok-f)).small.a,
      (R.clauses, R.clauses_held),
    )

-- the rows are those of the view's branch
rows : (c : goal.After-view)
    → (let R = c.loop-at.invariant in PrefixRows R.table R.clauses c.view.result.branch.now c.loop-at.prefix c.loop-at.progress.noted)
rows c = rw c.view.ensures.branch c.loop-at.invariant.rows

pub returns-in_err-effect : goal.returns-in_err-effect
returns-in_err-effect c =
    let R = c.loop-at.invariant in
    let q = err_from_is_err_and c.from_residual-in_err-effect.result c.from_residual-in_err-effect.ensures.1 in
    let k = c.in_err-effect.ensures in
    let D = rw (c.view.ensures.branch, c.view.ensures.waiting) at
    (k.done R.table R.clauses R.held R.clauses_held
    (rows (goal.at.returns-in_err-effect c).After-view)) in
    rw (q.1, q.2) (reached_refused R _ (is_line (goal.at.returns-in_err-effect c).In_ok-f) k.line D)

done : (c : goal.In_ok-effect) → (let R = c.loop-at.invariant in
    let new = c.check_line.new in
    let t = c.loop-at.self.tree in
    LineDone R.table R.clauses c.loop-at.progress (codes_in t) (waiting_in t) c.in_ok-f.f
    (arrays new.terms new.chains new.rows) new.clauses new.prefix (Ok c.in_ok-effect.effect))
done c =
    let R = c.loop-at.invariant in
    rw (c.view.ensures.branch, c.view.ensures.waiting) at
    (c.in_ok-effect.ensures.done R.table R.clauses R.held R.clauses_held
    (rw c.view.ensures.branch R.rows))

pub apply-requires-clause-fits : goal.apply-requires-clause-fits
apply-requires-clause-fits c = (done (goal.at.apply-requires-clause-fits c).In_ok-effect).done.follows.fits c.loop-at.invariant.within.waiting

pub apply-requires-clause-literals : goal.apply-requires-clause-literals
apply-requires-clause-literals c =
    let after = done (goal.at.apply-requires-clause-literals c).In_ok-effect in
    reads_codes _ after.held.clauses.bounded _

pub loop-at-smaller : goal.loop-at-smaller
loop-at-smaller c =
    let l = line_here check_fields _ _ _ (is_line (goal.at.loop-at-smaller c).In_ok-f) in
    omega (arith, l.longer, l.inside)

pub loop-at-preserved : goal.loop-at-preserved
loop-at-preserved c =
    reached_more c.loop-at.invariant _ (is_line (goal.at.loop-at-preserved c).In_ok-f)
    (done (goal.at.loop-at-preserved c).In_ok-effect) c.apply.ensures

-- what stands behind the last LF is a bad line
pub returns-then-at-file : goal.returns-then-at-file
returns-then-at-file c =
    rw c.bad_shape-then-at-file.ensures
    (reached_bad c.loop-at.invariant c.if-at-file.true
    (no_line_behind _ _ _ c.lines_end-end.ensures c.loop-at-test.false))

-- the end of the file
pub returns : goal.returns
returns c = reached_end c.loop-at.invariant c.if-at-file.false
