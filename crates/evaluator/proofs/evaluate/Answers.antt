-- Check 1, then the lines before the first S line, then the heap file.
use mathlib.Core.Path.{refl, sym, ◌∙◌}
use Prim.Native.Nat.{◌≤◌}
use native.Mathlib.Omega.{arith}
use lib.ListN.{length}
use Rattle.tableau.specs.File.{max_bytes}
use Rattle.terms.proofs.GrowthLaws.{held_empty}
use Rattle.freshness.proofs.PrefixLaws.{prefix_zeros}
use Rattle.clauses.proofs.Laws.{none_held}
use Rattle.evaluator.proofs.FileLaws.{file_too_long, file_stops, file_ends, state_held}
use Rattle.evaluator.proofs.CallLaws.{answered}
use Rattle.evaluator.proofs.evaluate.Goals as goal
use Rattle.evaluator.proofs.evaluate.Goals.{After-steps_at-end}

pub returns-then-file-gt-FILE_BYTES : goal.returns-then-file-gt-FILE_BYTES
returns-then-file-gt-FILE_BYTES c =
    let a = c.args in
    let told = answered a.file.now a.heap.now (c.refused.ensures ∙ sym (file_too_long a.file.now a.heap.now (omega (arith, c.if-file-gt-FILE_BYTES.true)))) in
    record { result_value = told.0; means = told.1.0; fact = told.1.1 }

short : (c : goal.After-steps_at-end) → length c.args.file.now ≤ max_bytes
short c = omega (arith, c.if-file-gt-FILE_BYTES.false)

pub run-requires-clause-held : goal.run-requires-clause-held
run-requires-clause-held c = (held_empty, prefix_zeros 10010 refl, none_held 801 refl)

pub returns-in-Err : goal.returns-in-Err
returns-in-Err c =
    let a = c.args in
    let told = answered a.file.now a.heap.now
    (c.refused-in-Err.ensures ∙ sym (file_stops a.file.now a.heap.now (short (goal.at.returns-in-Err c).After-steps_at-end) _ c.steps_at-end.ensures.0 _ _ c.in-Err.ensures)) in
    record { result_value = told.0; means = told.1.0; fact = told.1.1 }

pub read_heap-requires : goal.read_heap-requires
read_heap-requires c =
    let a = c.args in
    (_, state_held a.file.now a.heap.now (short (goal.at.read_heap-requires c).After-steps_at-end) _ c.steps_at-end.ensures.0 c.in-Ok.ensures refl refl c.view.ensures.branch refl refl)

pub returns-in-Ok : goal.returns-in-Ok
returns-in-Ok c =
    let a = c.args in
    let h = short (goal.at.returns-in-Ok c).After-steps_at-end in
    let told = answered a.file.now a.heap.now
    (c.read_heap.ensures _ (state_held a.file.now a.heap.now h _ c.steps_at-end.ensures.0 c.in-Ok.ensures refl refl c.view.ensures.branch refl refl)
    ∙ sym (file_ends a.file.now a.heap.now h _ c.steps_at-end.ensures.0 c.in-Ok.ensures)) in
    record { result_value = told.0; means = told.1.0; fact = told.1.1 }
