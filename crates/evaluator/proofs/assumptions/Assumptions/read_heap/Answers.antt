-- The heap is tried where the lines pass and there is one at least.
use mathlib.Core.Path.{sym, ◌∙◌}
use native.Mathlib.Omega.{arith}
use Prim.Native.Nat.{◌≤◌}
use lib.ListN.{length}
use Rattle.tableau.specs.File.{max_bytes}
use Rattle.evaluator.proofs.TrialLaws.{heap_passable, heap_tried}
use Rattle.evaluator.proofs.assumptions.Assumptions.read_heap.Goals as goal

pub try_heap-requires-clause-facts_held : goal.try_heap-requires-clause-facts_held
try_heap-requires-clause-facts_held c =
    let F = c.in-Ok.ensures in
    (F.facts, F.kept, heap_passable c.requires.0 c.args.heap.now (omega (arith, c.if-heap-gt-FILE_BYTES.false)) F c.if-read-eq0.false, F.sized)

pub returns-in-Ok-2 : goal.returns-in-Ok-2
returns-in-Ok-2 c σ S =
    let F = c.in-Ok.ensures in
    let short : length c.args.heap.now ≤ max_bytes = omega (arith, c.if-heap-gt-FILE_BYTES.false) in
    c.try_heap.ensures σ F.facts S F.kept (heap_passable σ c.args.heap.now short F c.if-read-eq0.false) F.sized ∙ sym (heap_tried σ c.args.heap.now short F c.if-read-eq0.false)
