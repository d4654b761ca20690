-- The invariant: no term before t is the one that is looked for.
use Prim.Native.Nat.{◌+◌, ◌-◌, ◌<◌, ◌≤◌}
use Rattle.table.specs.Held.{Absent}
use Rattle.table.proofs.scan.Given as goal

abbrev pub invariant-loop-t : goal.invariant-loop-t
invariant-loop-t l = (0 < l.t) × (l.t ≤ l.last + 1) × Absent l.terms l.packed 1 l.t

abbrev pub decreases-loop-t : goal.decreases-loop-t
decreases-loop-t l = l.last + 1 - l.t
