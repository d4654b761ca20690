-- The invariant: no term before t is the one that is looked for.
use Rattle.table.specs.Held.{Absent}
use Rattle.table.proofs.scan_from.Given as goal

abbrev pub invariant-loop-t : goal.invariant-loop-t
invariant-loop-t l = Absent l.terms l.packed 1 l.t
