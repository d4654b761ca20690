-- The invariant: the bytes are the values of the lines behind those that are left.
use Rattle.heap_tables.proofs.ScanLaws.{Scattered}
use Rattle.heap_tables.proofs.scans.scatter.Given as goal

abbrev pub invariant-loop-fact : goal.invariant-loop-fact
invariant-loop-fact l = Scattered l.facts l.fact-iterator.iter.rest.now l.base l.shift l.fn.out l.out
