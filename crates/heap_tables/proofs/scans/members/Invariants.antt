-- The invariant: the bits are those of the keys before the index.
use Rattle.std.proofs.Common.{take}
use Rattle.heap_tables.specs.Scans.{IsMembers}
use Rattle.heap_tables.proofs.scans.members.Given as goal

abbrev pub invariant-loop-fact : goal.invariant-loop-fact
invariant-loop-fact l = IsMembers (take l.fact-index l.facts) l.base l.shift l.out
