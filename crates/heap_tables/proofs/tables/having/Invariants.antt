-- The invariant: the bits below x are right, and no other is set.
use Rattle.heap_tables.proofs.TableLaws.{HavingBelow}
use Rattle.heap_tables.proofs.tables.having.Given as goal

abbrev pub invariant-loop-x : goal.invariant-loop-x
invariant-loop-x l = HavingBelow l.typ l.under l.class l.x l.out
