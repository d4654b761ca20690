-- The rows have what they had, and what follows from it.
use Rattle.class_order.specs.Rows.{Composed}
use Rattle.class_order.proofs.Rows.hasten.Given as goal

abbrev pub invariant-loop-pair : goal.invariant-loop-pair
invariant-loop-pair l = Composed l.initial.self l.self
