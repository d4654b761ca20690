-- The words before i of the row are joined, and the others as they were.
use Rattle.class_order.proofs.WordLaws.{RaisedPart}
use Rattle.class_order.proofs.Rows.raise.Given as goal

abbrev pub invariant-loop-i : goal.invariant-loop-i
invariant-loop-i l = RaisedPart l.initial.self.words l.self.words l.x.0 l.y.0 l.i l.changed
