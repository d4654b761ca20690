-- The class terms before t are under themselves.
use Rattle.class_order.proofs.FillLaws.{ClassPart}
use Rattle.class_order.proofs.Rows.reflexive.Given as goal

abbrev pub invariant-loop-t : goal.invariant-loop-t
invariant-loop-t l = ClassPart l.blocks l.self l.terms l.t
