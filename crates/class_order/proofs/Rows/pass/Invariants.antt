-- The literals so far are in the rows, and have nothing to add where nothing has changed.
use Rattle.class_order.proofs.FillLaws.{PassPart}
use Rattle.class_order.proofs.Rows.pass.Given as goal

abbrev pub invariant-loop-code : goal.invariant-loop-code
invariant-loop-code l = PassPart l.blocks l.initial.self l.self l.branch l.code-index l.changed
