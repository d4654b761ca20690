-- The le literals so far whose sides are under each other have them in one block, where nothing has
-- changed.
use Rattle.background.proofs.OrderLaws.{Part}
use Rattle.background.proofs.order.antisymmetry.Given as goal

abbrev pub invariant-loop-code : goal.invariant-loop-code
invariant-loop-code l = Part l.rows l.initial.blocks l.blocks l.branch l.code-index l.changed
