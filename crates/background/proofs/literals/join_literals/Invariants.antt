-- The sides of the eq literals so far are in one block.
use Rattle.background.proofs.LiteralLaws.{Part}
use Rattle.background.proofs.literals.join_literals.Given as goal

abbrev pub invariant-loop-code : goal.invariant-loop-code
invariant-loop-code l = Part l.initial.blocks l.blocks l.branch l.code-index l.changed
