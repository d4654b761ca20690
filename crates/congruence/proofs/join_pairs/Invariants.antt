-- What the pairs so far have joined.
use Rattle.congruence.specs.Signatures.{JoinedSome}
use Rattle.congruence.proofs.join_pairs.Given as goal

abbrev pub invariant-loop-pair : goal.invariant-loop-pair
invariant-loop-pair l = JoinedSome l.terms l.initial.blocks l.blocks l.changed
