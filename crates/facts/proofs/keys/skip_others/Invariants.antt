-- The invariant: what is found in the rest is what is found in all.
use Rattle.std.proofs.Common.{length}
use Rattle.facts.specs.Keys.{SameFound}
use Rattle.facts.proofs.keys.skip_others.Given as goal

abbrev pub invariant-loop-rest : goal.invariant-loop-rest
invariant-loop-rest l = SameFound l.key l.facts l.rest

abbrev pub decreases-loop-rest : goal.decreases-loop-rest
decreases-loop-rest l = length l.rest
