-- Every line so far passed, and the facts stored and the sizes are what these lines say. The measure is what is left of the file.
use Prim.Native.Nat.{◌-◌}
use lib.ListN.{length}
use Rattle.facts.proofs.Reached.{Reached}
use Rattle.facts.proofs.reading.read_facts.Given as goal

abbrev pub invariant-loop-at : goal.invariant-loop-at
invariant-loop-at l = Reached l.file l.facts l.sizes l.count l.at

abbrev pub decreases-loop-at : goal.decreases-loop-at
decreases-loop-at l = length l.file - l.at
