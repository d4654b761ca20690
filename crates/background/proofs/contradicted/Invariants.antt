-- What is in one block follows to be equal; each round that joins blocks leaves fewer.
use Rattle.std.proofs.Common.{map}
use Rattle.packing.specs.Packing.{unpack_literal}
use Rattle.partition.specs.Blocks.{roots}
use Rattle.background.proofs.RoundLaws.{SoundOver}
use Rattle.background.proofs.contradicted.Given as goal

abbrev pub invariant-loop-answer : goal.invariant-loop-answer
invariant-loop-answer l = SoundOver l.terms l.n (map unpack_literal l.branch) l.blocks

abbrev pub decreases-loop-answer : goal.decreases-loop-answer
decreases-loop-answer l = roots 1024 l.blocks
