-- The loop's invariant: the replies so far, by their totals. The measure is what is left of the
-- night.
use Prim.Native.Nat.{◌-◌}
use lib.ListN.{length}
use Rattle.figures.proofs.Lines.{SoFar}
use Rattle.figures.proofs.night.read_night.Given as goal

abbrev pub invariant-loop-at : goal.invariant-loop-at
invariant-loop-at l = SoFar l.replies l.totals l.at

abbrev pub decreases-loop-at : goal.decreases-loop-at
decreases-loop-at l = length l.replies - l.at
