-- The loop's invariant: the steps from i on, with value and left, come to what they come to from
-- the number's second byte on, and an LF is ahead. The measure is what is left of the file.
use Prim.Native.Nat.{◌-◌}
use lib.ListN.{length}
use Rattle.lines.specs.Lines.{LFAhead}
use Rattle.lines.specs.ByteSteps.{DigitsFit}
use Rattle.lines.proofs.Bytes.{DigitsSoFar}
use Rattle.lines.proofs.read_digits.Given as goal

abbrev pub invariant-loop-next : goal.invariant-loop-next
invariant-loop-next l =
    DigitsSoFar l.first l.max l.end l.file l.at l.i l.value l.left × DigitsFit l.value l.left
    × LFAhead l.file l.i

abbrev pub decreases-loop-next : goal.decreases-loop-next
decreases-loop-next l = length l.file - l.i
