-- The loop's invariant: the steps from i on, with value and count, come to what they come to from
-- the word's first byte on, and an LF is ahead. The measure is what is left of the file.
use Prim.Native.Nat.{◌-◌}
use lib.ListN.{length}
use Rattle.lines.specs.Lines.{LFAhead}
use Rattle.lines.specs.ByteSteps.{LettersFit}
use Rattle.lines.proofs.Bytes.{WordSoFar}
use Rattle.lines.proofs.read_word.Given as goal

abbrev pub invariant-loop-next : goal.invariant-loop-next
invariant-loop-next l =
    WordSoFar l.file l.at l.i l.value l.count × LettersFit l.value l.count × LFAhead l.file l.i

abbrev pub decreases-loop-next : goal.decreases-loop-next
decreases-loop-next l = length l.file - l.i
