-- The loop's invariant: the lines from the position on, mixed into the value, give what all lines
-- give. The measure is what is left of the file.
use mathlib.Core.Path.{◌≡◌}
use Prim.Native.Nat.{◌-◌}
use lib.ListN.{length}
use Rattle.reading_alone.proofs.Mixing.{mixed_from}
use Rattle.reading_alone.proofs.mix_lines.Given as goal

abbrev pub invariant-loop-at : goal.invariant-loop-at
invariant-loop-at l = mixed_from l.file l.at l.value ≡ mixed_from l.file 0 0

abbrev pub decreases-loop-at : goal.decreases-loop-at
decreases-loop-at l = length l.file - l.at
