-- The loop's invariant: behind the numbers read the steps go on, and an LF is ahead of one that is
-- left.
use Prim.Native.Nat.{◌<◌}
use mathlib.Core.Path.{◌≡◌}
use lib.ListN.{length}
use Rattle.lines.specs.Lines.{LFAhead}
use Rattle.reply_lines.specs.Reading.{number_count}
use Rattle.reply_lines.proofs.Numbers.{NumbersSoFar}
use Rattle.reply_lines.proofs.read_numbers.Given as goal

abbrev pub invariant-loop-i : goal.invariant-loop-i
invariant-loop-i l =
    NumbersSoFar l.file l.at l.i l.next l.values × (length l.values ≡ number_count)
    × (l.i < number_count → LFAhead l.file l.next)
