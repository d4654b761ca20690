-- The loop's invariant: the bytes written, and behind them those of the numbers that are left, are
-- the bytes of all.
use Prim.Native.Nat.{◌*◌}
use mathlib.Core.Path.{◌≡◌}
use mathlib.Core.List.{◌++◌}
use lib.ListN.{take, drop}
use Rattle.tableau.specs.Reply.{number_bytes}
use Rattle.reply.proofs.buffer.put_numbers.Given as goal

abbrev pub invariant-loop-i : goal.invariant-loop-i
invariant-loop-i l =
    take (4 * l.i) l.buffer ++ number_bytes (drop l.i l.numbers) ≡ number_bytes l.numbers
