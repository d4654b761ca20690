-- The loop's invariant: the digits of what is left, and behind them those that stand, are the
-- digits of the value. What is left has at most pos + 1 digits, so that there is room for them. The
-- measure is what is left.
use mathlib.Core.Path.{◌≡◌}
use Prim.Native.Nat.{suc, ◌+◌, ◌<◌, ◌^◌}
use lib.ListN.{length, drop}
use Rattle.tableau.specs.Reply.{decimal_from, decimal}
use Rattle.reply.specs.Line.{number_digits}
use Rattle.reply.proofs.line.Text.put_decimal.Given as goal

abbrev pub invariant-loop-rest : goal.invariant-loop-rest
invariant-loop-rest l =
    (l.pos < number_digits) × (length l.digits ≡ number_digits) × (l.rest < 10 ^ (l.pos + 1))
    × (decimal_from (suc l.rest) l.rest (drop (l.pos + 1) l.digits) ≡ decimal l.value)

abbrev pub decreases-loop-rest : goal.decreases-loop-rest
decreases-loop-rest l = l.rest
