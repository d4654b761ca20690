-- The loop's invariant: the text, and behind it the fields that are left, are what was there and
-- all fields.
use Prim.Native.Nat.{◌+◌, ◌*◌, ◌≤◌}
use mathlib.Core.Path.{◌≡◌}
use mathlib.Core.List.{◌++◌}
use lib.ListN.{length, drop}
use Rattle.tableau.specs.Reply.{comma_numbers}
use Rattle.reply.specs.Line.{field_bytes}
use Rattle.reply.proofs.line.Text.put_fields.Given as goal

abbrev pub invariant-loop-value : goal.invariant-loop-value
invariant-loop-value l = (length l.self ≤ length l.initial.self + field_bytes * l.value-index)
    × (l.self ++ comma_numbers (drop l.value-index l.values)
    ≡ l.initial.self ++ comma_numbers l.values)
