-- The invariant: no line before the index has the key.
use Rattle.std.proofs.Common.{◌≡◌, drop}
use Rattle.facts.specs.Keys.{value_at}
use Rattle.facts.proofs.keys.value_at.Given as goal

abbrev pub invariant-loop-fact : goal.invariant-loop-fact
invariant-loop-fact l =
    value_at (drop l.fact-index l.fact-items) l.key ≡ value_at l.facts l.key
