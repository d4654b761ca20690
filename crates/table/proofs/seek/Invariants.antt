-- The invariant: the chain has passed no entry that is the term, and stands at one with its hash.
use Prim.Native.Nat.{◌≤◌}
use Rattle.tableau.specs.Terms.{max_terms}
use Rattle.table.proofs.ChainLaws.{AllSeeking}
use Rattle.table.proofs.seek.Given as goal

abbrev pub invariant-loop : goal.invariant-loop
invariant-loop l = (l.t ≤ max_terms) × AllSeeking l.terms l.chains l.packed l.t
