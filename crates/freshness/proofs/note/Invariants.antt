-- The invariant: the rows up to i are filled.
use Rattle.std.proofs.Common.{◌≡◌, length}
use Rattle.tableau.specs.Terms.{Table, Clauses}
use Rattle.mentions.specs.Mentions.{MentionRows}
use Rattle.freshness.specs.Prefixes.{PrefixRows}
use Rattle.freshness.proofs.note.Given as goal

abbrev pub invariant-loop-i : goal.invariant-loop-i
invariant-loop-i l =
    (table : Table) (C : Clauses) → MentionRows table l.rows → length table ≡ l.n
    → PrefixRows table C l.branch l.initial.prefix l.noted
    → PrefixRows table C l.branch l.prefix l.i
