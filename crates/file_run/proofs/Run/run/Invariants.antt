-- Every line so far passed, and arrays, tree and counts are what these lines make of them. The
-- measure is what is left of the file.
use Prim.Native.Nat.{◌-◌}
use lib.ListN.{length}
use Rattle.terms.specs.Arrays.{arrays}
use Rattle.file_run.specs.Reached.{Reached}
use Rattle.file_run.proofs.Run.run.Given as goal

abbrev pub invariant-loop-at : goal.invariant-loop-at
invariant-loop-at l =
    Reached l.file (arrays l.terms l.chains l.rows) l.clauses l.prefix l.self.tree l.progress l.at

abbrev pub decreases-loop-at : goal.decreases-loop-at
decreases-loop-at l = length l.file - l.at
