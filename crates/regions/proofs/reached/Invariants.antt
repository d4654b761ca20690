-- The invariant: `out` is what the row gives for the members below x.
use mathlib.Core.Path.{◌≡◌}
use Rattle.regions.specs.Masks.{reached_below}
use Rattle.regions.proofs.reached.Given as goal

abbrev pub invariant-loop-x : goal.invariant-loop-x
invariant-loop-x l = l.out ≡ reached_below l.row l.members l.field l.x
