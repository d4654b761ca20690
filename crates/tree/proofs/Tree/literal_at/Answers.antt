use Prim.Native.Nat.{◌≤◌}
use lib.ListN.{length}
use native.Mathlib.Omega.{arith}
use Rattle.tree.proofs.Branch.{from_check, at_place}
use Rattle.tree.proofs.Tree.literal_at.Goals as goal
use Rattle.tree.proofs.Tree.literal_at.Goals.{Start}

on : (c : goal.Start) → (1 ≤ c.args.place.0) × (c.args.place.0 ≤ length c.args.branch.now)
on c = from_check (length c.args.branch.now) c.args.place.0 c.requires.1

pub overflow_sub-result : goal.overflow_sub-result
overflow_sub-result c = omega (arith, on (goal.at.overflow_sub-result c).Start)

pub offset_bounds-branch-place : goal.offset_bounds-branch-place
offset_bounds-branch-place c =
    omega (arith, on (goal.at.offset_bounds-branch-place c).Start, c.requires.0.room)

pub bounds-branch-place : goal.bounds-branch-place
bounds-branch-place c = omega (arith, on (goal.at.bounds-branch-place c).Start)

pub returns : goal.returns
returns c =
    record {
      bounded = c.requires.0.bounded _;
      literal = λ f. at_place f _ _ (on (goal.at.returns c).Start);
    }
