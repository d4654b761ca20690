-- The entries before the index are renamed, and the others as they were.
use Rattle.std.proofs.Common.{◌≡◌, ℕ, ◌<◌, ◌≤◌, length, get_or}
use Rattle.partition.specs.Array.{renamed_as}
use Rattle.partition.proofs.merge.Given as goal

abbrev pub invariant-loop-x : goal.invariant-loop-x
invariant-loop-x l = record {
  size : length l.blocks ≡ length l.initial.blocks;
  done : (k : ℕ) → k < l.x-index
      → get_or l.blocks k 0 ≡ renamed_as (get_or l.initial.blocks k 0) l.from l.to;
  left : (k : ℕ) → l.x-index ≤ k → get_or l.blocks k 0 ≡ get_or l.initial.blocks k 0;
}
