-- The invariant: those from i on are stored.
use Rattle.std.proofs.Common.{◌≡◌, ◌++◌, map, ℕ, get_or, ◌+◌, ◌-◌, ◌≤◌, take, reverse}
use Rattle.clauses.specs.Held.{codes_at}
use Rattle.tree.specs.State.{packed_one, HasRoom}
use Rattle.tree.proofs.Tree.push.Given as goal

abbrev pub invariant-loop-i : goal.invariant-loop-i
invariant-loop-i l = record {
  from : l.i-start ≤ l.i;
  stored : l.count + l.i ≡ l.kept + l.initial.i;
  waiting : take l.count l.waiting
      ≡ take l.kept l.initial.waiting ++ reverse
      (map (packed_one l.cut) (codes_at l.literals l.i (l.initial.i - l.i)));
  stack : ((k : ℕ) → HasRoom (get_or l.initial.waiting k 0)) → (k : ℕ)
      → HasRoom (get_or l.waiting k 0);
}
