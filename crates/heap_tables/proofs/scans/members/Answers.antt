use Rattle.std.specs.Prelude.{None, Some}
use Rattle.heap_tables.proofs.ScanLaws.{members_start, members_step, members_end}
use Rattle.heap_tables.proofs.scans.members.Goals as goal
use Rattle.heap_tables.proofs.scans.members.Goals.{in-Some, in_default}

pub loop-fact-init : goal.loop-fact-init
loop-fact-init c = members_start _ _

pub loop-fact-preserved : goal.loop-fact-preserved
loop-fact-preserved c = elim c.match-place_of.branch [
  | in-Some w ↦ members_step _ _ _ _ _ _ _ c.loop-fact.invariant c.loop-fact-test.true (Some w.in-Some.x) w.in-Some.ensures w.out-is
  | in_default w ↦ members_step _ _ _ _ _ _ _ c.loop-fact.invariant c.loop-fact-test.true None w.in_default.ensures w.out-is
]

pub returns : goal.returns
returns c = members_end _ _ _ _ _ c.loop-fact.invariant c.loop-fact-test.false
