-- Each arm knows the term.
use Rattle.mentions.proofs.note.Goals as goal
use Rattle.mentions.proofs.note.Goals.{in-Variable, in-Apply}

pub returns : goal.returns
returns c = elim c.match-term.branch [
  | in-Variable w ↦ rw w.in-Variable.is (c.set_own.ensures _ _ (rw w.rows-is w.clear.ensures))
  | in-Apply w ↦ rw w.in-Apply.is (c.set_own.ensures _ _ (rw w.rows-is w.join.ensures))
]
