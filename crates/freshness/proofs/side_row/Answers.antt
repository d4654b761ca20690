use Rattle.freshness.proofs.Laws.{side_beyond}
use Rattle.freshness.proofs.side_row.Goals as goal

pub returns-else-side-n : goal.returns-else-side-n
returns-else-side-n c = side_beyond _ _ c.if-side-n.false
