use Rattle.std.proofs.Common.{arith}
use Rattle.heap_tables.proofs.ScanLaws.{place_found, place_none, difference_lem}
use Rattle.heap_tables.proofs.scans.place_of.Goals as goal
use Rattle.heap_tables.proofs.scans.place_of.Goals.{else-p-limit-via-then-p-limit+else-p-shift, else-p-limit-via-else-p-limit}

pub returns-then-p-shift : goal.returns-then-p-shift
returns-then-p-shift c =
    let a = c.args in
    place_found a.key a.base a.shift a.limit c.requires _ (omega arith) (difference_lem a.key a.base (omega arith) c.requires.low_base) c.if-p-limit.true c.if-p-shift.true

pub returns-else-p-limit : goal.returns-else-p-limit
returns-else-p-limit c =
    let a = c.args in
    place_none a.key a.base a.shift a.limit c.requires _ (omega arith) (difference_lem a.key a.base (omega arith) c.requires.low_base)
    (elim c.else-p-limit.branch [
      | else-p-limit-via-then-p-limit+else-p-shift w ↦ λ l e. w.if-p-shift.false e
      | else-p-limit-via-else-p-limit w ↦ λ l e. omega (arith, w.if-p-limit.false)
    ])
