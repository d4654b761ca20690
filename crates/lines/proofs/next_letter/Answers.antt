use native.Mathlib.Omega.{arith}
use Rattle.lines.proofs.Bytes.{letter_small}
use Rattle.lines.proofs.next_letter.Goals as goal

pub overflow_mul-result : goal.overflow_mul-result
overflow_mul-result c =
    omega (
      arith,
      letter_small _ _ _ c.from.result c.requires c.if-count-lt3.true c.unit.ensures
          (rw c.from.ensures c.ranges.x.fits),
    )

pub overflow_add-result : goal.overflow_add-result
overflow_add-result c =
    omega (
      arith,
      letter_small _ _ _ c.from.result c.requires c.if-count-lt3.true c.unit.ensures
          (rw c.from.ensures c.ranges.x.fits),
    )
