use native.Mathlib.Omega.{arith}
use Rattle.lines.proofs.Bytes.{digits_small}
use Rattle.lines.proofs.next_digit.Goals as goal

pub overflow_mul-result : goal.overflow_mul-result
overflow_mul-result c = omega (arith, digits_small)

pub overflow_add-result : goal.overflow_add-result
overflow_add-result c = omega (arith, digits_small)
