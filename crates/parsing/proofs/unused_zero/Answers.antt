use native.Mathlib.Omega.{arith}
use Rattle.lines.specs.Lines.{numbers_of}
use Rattle.parsing.proofs.Masks.{every_field}
use Rattle.parsing.proofs.unused_zero.Goals as goal

pub returns-then-zero_if_unused-3 : goal.returns-then-zero_if_unused-3
returns-then-zero_if_unused-3 c u e = rw (every_field u _ e (numbers_of c.args.f)) (grind arith)

pub returns-else-zero_if_unused-3 : goal.returns-else-zero_if_unused-3
returns-else-zero_if_unused-3 c u e = rw (every_field u _ e (numbers_of c.args.f)) (grind arith)
