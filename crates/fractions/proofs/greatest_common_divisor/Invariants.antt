-- The loop's invariant: the dividend m and the divisor n have the common divisors of a and b. The
-- measure is the divisor: a remainder is below it.
use mathlib.Core.Logic.{◌↔◌}
use Prim.Native.Nat.{ℕ, ◌∣◌}
use Rattle.fractions.proofs.greatest_common_divisor.Given as goal

abbrev pub SameCommonDivisors : ℕ → ℕ → ℕ → ℕ → Type 0
SameCommonDivisors m n a b = (d : ℕ) → ((d ∣ m) × (d ∣ n)) ↔ ((d ∣ a) × (d ∣ b))

abbrev pub invariant-loop-divisor : goal.invariant-loop-divisor
invariant-loop-divisor l = SameCommonDivisors l.dividend l.divisor l.a l.b

abbrev pub decreases-loop-divisor : goal.decreases-loop-divisor
decreases-loop-divisor l = l.divisor
