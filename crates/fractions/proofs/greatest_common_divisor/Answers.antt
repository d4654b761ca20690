use mathlib.Core.Path.{◌≡◌}
use mathlib.Core.Logic.Iff
use Prim.Native.Nat.{ℕ, ◌%◌}
use native.Mathlib.Nat.{mod-lt, dvd-mod_iff, dvd-zero}
use native.Mathlib.Omega.{arith}
use Rattle.statistics.proofs.LowestTerms.{DivisorsOfBoth, common_divisor_unique}
use Rattle.fractions.proofs.greatest_common_divisor.Invariants.{SameCommonDivisors}
use Rattle.fractions.proofs.greatest_common_divisor.Goals as goal

-- a round of the loop
divisor_remainder : (m n : ℕ) → SameCommonDivisors n (m % n) m n
divisor_remainder m n d =
    (λ p. ((dvd-mod_iff d p.0).0 p.1, p.0), λ p. (p.1, (dvd-mod_iff d p.1).1 p.0))

-- the loop's end
no_divisor : (m n a b : ℕ) → n ≡ 0 → SameCommonDivisors m n a b → DivisorsOfBoth m a b
no_divisor m n a b e s d = (λ p. (s d).0 (p, rw e (dvd-zero d)), λ p. ((s d).1 p).0)

pub loop-divisor-preserved : goal.loop-divisor-preserved
loop-divisor-preserved c =
    let l = c.loop-divisor in
    λ d. Iff.trans (divisor_remainder l.dividend l.divisor d) (l.invariant d)

pub returns : goal.returns
returns c =
    let l = c.loop-divisor in
    let a = c.args in
    common_divisor_unique l.dividend a.a a.b c.requires
    (no_divisor l.dividend l.divisor a.a a.b (omega arith) l.invariant)

pub loop-divisor-init : goal.loop-divisor-init
loop-divisor-init c d = Iff.rfl

pub loop-divisor-smaller : goal.loop-divisor-smaller
loop-divisor-smaller c = mod-lt c.loop-divisor.dividend (omega arith)
