-- Fractions over the natural numbers, "exact and in lowest terms".
use Rattle.std.specs.Prelude.{◌≡◌, Bool, ◌&&◌, cond, ℕ, zero, suc, ◌*◌, ◌/◌, ◌%◌, eqb}
use Rattle.std.specs.Int.{◌∣◌}

pub record Fraction : Type 0 where
  pub numerator : ℕ
  pub denominator : ℕ

infix 5 ◌over◌
abbrev pub ◌over◌ : ℕ → ℕ → Fraction
a over b = record { numerator = a; denominator = b }

-- LOWEST TERMS: a fraction with the same ratio, whose two numbers have no common divisor but 1.
pub record InLowestTerms (f g : Fraction) : Type 0 where
  pub same_ratio : f.numerator * g.denominator ≡ g.numerator * f.denominator
  pub no_common_divisor : (d : ℕ) → d ∣ g.numerator → d ∣ g.denominator → d ≡ 1

-- HOW IT IS FOUND: both numbers divided by the greatest number that divides both. The greatest of
-- the numbers up to n that does is looked for from n down.
abbrev pub divides : ℕ → ℕ → Bool
divides d n = eqb (n % d) 0

unfoldable pub greatest_up_to : ℕ → ℕ → ℕ → ℕ
greatest_up_to a b zero = 1
greatest_up_to a b (suc d) =
    cond (divides (suc d) a && divides (suc d) b) (suc d) (greatest_up_to a b d)

-- of numbers of which the second is not 0
abbrev pub greatest_common_divisor : ℕ → ℕ → ℕ
greatest_common_divisor a b = greatest_up_to a b b

unfoldable pub lowest : Fraction → Fraction
lowest f =
    (f.numerator / greatest_common_divisor f.numerator f.denominator) over
    (f.denominator / greatest_common_divisor f.numerator f.denominator)
