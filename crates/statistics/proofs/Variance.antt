-- The variance by the sum and the sum of squares, and what is printed of it.
use mathlib.Core.Path.{◌≡◌, refl}
use mathlib.Core.List.{List, [], ◌∷◌, map}
use Prim.Native.Nat.{ℕ, zero, suc, ◌+◌, ◌*◌, ◌-◌, ◌≤◌, ◌<◌}
use native.Mathlib.Decide.{dec_le}
use native.Mathlib.Nat.{add-mul, mul-add, mul_assoc, mul_comm, mul_right_comm, mul-mul-mul_comm}
use native.Mathlib.Nat.{suc-mul, mul-zero, zero-mul, mul-pos, le_of_mul-le-mul_left, mul-sub}
use native.Mathlib.Omega.{arith}
use lib.ListN.{length}
use Rattle.statistics.specs.Fractions.{Fraction, ◌over◌, lowest}
use Rattle.statistics.specs.Figures.{step_counts, sum, mean, distance, square, squared_distance}
use Rattle.statistics.specs.Figures.{variance, printed, figures}
use Rattle.statistics.specs.Claims.{LowestFound, FiguresExact}
use Rattle.statistics.proofs.LowestTerms.{lowest_found, same_ratio_lowest}

-- the square of a sum
binomial : (a k : ℕ) → (a + k) * (a + k) ≡ a * a + 2 * (a * k) + k * k
binomial a k = rw (add-mul, mul-add a a k, mul-add k a k, mul_comm k a) (omega arith)

-- the square of a distance, with no difference in it
distance_square : (a b : ℕ) → distance a b * distance a b + 2 * (a * b) ≡ a * a + b * b
distance_square a b = elim (dec_le a b) [
  | yes h ↦ below (b - a) (omega arith)
  | no h ↦ above (a - b) (omega arith)
]
  where
    below : (k : ℕ) → b ≡ a + k → distance a b * distance a b + 2 * (a * b) ≡ a * a + b * b
    below k e =
        let d : distance a b ≡ k = omega (arith, e) in
        rw (d, e, binomial a k, mul-add a a k) (omega arith)

    above : (k : ℕ) → a ≡ b + k → distance a b * distance a b + 2 * (a * b) ≡ a * a + b * b
    above k e =
        let d : distance a b ≡ k = omega (arith, e) in
        rw (d, e, binomial b k, add-mul b k b, mul_comm k b) (omega arith)

-- THE SQUARED DISTANCES of n y from s, for some numbers y
distances : (n s : ℕ) (ys : List ℕ)
    → sum (map (squared_distance n s) ys) + 2 * (n * s) * sum ys
    ≡ n * n * sum (map square ys) + length ys * (s * s)
unfolding sum
distances n s [] = rw (mul-zero, mul-zero, zero-mul)
distances n s (y ∷ ys) =
    let e₁ = distance_square (n * y) s in
    let e₂ = distances n s ys in
    let e₃ : 2 * (n * s) * (y + sum ys) ≡ 2 * (n * y * s) + 2 * (n * s) * sum ys =
    rw (mul-add, mul_assoc 2 (n * s) y, mul_right_comm n s y) in
    let e₄ : n * n * (y * y + sum (map square ys)) ≡ n * y * (n * y) + n * n * sum (map square ys) =
    rw (mul-add, mul-mul-mul_comm n n y y) in
    let e₅ : suc (length ys) * (s * s) ≡ length ys * (s * s) + s * s =
    suc-mul (length ys) (s * s) in
    omega (arith, e₁, e₂, e₃, e₄, e₅)

-- of all numbers from their mean: n numbers with the sum s and the sum of squares q have the
-- squared distances n (n q - s s) in all
module _ (xs : List ℕ) where
  abbrev n : ℕ
  n = length xs

  abbrev s : ℕ
  s = sum xs

  abbrev q : ℕ
  q = sum (map square xs)

  all_distances : sum (map (squared_distance n s) xs) + n * (s * s) ≡ n * (n * q)
  all_distances =
      let e₁ = distances n s xs in
      let e₂ : 2 * (n * s) * s ≡ 2 * (n * (s * s)) = rw (mul_assoc 2 (n * s) s, mul_assoc n s s) in
      let e₃ : n * n * q ≡ n * (n * q) = mul_assoc n n q in
      omega (arith, e₁, e₂, e₃)

  pub squares_below : 0 < n → s * s ≤ n * q
  squares_below h =
      let k : n * (s * s) ≤ n * (n * q) = omega (arith, all_distances) in le_of_mul-le-mul_left k h

  variance_ratio : 0 < n
      → (n * q - s * s) * (n * n * n) ≡ sum (map (squared_distance n s) xs) * (n * n)
  variance_ratio h =
      let d : sum (map (squared_distance n s) xs) ≡ n * (n * q - s * s) =
      rw (mul-sub n (n * q) (s * s)) (omega (arith, all_distances)) in
      rw (d, mul_comm (n * n) n, ← mul_assoc (n * q - s * s) n (n * n), mul_comm (n * q - s * s) n)

  -- so the variance in lowest terms can be found from n, s and q
  pub variance_lowest : 0 < n → lowest ((n * q - s * s) over n * n) ≡ lowest (variance xs)
  unfolding variance
  variance_lowest h =
      same_ratio_lowest _ _ (mul-pos h h) (mul-pos (mul-pos h h) h) (variance_ratio h)

-- WHAT IS PRINTED where a file is accepted
pub printed_lowest : (n : ℕ) (f : Fraction) → 0 < n → printed n f ≡ lowest f
printed_lowest zero f h = absurd (omega arith)
printed_lowest (suc n) f h = refl

pub figures_exact : FiguresExact
unfolding FiguresExact LowestFound figures mean variance
figures_exact rs h =
    let n = length (step_counts rs) in (
      rw (printed_lowest n (mean (step_counts rs)) h) (lowest_found _ h),
      rw
          (printed_lowest n (variance (step_counts rs)) h) (lowest_found _ (mul-pos (mul-pos h h) h)),
    )
