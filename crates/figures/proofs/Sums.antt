-- The totals with one reply more, their bounds, and the fractions from them.
use mathlib.Core.Bool.{Bool, true, false, cond}
use mathlib.Core.List.{List, [], ◌∷◌, ◌++◌, map, map-append, append-nil}
use mathlib.Core.Path.{◌≡◌, refl, sym, ap, ◌∙◌}
use Prim.Native.Nat.{ℕ, ◌+◌, ◌*◌, ◌-◌, ◌^◌, ◌≤◌, ◌<◌}
use native.Mathlib.Nat.{mul-le-mul, le_trans}
use native.Mathlib.Omega.{arith}
use lib.ListN.{length, length-append}
use Rattle.tableau.specs.Reply.{Reply, decimal, comma_numbers}
use Rattle.statistics.specs.Fractions.{Fraction, ◌over◌, lowest}
use Rattle.statistics.specs.Figures.{step_counts, square, sum, mean, variance, printed, figures}
use Rattle.statistics.specs.Figures.{figure_numbers}
use Rattle.statistics.proofs.Variance.{printed_lowest, squares_below, variance_lowest}
use Rattle.figures.specs.Totals.{most_replies, most_steps, TotalsOf, Small}

-- ONE REPLY MORE, at the end of the list
sum_more : (xs : List ℕ) (x : ℕ) → sum (xs ++ (x ∷ [])) ≡ sum xs + x
unfolding sum
sum_more [] x = omega arith
sum_more (y ∷ xs) x = let e = sum_more xs x in omega (arith, e)

steps_more : (rs : List Reply) (r : Reply)
    → step_counts (rs ++ (r ∷ [])) ≡ step_counts rs ++ cond r.is_yes (r.steps ∷ []) []
unfolding step_counts
steps_more [] r = which r.is_yes
  where
    which : (b : Bool) → cond b (r.steps ∷ []) [] ≡ [] ++ cond b (r.steps ∷ []) []
    which true = refl
    which false = refl
steps_more (q ∷ rs) r = which q.is_yes (steps_more rs r)
  where
    which : (b : Bool)
        → step_counts (rs ++ (r ∷ [])) ≡ step_counts rs ++ cond r.is_yes (r.steps ∷ []) []
        → cond b (q.steps ∷ step_counts (rs ++ (r ∷ []))) (step_counts (rs ++ (r ∷ [])))
        ≡ cond b (q.steps ∷ step_counts rs) (step_counts rs) ++ cond r.is_yes (r.steps ∷ []) []
    which true e = ap (λ xs. q.steps ∷ xs) e
    which false e = e

module _ (rs : List Reply) (f a s q : ℕ) (r : Reply) (h : TotalsOf rs f a s q) where
  pub totals_yes : r.is_yes ≡ true
      → TotalsOf (rs ++ (r ∷ [])) (f + 1) (a + 1) (s + r.steps) (q + square r.steps)
  totals_yes e =
      let k : step_counts (rs ++ (r ∷ [])) ≡ step_counts rs ++ (r.steps ∷ []) =
      steps_more rs r ∙ rw e in
      record {
        files = rw h.files (sym (length-append rs (r ∷ [])));
        accepted = rw (k, h.accepted) (sym (length-append (step_counts rs) (r.steps ∷ [])));
        sum = rw (k, h.sum) (sym (sum_more (step_counts rs) r.steps));
        squares =
            rw (k, h.squares, map-append square (step_counts rs) (r.steps ∷ []))
            (sym (sum_more (map square (step_counts rs)) (square r.steps)));
      }

  pub totals_no : r.is_yes ≡ false → TotalsOf (rs ++ (r ∷ [])) (f + 1) a s q
  totals_no e =
      let k : step_counts (rs ++ (r ∷ [])) ≡ step_counts rs =
      steps_more rs r ∙ rw (e, append-nil) in
      record {
        files = rw h.files (sym (length-append rs (r ∷ [])));
        accepted = rw k h.accepted;
        sum = rw k h.sum;
        squares = rw k h.squares;
      }

-- BOUNDS
pub square_small : (x : ℕ) → x < most_steps + 1 → square x ≤ square most_steps
square_small x h = let k : x ≤ most_steps = omega arith in mul-le-mul k k

module _ (f a s q : ℕ) (h : Small f a s q) where
  pub small_yes : f < most_replies → (x : ℕ) → x < most_steps + 1
      → Small (f + 1) (a + 1) (s + x) (q + square x)
  small_yes l x k = record {
    files = omega (arith, l);
    accepted = omega (arith, h.accepted);
    sum = omega (arith, h.sum, k);
    squares = omega (arith, h.squares, square_small x k);
  }

  pub small_no : f < most_replies → Small (f + 1) a s q
  small_no l = record {
    files = omega (arith, l);
    accepted = omega (arith, h.accepted);
    sum = h.sum;
    squares = h.squares;
  }

  few : a ≤ most_replies
  few = le_trans h.accepted h.files

  -- 64 bits hold the products
  pub squares_fit : a * q < 2 ^ 64
  squares_fit =
      let k : q ≤ square most_steps * most_replies = omega (arith, h.squares, few) in
      let p = mul-le-mul few k in omega (arith, p)

  pub sum_fits : s * s < 2 ^ 64
  sum_fits =
      let k : s ≤ most_steps * most_replies = omega (arith, h.sum, few) in
      let p = mul-le-mul k k in omega (arith, p)

  pub count_fits : a * a < 2 ^ 64
  count_fits = let p = mul-le-mul few few in omega (arith, p)

-- THE MEAN of the numbers with a count and a sum
module _ (ns : List ℕ) (a s : ℕ) (h : a ≡ length ns) (k : s ≡ sum ns) where
  pub mean_lowest : (a ≡ 0 → ⊥) → lowest (s over a) ≡ printed (length ns) (mean ns)
  unfolding mean
  mean_lowest z = rw (printed_lowest (length ns) (mean ns) (omega (arith, h, z)), k, h)

-- THE FRACTIONS of the replies that are totalled
module _ (rs : List Reply) (f a s q : ℕ) (h : TotalsOf rs f a s q) where
  pub none_accepted : a ≡ 0 → (x : Fraction) → 0 over 0 ≡ printed (length (step_counts rs)) x
  none_accepted e x = let z : length (step_counts rs) ≡ 0 = sym h.accepted ∙ e in rw z

  some_accepted : (a ≡ 0 → ⊥) → 0 < length (step_counts rs)
  some_accepted z = omega (arith, h.accepted, z)

  pub sum_squared : (a ≡ 0 → ⊥) → s * s ≤ a * q
  sum_squared z =
      rw (h.sum, h.accepted, h.squares) (squares_below (step_counts rs) (some_accepted z))

  pub variance_from : (a ≡ 0 → ⊥)
      → lowest (a * q - s * s over a * a)
      ≡ printed (length (step_counts rs)) (variance (step_counts rs))
  variance_from z =
      rw (
        printed_lowest (length (step_counts rs)) (variance (step_counts rs))
            (some_accepted z),
        h.sum,
        h.accepted,
        h.squares,
      ) (variance_lowest (step_counts rs)
      (some_accepted z))

  pub figure_numbers_lem : (m v : Fraction)
      → m ≡ printed (length (step_counts rs)) (mean (step_counts rs))
      → v ≡ printed (length (step_counts rs)) (variance (step_counts rs))
      → decimal f
      ++ comma_numbers (a ∷ m.numerator ∷ m.denominator ∷ v.numerator ∷ v.denominator ∷ [])
      ≡ decimal (figures rs).files ++ comma_numbers (figure_numbers (figures rs))
  unfolding figures
  figure_numbers_lem m v e k = rw (h.files, h.accepted, e, k)
