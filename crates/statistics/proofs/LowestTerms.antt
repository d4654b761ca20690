-- Lowest terms are found, and there are no others: the greatest common divisor that is looked for
-- from above is Euclid's.
use mathlib.Core.Path.{◌≡◌, sym, ap, ap₂, ◌∙◌}
use mathlib.Core.Bool.{Bool, true, false, ◌&&◌}
use mathlib.Core.Logic.{◌↔◌, ◌⊎◌, inl, inr}
use Prim.Native.Nat.{ℕ, zero, suc, ◌+◌, ◌*◌, ◌/◌, ◌%◌, ◌≤◌, ◌<◌, ◌∣◌}
use native.Mathlib.Decide.{ℕ_discrete}
use native.Mathlib.Nat.{
  mul-zero,
  zero-mul,
  one-mul,
  mul-one,
  mul-pos,
  mul-add,
  mul_comm,
  mul_assoc,
  div-one,
  div-add-mod,
  mod-lt,
  mul-div-mul_left,
  mul-div_assoc,
  mul-div_cancel',
  eq_of_mul-eq-mul_right,
  dvd_refl,
  dvd-zero,
  one-dvd,
  dvd-add_iff_right,
  dvd-mul_right_of_dvd,
  dvd_of_mod-eq-zero,
  mod-eq-zero_of_dvd,
  dvd_of_mul-dvd-mul_left,
  mul-dvd-mul_left,
  eq-one_of_dvd-one,
  le_of_dvd,
  le_antisymm,
  pos_of_dvd_of_pos,
}
use native.Mathlib.Omega.{arith}
use borrow.Author.Tests.{eqb-true, eq-eqb}
use Rattle.tableau.proofs.Bools.{dec, clash, both_true, both_i}
use Rattle.statistics.specs.Fractions.{Fraction, ◌over◌, InLowestTerms, divides, greatest_up_to}
use Rattle.statistics.specs.Fractions.{greatest_common_divisor, lowest}
use Rattle.statistics.specs.Claims.{LowestFound, LowestUnique, ZeroOverOne}

-- x has as divisors the common divisors of a and b
abbrev pub DivisorsOfBoth : ℕ → ℕ → ℕ → Type 0
DivisorsOfBoth x a b = (d : ℕ) → (d ∣ x) ↔ ((d ∣ a) × (d ∣ b))

-- EUCLID. A divisor of k b divides k times the remainder of a by b exactly if it divides k a.
remainder_divisible : (k a b d : ℕ) → d ∣ k * b → (d ∣ k * (a % b)) ↔ (d ∣ k * a)
remainder_divisible k a b d h =
    let e : k * (b * (a / b)) + k * (a % b) ≡ k * a =
    sym (mul-add k (b * (a / b)) (a % b)) ∙ ap (λ n. k * n) (div-add-mod a b) in
    let m : d ∣ k * (b * (a / b)) = rw (← mul_assoc) (dvd-mul_right_of_dvd d h (a / b)) in
    rw e at (dvd-add_iff_right d {m = k * (b * (a / b))} {n = k * (a % b)} m)

-- Any two numbers have such an x, and k x is one of k a and k b.
euclid : (fuel a b : ℕ) → b < fuel → (x : ℕ) × ((k : ℕ) → DivisorsOfBoth (k * x) (k * a) (k * b))
euclid zero a b h = absurd (omega arith)
euclid (suc fuel) a zero h = (a, λ k d. (λ p. (p, rw mul-zero (dvd-zero d)), λ p. p.0))
euclid (suc fuel) a (suc b) h =
    let r = euclid fuel (suc b) (a % suc b) (omega (arith, mod-lt a {m = suc b} (omega arith))) in (
      r.0,
      λ k d.
          let remainder = remainder_divisible k a (suc b) d in (
            λ p. let q = (r.1 k d).0 p in
                ((remainder q.0).0 q.1, q.0),
            λ p. (r.1 k d).1 (p.1, (remainder p.1).1 p.0),
          ),
    )

-- THE SEARCH finds a common divisor, and no common divisor up to n is greater.
divides_true : (d n : ℕ) → divides d n ≡ true → d ∣ n
divides_true d n e = dvd_of_mod-eq-zero d (eqb-true (n % d) 0 e)

divides_of : (d n : ℕ) → d ∣ n → divides d n ≡ true
divides_of d n h = eq-eqb (n % d) 0 (mod-eq-zero_of_dvd d h)

module _ (a b : ℕ) where
  abbrev test : ℕ → Bool
  test d = divides d a && divides d b

  passed : (n : ℕ) → test (suc n) ≡ true → greatest_up_to a b (suc n) ≡ suc n
  unfolding greatest_up_to
  passed n e = rw e

  failed : (n : ℕ) → test (suc n) ≡ false → greatest_up_to a b (suc n) ≡ greatest_up_to a b n
  unfolding greatest_up_to
  failed n e = rw e

  found_divides : (n : ℕ) → (greatest_up_to a b n ∣ a) × (greatest_up_to a b n ∣ b)
  unfolding greatest_up_to
  found_divides zero = (one-dvd a, one-dvd b)
  found_divides (suc n) = go (found_divides n) (dec (test (suc n)))
    where
      go : (greatest_up_to a b n ∣ a) × (greatest_up_to a b n ∣ b)
          → (test (suc n) ≡ true) ⊎ (test (suc n) ≡ false)
          → (greatest_up_to a b (suc n) ∣ a) × (greatest_up_to a b (suc n) ∣ b)
      go ih (inl e) =
          let t = both_true (divides (suc n) a) _ e in
          rw (passed n e) (divides_true (suc n) a t.0, divides_true (suc n) b t.1)
      go ih (inr e) = rw (failed n e) ih

  found_greatest : (n d : ℕ) → d ≤ n → d ∣ a → d ∣ b → d ≤ greatest_up_to a b n
  found_greatest zero d h p q = omega arith
  found_greatest (suc n) d h p q = go (λ l. found_greatest n d l p q) (dec (test (suc n)))
    where
      go : (d ≤ n → d ≤ greatest_up_to a b n) → (test (suc n) ≡ true) ⊎ (test (suc n) ≡ false)
          → d ≤ greatest_up_to a b (suc n)
      go ih (inl e) = rw (passed n e) h
      go ih (inr e) = elim (ℕ_discrete d (suc n)) [
        | yes s ↦ clash
            (both_i (divides_of (suc n) a (rw s at p)) (divides_of (suc n) b (rw s at q))) e
        | no s ↦ rw (failed n e) (ih (omega arith))
      ]

-- THE GREATEST COMMON DIVISOR of numbers of which the second is not 0 is the number whose divisors
-- are their common divisors.
pub common_divisor_unique : (x a b : ℕ) → 0 < b → DivisorsOfBoth x a b
    → x ≡ greatest_common_divisor a b
common_divisor_unique x a b h k =
    let p = (k x).0 (dvd_refl x) in
    le_antisymm (found_greatest a b b x (le_of_dvd h p.1) p.0 p.1)
    (le_of_dvd (pos_of_dvd_of_pos p.1 h)
    ((k (greatest_common_divisor a b)).1 (found_divides a b b)))

multiple_divisors : (k a b : ℕ) → 0 < b
    → DivisorsOfBoth (k * greatest_common_divisor a b) (k * a) (k * b)
multiple_divisors k a b h =
    let x = euclid (suc b) a b (omega arith) in
    rw (sym (common_divisor_unique x.0 a b h (simp one-mul at (x.1 1)))) (x.1 k)

common_divisors : (a b : ℕ) → 0 < b → DivisorsOfBoth (greatest_common_divisor a b) a b
common_divisors a b h = simp one-mul at (multiple_divisors 1 a b h)

-- that of the multiples of two numbers is the multiple of theirs
common_multiple : (k a b : ℕ) → 0 < k → 0 < b
    → k * greatest_common_divisor a b ≡ greatest_common_divisor (k * a) (k * b)
common_multiple k a b hk h =
    common_divisor_unique (k * greatest_common_divisor a b) (k * a) (k * b) (mul-pos hk h)
    (multiple_divisors k a b h)

pub common_positive : (a b : ℕ) → 0 < b → 0 < greatest_common_divisor a b
common_positive a b h = pos_of_dvd_of_pos (found_divides a b b).1 h

-- LOWEST TERMS. Fractions with the same ratio have the same: each multiplied by the other's
-- denominator, their numbers are the same two.
pub same_ratio_lowest : (f g : Fraction) → 0 < f.denominator → 0 < g.denominator
    → f.numerator * g.denominator ≡ g.numerator * f.denominator → lowest f ≡ lowest g
unfolding lowest
same_ratio_lowest f g hf hg e =
    let a = f.numerator in
    let b = f.denominator in
    let p = g.numerator in
    let q = g.denominator in
    let n : q * a ≡ b * p = mul_comm q a ∙ e ∙ mul_comm p b in
    let s : q * greatest_common_divisor a b ≡ b * greatest_common_divisor p q =
    common_multiple q a b hg hf ∙ ap₂ greatest_common_divisor n (mul_comm q b)
    ∙ sym (common_multiple b p q hf hg) in
    ap₂ ◌over◌ (sym (mul-div-mul_left a _ hg) ∙ ap₂ ◌/◌ n s ∙ mul-div-mul_left p _ hf)
    (sym (mul-div-mul_left b _ hg) ∙ ap₂ ◌/◌ (mul_comm q b) s ∙ mul-div-mul_left q _ hf)

-- what divides a quotient divides, times the divisor, the dividend
times_divisor : (g d n : ℕ) → g ∣ n → d ∣ n / g → g * d ∣ n
times_divisor g d n h k = rw (mul-div_cancel' g h) at (mul-dvd-mul_left d g k)

pub lowest_found : LowestFound
unfolding LowestFound lowest
lowest_found f h =
    let a = f.numerator in
    let b = f.denominator in
    let g = greatest_common_divisor a b in
    let v = found_divides a b b in
    record {
      same_ratio =
          sym (mul-div_assoc g a v.1) ∙ ap (λ n. n / g) (mul_comm a b) ∙ mul-div_assoc g b v.0
          ∙ mul_comm b (a / g);
      no_common_divisor =
          λ d p q.
          let m : g * d ∣ g =
          (common_divisors a b h (g * d)).1
          (times_divisor g d a v.0 p, times_divisor g d b v.1 q) in
          eq-one_of_dvd-one
          (dvd_of_mul-dvd-mul_left {k = g} d (common_positive a b h) (rw mul-one m));
    }

-- numbers with no common divisor but 1 are left as they are
lowest_already : (f g : Fraction) → InLowestTerms f g → lowest g ≡ g
unfolding lowest
lowest_already f g l =
    let v = found_divides g.numerator g.denominator g.denominator in
    let e = l.no_common_divisor (greatest_common_divisor g.numerator g.denominator) v.0 v.1 in
    ap₂ ◌over◌ (ap (λ n. g.numerator / n) e ∙ div-one g.numerator)
    (ap (λ n. g.denominator / n) e ∙ div-one g.denominator)

zero_factor : (a b : ℕ) → 0 < b → a * b ≡ 0 → a ≡ 0
zero_factor a b h e = eq_of_mul-eq-mul_right b h a 0 (e ∙ sym (zero-mul b))

-- a denominator of 0 would have a numerator of 0 with it, and 0 as a common divisor
lowest_denominator : (f g : Fraction) → 0 < f.denominator → InLowestTerms f g → 0 < g.denominator
lowest_denominator f g h l = elim (ℕ_discrete g.denominator 0) [
  | yes z ↦
      let n =
      zero_factor g.numerator f.denominator h
      (sym l.same_ratio ∙ ap (λ d. f.numerator * d) z ∙ mul-zero f.numerator) in
      absurd (omega (arith, l.no_common_divisor 0 (rw n (dvd-zero 0)) (rw z (dvd-zero 0))))
  | no n ↦ omega arith
]

pub lowest_unique : LowestUnique
unfolding LowestUnique
lowest_unique f g h l =
    sym (same_ratio_lowest f g h (lowest_denominator f g h l) l.same_ratio ∙ lowest_already f g l)

pub zero_over_one : ZeroOverOne
unfolding ZeroOverOne
zero_over_one f g e h l =
    let n =
    zero_factor g.numerator f.denominator h
    (sym l.same_ratio ∙ ap (λ d. d * g.denominator) e ∙ zero-mul g.denominator) in
    ap₂ ◌over◌ n (l.no_common_divisor g.denominator (rw n (dvd-zero g.denominator))
    (dvd_refl g.denominator))
