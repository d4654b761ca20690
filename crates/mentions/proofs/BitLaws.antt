-- A bit of a word: of two words joined by `or`, and of the word with one bit.
use mathlib.Core.Path.{◌≡◌, refl, sym, ◌∙◌, ap}
use mathlib.Core.Bool.{false, ◌||◌}
use mathlib.Core.Logic.{inl, inr}
use Prim.Native.Nat.{ℕ, zero, suc, ◌+◌, ◌-◌, ◌*◌, ◌/◌, ◌%◌, ◌^◌, ◌<◌, ◌≤◌}
use native.Mathlib.Nat.{one-mul, mod-lt, div-eq_of_lt, zero-div, pow-suc, mul-mod_left, zero-lt-suc}
use native.Mathlib.Omega.{arith}
use lib.Dec.{eqb, ltb}
use lib.Bits.{bit_or, or_shr, or_mod}
use lib.Pow.{pow-lt, pow-add, shl_exact, shl-shr}
use borrow.Author.Tests.{eq-eqb, ne_eqb, eqb-true, eqb-false, ltb-true, ltb-false}
use Rattle.tableau.proofs.Bools.{dec}
use Rattle.mentions.specs.Mentions.{bit_at}

-- tests that hold together are equal
same_test : (a b c d : ℕ) → (a ≡ b → c ≡ d) → (c ≡ d → a ≡ b) → eqb a b ≡ eqb c d
same_test a b c d f g = elim (dec (eqb a b)) [
  | inl p ↦ p ∙ sym (eq-eqb c d (f (eqb-true a b p)))
  | inr p ↦ p ∙ sym (ne_eqb c d (λ e. eqb-false a b p (g e)))
]

-- what holds of 0 and 1 holds of the lowest digits of two numbers
pub digits : (P : ℕ → ℕ → Type 0) → P 0 0 → P 0 1 → P 1 0 → P 1 1 → (m n : ℕ) → P (m % 2) (n % 2)
digits P a b c d m n = go (m % 2) (n % 2) (mod-lt m (zero-lt-suc 1)) (mod-lt n (zero-lt-suc 1))
  where
    go : (m n : ℕ) → m < 2 → n < 2 → P m n
    go zero zero l k = a
    go zero (suc zero) l k = b
    go (suc zero) zero l k = c
    go (suc zero) (suc zero) l k = d
    go zero (suc (suc n)) l k = absurd (omega arith)
    go (suc zero) (suc (suc n)) l k = absurd (omega arith)
    go (suc (suc m)) n l k = absurd (omega arith)

pub bit_or_lem : (x y q : ℕ) → bit_at (bit_or x y) q ≡ (bit_at x q || bit_at y q)
bit_or_lem x y q =
    ap (λ (z : ℕ). eqb (z % 2) 1) (or_shr x y q)
    ∙ ap (λ (z : ℕ). eqb z 1) (or_mod (x / 2 ^ q) (y / 2 ^ q) 1)
    ∙ digits (λ m n. eqb (bit_or m n) 1 ≡ (eqb m 1 || eqb n 1)) refl refl refl refl (x / 2 ^ q) (y / 2 ^ q)

pub bit_zero : (q : ℕ) → bit_at 0 q ≡ false
bit_zero q = ap (λ (z : ℕ). eqb (z % 2) 1) (zero-div (2 ^ q))

-- 2 ^ p over 2 ^ q is 1, is 0 or is even
over_more : (p q : ℕ) → q < p → 2 ^ p / 2 ^ q % 2 ≡ 0
over_more p q l =
    let k : ℕ = p - suc q in
    let e : p ≡ suc k + q = omega arith in
    let s : 2 ^ p ≡ 2 ^ suc k * 2 ^ q = ap (λ (n : ℕ). 2 ^ n) e ∙ pow-add 2 (suc k) q in
    ap (λ (n : ℕ). n / 2 ^ q % 2) s ∙ ap (λ (n : ℕ). n % 2) (shl-shr (2 ^ suc k) q ∙ pow-suc 2 k) ∙ mul-mod_left (2 ^ k) 2

over_same : (q : ℕ) → 2 ^ q / 2 ^ q ≡ 1
over_same q = ap (λ (n : ℕ). n / 2 ^ q) (sym (one-mul (2 ^ q))) ∙ shl-shr 1 q

bit_power : (p q : ℕ) → bit_at (2 ^ p) q ≡ eqb p q
bit_power p q = elim (dec (eqb p q)) [
  | inl e ↦ ap (λ (n : ℕ). eqb (2 ^ n / 2 ^ q % 2) 1) (eqb-true p q e) ∙ ap (λ (n : ℕ). eqb (n % 2) 1) (over_same q) ∙ sym e
  | inr e ↦ apart (eqb-false p q e) ∙ sym e
]
  where
    apart : (p ≡ q → ⊥) → bit_at (2 ^ p) q ≡ false
    apart ne = elim (dec (ltb p q)) [
      | inl l ↦ ap (λ (n : ℕ). eqb (n % 2) 1) (div-eq_of_lt (pow-lt (ltb-true p q l)))
      | inr l ↦ ap (λ (n : ℕ). eqb n 1) (over_more p q (let m : q ≤ p = ltb-false p q l in omega arith))
    ]

bit_shifted : (p q : ℕ) → p < 64 → bit_at (1 * 2 ^ p % 2 ^ 64) q ≡ eqb p q
bit_shifted p q l = ap (λ (x : ℕ). bit_at x q) (shl_exact 1 p 64 (omega arith) (omega arith) ∙ one-mul (2 ^ p)) ∙ bit_power p q

-- the word i of the bits of t alone
pub own_here : (t i q : ℕ) → t / 64 ≡ i → q < 64 → bit_at (1 * 2 ^ (t % 64) % 2 ^ 64) q ≡ eqb t (i * 64 + q)
own_here t i q e l = bit_shifted (t % 64) q (omega arith) ∙ same_test (t % 64) q t (i * 64 + q) (λ m. omega arith) (λ m. omega arith)
