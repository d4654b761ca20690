-- Laws of regions as numbers of 64 bits.
use mathlib.Core.Path.{◌≡◌, refl, sym, ◌∙◌, ap}
use mathlib.Core.Bool.{Bool, true, false, ◌&&◌, ◌||◌, not, or-true, beq, true≢false, false≢true}
use mathlib.Core.List.{List}
use mathlib.Core.Logic.{◌⊎◌, inl, inr}
use Prim.Native.Nat.{ℕ, zero, suc, ◌+◌, ◌*◌, ◌/◌, ◌%◌, ◌^◌, ◌<◌, ◌≤◌}
use native.Mathlib.Nat.{div-eq_of_lt, div-one, lt_of_lt_of_le, pow-suc, eq-or-lt_of_le, le_of_suc-le-suc, lt-suc_self}
use native.Mathlib.Numerals.{add-one}
use native.Mathlib.Omega.{arith}
use lib.Pow.{pow_mono, shr-shr}
use lib.Dec.{eqb}
use lib.Bits.{bit_and, bit_or, bit_xor, and_shr, and_mod, xor_shr, xor_mod, or_zero_l}
use Rattle.std.proofs.lemmas.Nat.{or_comm}
use borrow.Author.Tests.{eqb-true, eq-eqb}
use Rattle.tableau.proofs.Bools.{both_true, both_i, one_true}
use Rattle.mentions.specs.Mentions.{bit_at}
use Rattle.mentions.proofs.BitLaws.{digits, own_here, bit_or_lem, bit_zero}
use Rattle.regions.specs.Masks.{entry, one_bit, single_if, reached_below}

pub bool_iff : (a b : Bool) → (a ≡ true → b ≡ true) → (b ≡ true → a ≡ true) → a ≡ b
bool_iff true true f g = refl
bool_iff true false f g = sym (f refl)
bool_iff false true f g = g refl
bool_iff false false f g = refl

-- BITS of numbers joined
pub bit_and_lem : (x y q : ℕ) → bit_at (bit_and x y) q ≡ (bit_at x q && bit_at y q)
bit_and_lem x y q =
    ap (λ (z : ℕ). eqb (z % 2) 1) (and_shr x y q) ∙ ap (λ (z : ℕ). eqb z 1) (and_mod (x / 2 ^ q) (y / 2 ^ q) 1)
    ∙ digits (λ m n. eqb (bit_and m n) 1 ≡ (eqb m 1 && eqb n 1)) refl refl refl refl (x / 2 ^ q) (y / 2 ^ q)

pub bit_xor_lem : (x y q : ℕ) → bit_at (bit_xor x y) q ≡ not (beq (bit_at x q) (bit_at y q))
bit_xor_lem x y q =
    ap (λ (z : ℕ). eqb (z % 2) 1) (xor_shr x y q) ∙ ap (λ (z : ℕ). eqb z 1) (xor_mod (x / 2 ^ q) (y / 2 ^ q) 1)
    ∙ digits (λ m n. eqb (bit_xor m n) 1 ≡ not (beq (eqb m 1) (eqb n 1))) refl refl refl refl (x / 2 ^ q) (y / 2 ^ q)

-- bits past the size of a number are 0
pub bit_past : (k m q : ℕ) → m < 2 ^ k → k ≤ q → bit_at m q ≡ false
bit_past k m q s l = ap (λ (z : ℕ). eqb (z % 2) 1) (div-eq_of_lt (lt_of_lt_of_le s (pow_mono l)))

pub bit_one : (x q : ℕ) → q < 64 → bit_at (one_bit x) q ≡ eqb (x % 64) q
bit_one x q l =
    let e : x % 64 % 64 ≡ x % 64 = omega arith in
    ap (λ (n : ℕ). bit_at (1 * 2 ^ n % 2 ^ 64) q) (sym e) ∙ own_here (x % 64) 0 q (omega arith) l
    ∙ ap (λ (n : ℕ). eqb (x % 64) n) (let z : 0 * 64 + q ≡ q = omega arith in z)

-- numbers with the same bits are equal
bit_half : (m q : ℕ) → bit_at (m / 2) q ≡ bit_at m (suc q)
bit_half m q = ap (λ (z : ℕ). eqb (z % 2) 1) (shr-shr m 1 q ∙ ap (λ (n : ℕ). m / 2 ^ n) (let e : 1 + q ≡ suc q = omega arith in e))

bit_lowest : (m : ℕ) → bit_at m 0 ≡ eqb (m % 2) 1
bit_lowest m = ap (λ (z : ℕ). eqb (z % 2) 1) (div-one m)

pub bits_ext : (k m n : ℕ) → m < 2 ^ k → n < 2 ^ k → ((q : ℕ) → q < k → bit_at m q ≡ bit_at n q) → m ≡ n
bits_ext zero m n a b h = omega arith
bits_ext (suc k) m n a b h =
    let s = pow-suc 2 k in
    let low : m % 2 ≡ n % 2 = digits (λ m n. eqb m 1 ≡ eqb n 1 → m ≡ n) (λ e. refl) (λ e. absurd (false≢true e)) (λ e. absurd (true≢false e)) (λ e. refl) m n
    (sym (bit_lowest m) ∙ h 0 (omega arith) ∙ bit_lowest n) in
    let high : m / 2 ≡ n / 2 = bits_ext k (m / 2) (n / 2) (omega (arith, s)) (omega (arith, s))
    (λ q l. bit_half m q ∙ h (suc q) (omega arith) ∙ sym (bit_half n q)) in
    omega arith

-- WHAT A ROW GIVES for the field of members: one reference more
module _ (row : List ℕ) (members f : ℕ) where
  pub reach_member : (x out : ℕ) → bit_at members x ≡ true → out ≡ reached_below row members f x
      → bit_or out (one_bit (entry row x f)) ≡ reached_below row members f (x + 1)
  unfolding reached_below
  reach_member x out is e = or_comm out (one_bit (entry row x f)) ∙ (λ j. bit_or (single_if (sym is j) (entry row x f)) (e j)) ∙ ap (reached_below row members f) (sym (add-one x))

  pub reach_other : (x out : ℕ) → bit_at members x ≡ false → out ≡ reached_below row members f x → out ≡ reached_below row members f (x + 1)
  unfolding reached_below
  reach_other x out is e = sym (or_zero_l out) ∙ (λ j. bit_or (single_if (sym is j) (entry row x f)) (e j)) ∙ ap (reached_below row members f) (sym (add-one x))

  bit_if : (test : Bool) (v q : ℕ) → q < 64 → bit_at (single_if test v) q ≡ (test && eqb (v % 64) q)
  bit_if true v q l = bit_one v q l
  bit_if false v q l = bit_zero q

  bit_reached : (n q : ℕ) → q < 64 → bit_at (reached_below row members f (suc n)) q ≡ (bit_at members n && eqb (entry row n f % 64) q || bit_at (reached_below row members f n) q)
  unfolding reached_below
  bit_reached n q l =
      bit_or_lem (single_if (bit_at members n) (entry row n f)) (reached_below row members f n) q
      ∙ ap (λ (b : Bool). b || bit_at (reached_below row members f n) q) (bit_if (bit_at members n) (entry row n f) q l)

  -- a bit of it is a member's, and each member's is one
  pub reached_out : (n q : ℕ) → q < 64 → bit_at (reached_below row members f n) q ≡ true
      → (k : ℕ) × (k < n) × (bit_at members k ≡ true) × (entry row k f % 64 ≡ q)
  unfolding reached_below
  reached_out zero q l e = absurd (false≢true (sym (bit_zero q) ∙ e))
  reached_out (suc n) q l e = go (reached_out n q l) (one_true _ _ (sym (bit_reached n q l) ∙ e))
    where
      go : (bit_at (reached_below row members f n) q ≡ true → (k : ℕ) × (k < n) × (bit_at members k ≡ true) × (entry row k f % 64 ≡ q))
          → (bit_at members n && eqb (entry row n f % 64) q ≡ true) ⊎ (bit_at (reached_below row members f n) q ≡ true)
          → (k : ℕ) × (k < suc n) × (bit_at members k ≡ true) × (entry row k f % 64 ≡ q)
      go ih (inl b) = let d = both_true _ _ b in (n, lt-suc_self n, d.0, eqb-true _ _ d.1)
      go ih (inr b) = let d = ih b in (d.0, (let m : d.0 < suc n = omega (arith, d.1) in m), d.2, d.3)

  pub reached_in : (n k q : ℕ) → k < n → q < 64 → bit_at members k ≡ true → entry row k f % 64 ≡ q → bit_at (reached_below row members f n) q ≡ true
  unfolding reached_below
  reached_in zero k q m l b e = absurd (omega arith)
  reached_in (suc n) k q m l b e = bit_reached n q l ∙ go (reached_in n k q) (eq-or-lt_of_le (le_of_suc-le-suc m))
    where
      go : (k < n → q < 64 → bit_at members k ≡ true → entry row k f % 64 ≡ q → bit_at (reached_below row members f n) q ≡ true) → (k ≡ n) ⊎ (k < n)
          → (bit_at members n && eqb (entry row n f % 64) q || bit_at (reached_below row members f n) q) ≡ true
      go ih (inl p) = ap (λ (x : Bool). x || bit_at (reached_below row members f n) q)
          (both_i (ap (bit_at members) (sym p) ∙ b) (eq-eqb _ _ (ap (λ (x : ℕ). entry row x f % 64) (sym p) ∙ e)))
      go ih (inr o) = ap (λ (x : Bool). bit_at members n && eqb (entry row n f % 64) q || x) (ih o l b e) ∙ or-true (bit_at members n && eqb (entry row n f % 64) q)
