-- The test of an order by rows of bits.
use Rattle.std.proofs.Common.{◌≡◌, ℕ, length, subst, zero-add, ◌⊎◌, eq-or-lt_of_le, ◌+◌, ◌-◌, ◌*◌, ◌/◌, ◌%◌, ◌^◌, ◌<◌, ◌≤◌, Bool, true, false, not, ◌&&◌, eqb, List, get_or, sym, refl, ap, ◌∙◌, inl, inr, mod-lt, arith, pow_pos, shl_exact, eq-eqb, eqb-true}
use mathlib.Core.Bool.{beq}
use Rattle.std.specs.Bool.{MatchBool}
use Rattle.std.specs.List.{AllWithin, HoldsAt, range_with_len}
use Rattle.std.proofs.lemmas.List.FromFn.{length-range_with_len, get_or-range_with_len}
use lib.Bits.{bit_and, bit_xor, and_mask}
use lib.Pow.{field, mod-mod-pow}
use Rattle.tableau.specs.Meaning.{◌and◌, Below, and_left}
use Rattle.tableau.proofs.Bools.{dec, clash, and_i}
use Rattle.evaluation.specs.Orders.{each, implies, is_transitive, is_antisymmetric, and_right, implied, each_out}
use Rattle.evaluation.proofs.Ordered.{implies_in}
use Rattle.mentions.specs.Mentions.{bit_at}
use Rattle.mentions.proofs.BitLaws.{bit_zero}
use Rattle.evaluation.proofs.Decision.{each_in}
use Rattle.regions.proofs.MaskLaws.{bool_iff, bit_and_lem, bit_xor_lem, bits_ext}
use Rattle.heap_tables.specs.Order.{is_below, keeps_order, keeps_order_from, relation, is_order_below}

each_false : (n : ℕ) (f : Below n → Bool) (x : Below n) → f x ≡ false → each n f ≡ false
each_false n f x e = elim (dec (each n f)) [ inl t ↦ clash (each_out n f t x) e | inr t ↦ t ]

-- the low bits of a number
bit_low : (n x q : ℕ) → q < n → bit_at (x % 2 ^ n) q ≡ bit_at x q
bit_low n x q l =
    let j : ℕ = n - q - 1 in
    let e : n ≡ j + 1 + q = omega arith in
    ap (λ (k : ℕ). eqb (x % 2 ^ k / 2 ^ q % 2) 1) e ∙ ap (λ (z : ℕ). eqb (z % 2) 1) (field x (j + 1) q) ∙ ap (λ (z : ℕ). eqb z 1) (mod-mod-pow (x / 2 ^ q) j 1)

-- a bit of a and not of b
outside : (a b : Bool) → not (beq a (a && b)) ≡ not (implies a b)
unfolding implies
outside true true = refl
outside true false = refl
outside false b = refl

not-false : (b : Bool) → not b ≡ false → b ≡ true
not-false true e = refl
not-false false e = sym e

pub low_mask : (n : ℕ) → n ≤ 16 → 1 * 2 ^ n % 2 ^ 64 ≡ 2 ^ n
low_mask n l = shl_exact {a = 1} 1 n 64 (omega arith) (omega arith) ∙ (let e : 1 * 2 ^ n ≡ 2 ^ n = omega arith in e)

pub low_positive : (n : ℕ) → n ≤ 16 → 1 ≤ 1 * 2 ^ n % 2 ^ 64
low_positive n l = omega (arith, low_mask n l, pow_pos n)

-- is all of the first n bits of u in v?
module _ (n u v : ℕ) where
  bit_outside : (q : ℕ) → bit_at (bit_xor u (bit_and u v)) q ≡ not (implies (bit_at u q) (bit_at v q))
  bit_outside q = bit_xor_lem u (bit_and u v) q ∙ ap (λ (b : Bool). not (beq (bit_at u q) b)) (bit_and_lem u v q) ∙ outside (bit_at u q) (bit_at v q)

  pub within_test : n ≤ 16 → eqb (bit_and (bit_xor u (bit_and u v)) (1 * 2 ^ n % 2 ^ 64 - 1)) 0 ≡ each n (λ d. implies (bit_at u d.0) (bit_at v d.0))
  within_test l =
      ap (λ (k : ℕ). eqb k 0) (ap (λ (k : ℕ). bit_and w (k - 1)) (low_mask n l) ∙ and_mask w n)
      ∙ bool_iff (eqb (w % 2 ^ n) 0) (each n (λ d. implies (bit_at u d.0) (bit_at v d.0)))
      (λ t. each_in n _ (λ d. not-false (implies (bit_at u d.0) (bit_at v d.0))
      (sym (bit_outside d.0) ∙ sym (bit_low n w d.0 d.1) ∙ ap (λ (k : ℕ). bit_at k d.0) (eqb-true (w % 2 ^ n) 0 t) ∙ bit_zero d.0)))
      (λ t. eq-eqb (w % 2 ^ n) 0 (bits_ext n (w % 2 ^ n) 0 (mod-lt w (pow_pos n)) (pow_pos n)
      (λ q m. bit_low n w q m ∙ bit_outside q ∙ ap not (each_out n (λ d. implies (bit_at u d.0) (bit_at v d.0)) t (q, m)) ∙ sym (bit_zero q))))
    where
      w : ℕ
      w = bit_xor u (bit_and u v)

module _ (under : List ℕ) (n b c : ℕ) where
  abbrev rest : Bool
  rest = implies (is_below under n c b) (eqb b c) and each n (λ d. implies (is_below under n c d.0) (is_below under n b d.0))

  pub keeps_none : (t : Bool) → t ≡ is_below under n b c → t ≡ false → true ≡ keeps_order under n b c
  unfolding keeps_order implies
  keeps_none t e s = sym (ap (λ (u : Bool). implies u rest) (sym e ∙ s))

  pub keeps_equal : (t u : Bool) → t ≡ is_below under n b c → t ≡ true → u ≡ is_below under n c b → u ≡ true → eqb b c ≡ keeps_order under n b c
  unfolding keeps_order implies ◌and◌
  keeps_equal p q e s f r = bool_iff (eqb b c) (keeps_order under n b c)
      (λ t. implies_in (is_below under n b c) rest (λ h. and_i (implies_in (is_below under n c b) (eqb b c) (λ k. t))
      (each_in n _ (λ d. implies_in (is_below under n c d.0) _ (λ k. ap (λ (x : ℕ). is_below under n x d.0) (eqb-true b c t) ∙ k)))))
      (λ t. implied (is_below under n c b) (eqb b c) (and_left _ _ (implied (is_below under n b c) rest t (sym e ∙ s))) (sym f ∙ r))

  pub keeps_within : (t u : Bool) (w : ℕ) → n ≤ 16 → t ≡ is_below under n b c → t ≡ true → u ≡ is_below under n c b → u ≡ false
      → w ≡ bit_xor (get_or under c 0) (bit_and (get_or under c 0) (get_or under b 0)) → eqb (bit_and w (1 * 2 ^ n % 2 ^ 64 - 1)) 0 ≡ keeps_order under n b c
  unfolding keeps_order implies ◌and◌
  keeps_within t u w l e s f r d =
      ap (λ (k : ℕ). eqb (bit_and k (1 * 2 ^ n % 2 ^ 64 - 1)) 0) d ∙ within_test n (get_or under c 0) (get_or under b 0) l
      ∙ sym (ap (λ (p : Bool). implies p rest) (sym e ∙ s)
      ∙ ap (λ (p : Bool). implies p (eqb b c) and each n (λ x. implies (is_below under n c x.0) (is_below under n b x.0))) (sym f ∙ r))

-- A test that holds of the classes below i
pub record HoldsBelow (test : ℕ → Bool) (i : ℕ) : Type 0 where
  pub below : (k : ℕ) → k < i → test k ≡ true

pub holds_start : (test : ℕ → Bool) → HoldsBelow test 0
holds_start test = record { below = λ k l. absurd (omega arith) }

pub holds_more : (test : ℕ → Bool) (i : ℕ) (t : Bool) → HoldsBelow test i → t ≡ test i → t ≡ true
    → HoldsBelow test (i + 1)
holds_more test i t H e s =
    record { below = λ k l. at k (eq-or-lt_of_le (let z : k ≤ i = omega arith in z)) }
  where
    at : (k : ℕ) → (k ≡ i) ⊎ (k < i) → test k ≡ true
    at k (inl z) = ap test z ∙ sym e ∙ s
    at k (inr m) = H.below k m

-- TESTS OF ALL CLASSES
abbrev pub AllPass : ℕ → (ℕ → Bool) → Bool → Type 0
AllPass n test r = MatchBool r ((k : ℕ) → k < n → test k ≡ true) ((k : ℕ) × (k < n) × (test k ≡ false))

-- of the numbers of a range
pub in_range : (n : ℕ) (test : ℕ → Bool) (r : Bool)
    → MatchBool r (AllWithin (λ k. test k ≡ true) (range_with_len 0 n) 0 (length (range_with_len 0 n))) ((k : ℕ) × (k < length (range_with_len 0 n)) × HoldsAt (λ k. test k ≡ false) (range_with_len 0 n) k)
    → AllPass n test r
in_range n test true m = λ k l. subst (λ (x : ℕ). test x ≡ true) (place k l) (m k 0 (omega arith) (rw length-range_with_len l))
  where
    place : (k : ℕ) → k < n → get_or (range_with_len 0 n) k 0 ≡ k
    place k l = get_or-range_with_len 0 n k 0 l ∙ zero-add k
in_range n test false m =
    let l : m.0 < n = rw length-range_with_len at m.1 in
    (m.0, l, subst (λ (x : ℕ). test x ≡ false) (get_or-range_with_len 0 n m.0 0 l ∙ zero-add m.0) (m.2 0))

pub from_tests : (under : List ℕ) (n b : ℕ) (r : Bool) → AllPass n (keeps_order under n b) r → r ≡ keeps_order_from under n b
unfolding keeps_order_from
from_tests under n b true m = sym (each_in n _ (λ d. m d.0 d.1))
from_tests under n b false m = sym (each_false n (λ d. keeps_order under n b d.0) (m.0, m.1) m.2)

-- by one test that fails, and by the tests of all classes
module _ (under : List ℕ) (n b : ℕ) where
  pub from_false : (c : ℕ) (t : Bool) → c < n → t ≡ keeps_order under n b c → t ≡ false
      → false ≡ keeps_order_from under n b
  from_false c t l e s = from_tests under n b false (c, l, sym e ∙ s)

  pub from_true : (c : ℕ) → HoldsBelow (keeps_order under n b) c → n ≤ c
      → true ≡ keeps_order_from under n b
  from_true c H l = from_tests under n b true (λ k m. H.below k (omega arith))

module _ (under : List ℕ) (n : ℕ) where
  pub order_true : ((b : ℕ) → b < n → keeps_order_from under n b ≡ true)
      → true ≡ is_order_below under n
  unfolding keeps_order keeps_order_from is_order_below is_transitive is_antisymmetric
  order_true H = sym (and_i
      (each_in n _ λ b. each_in n _ λ c. each_in n _ λ d. implies_in (relation under n b c) _ λ p. implies_in (relation under n c d) _ λ q.
      implied (relation under n c d) (relation under n b d) (each_out n _ (and_right (implies (relation under n c b) (eqb b.0 c.0)) _ (at b c p)) d) q)
      (each_in n _ λ b. each_in n _ λ c. implies_in (relation under n b c) _ λ p. implies_in (relation under n c b) _ λ q.
      implied (relation under n c b) (eqb b.0 c.0) (and_left _ _ (at b c p)) q))
    where
      at : (b c : Below n) → relation under n b c ≡ true
          → implies (relation under n c b) (eqb b.0 c.0) and each n (λ d. implies (relation under n c d) (relation under n b d)) ≡ true
      at b c p = implied (relation under n b c) _ (each_out n (λ d. keeps_order under n b.0 d.0) (H b.0 b.1) c) p

  pub order_false : (b : ℕ) → b < n → keeps_order_from under n b ≡ false
      → false ≡ is_order_below under n
  unfolding keeps_order keeps_order_from is_order_below is_transitive is_antisymmetric
  order_false b l e = elim (dec (is_order_below under n)) [ inl t ↦ clash (holds t) e | inr t ↦ sym t ]
    where
      x : Below n
      x = (b, l)

      holds : is_transitive (relation under n) and is_antisymmetric (relation under n) ≡ true → keeps_order_from under n b ≡ true
      holds t = each_in n _ λ c. implies_in (relation under n x c) _ λ p. and_i
          (each_anti t c p)
          (each_in n _ λ d. implied (relation under n x c) _ (each_out n _ (each_out n _ (each_out n _ (and_left _ _ t) x) c) d) p)
        where
          each_anti : is_transitive (relation under n) and is_antisymmetric (relation under n) ≡ true → (c : Below n) → relation under n x c ≡ true
              → implies (relation under n c x) (eqb b c.0) ≡ true
          each_anti t c p = implied (relation under n x c) _ (each_out n _ (each_out n _ (and_right (is_transitive (relation under n)) _ t) x) c) p

  pub order_tests : (r : Bool) → AllPass n (keeps_order_from under n) r → r ≡ is_order_below under n
  order_tests true m = order_true m
  order_tests false m = order_false m.0 m.1 m.2
