-- Sets of numbers below n, counted. Where a map takes A onto B, B has at most as many members as A; and a set with at most as many members as a part of it is that part.
use mathlib.Core.Path.{◌≡◌, refl, sym, ◌∙◌, ap, subst}
use mathlib.Core.Bool.{Bool, true, false, not, cond}
use mathlib.Core.Logic.{◌⊎◌, inl, inr}
use Prim.Native.Nat.{ℕ, zero, suc, ◌+◌, ◌<◌, ◌≤◌}
use native.Mathlib.Nat.{not-suc-le-zero}
use native.Mathlib.Fin
use native.Mathlib.Omega.{arith}
use borrow.Author.Tests.{ne_eqb, not-true}
use Rattle.tableau.specs.Meaning.{◌and◌, Below, same, widen}
use Rattle.tableau.proofs.Bools.{and_l, and_r, and_i, and_true_r, and_false_r, dec, clash, eqb_same}
use Rattle.tableau.proofs.Numbers.{same_refl, last, last_or}

-- how many members a set has
abbrev one : Bool → ℕ
one b = cond b 1 0

unfoldable pub count : (n : ℕ) → (Below n → Bool) → ℕ
count zero A = 0
count (suc n) A = one (A (last n)) + count n (λ x. A (widen x))

-- the set without y
abbrev without : {n : ℕ} → Below n → (Below n → Bool) → Below n → Bool
without y A x = A x and not (same x y)

below_not : (i n : ℕ) → i < n → i ≡ n → ⊥
below_not i n h e = omega arith

-- a set counts y, if y is a member, and what is left without y
abbrev Counts : (n : ℕ) → (Below n → Bool) → Below n → Type 0
Counts n A y = count n A ≡ one (A y) + count n (without y A)

without_counts : (n : ℕ) (A : Below n → Bool) (y : Below n) → Counts n A y
unfolding count
without_counts zero A y = absurd (not-suc-le-zero y.1)
without_counts (suc n) A y = go (without_counts n (λ x. A (widen x))) (last_or n y)
  where
    at_last : Counts (suc n) A (last n)
    at_last =
        let gone : one (without (last n) A (last n)) ≡ 0 = ap one (and_false_r (A (last n)) _ (ap not (eqb_same n))) in
        let kept : count n (λ x. without (last n) A (widen x)) ≡ count n (λ x. A (widen x))
        = ap (count n) (λ i x. and_true_r (A (widen x)) _ (ap not (ne_eqb x.0 n (below_not x.0 n x.1))) i) in
        omega (arith, gone, kept)

    before_last : (z : Below n) → Counts n (λ x. A (widen x)) z → Counts (suc n) A (widen z)
    before_last z ih =
        let kept : one (without (widen z) A (last n)) ≡ one (A (last n))
        = ap one (and_true_r (A (last n)) _ (ap not (ne_eqb n z.0 (λ e. below_not z.0 n z.1 (sym e))))) in
        omega (arith, kept, ih)

    go : ((z : Below n) → Counts n (λ x. A (widen x)) z) → (last n ≡ y) ⊎ ((z : Below n) × (widen z ≡ y)) → Counts (suc n) A y
    go ih (inl p) = subst (Counts (suc n) A) p at_last
    go ih (inr z) = subst (Counts (suc n) A) z.1 (before_last z.0 (ih z.0))

-- a set without members counts nothing
empty_counts : (n : ℕ) (A : Below n → Bool) → ((x : Below n) → A x ≡ true → ⊥) → count n A ≡ 0
unfolding count
empty_counts zero A h = refl
empty_counts (suc n) A h = go (dec (A (last n))) (empty_counts n (λ x. A (widen x)) (λ x. h (widen x)))
  where
    go : (A (last n) ≡ true) ⊎ (A (last n) ≡ false) → count n (λ x. A (widen x)) ≡ 0 → count (suc n) A ≡ 0
    go (inl p) e = absurd (h (last n) p)
    go (inr p) e = let l = ap one p in omega (arith, l, e)

-- A MAP FROM ONE FINITE SET ONTO ANOTHER: every member of B is what f gives for a member of A. For others f may give what is not in B.
abbrev pub Onto : {n m : ℕ} → (Below n → Below m) → (Below n → Bool) → (Below m → Bool) → Type 0
Onto {n} {m} f A B = (y : Below m) → B y ≡ true → (x : Below n) × (A x ≡ true) × (f x ≡ y)

one_most : (b : Bool) → one b ≤ 1
one_most true = omega arith
one_most false = omega arith

-- Then B has at most as many members as A.
pub onto_no_more : (n : ℕ) {m : ℕ} (f : Below n → Below m) (A : Below n → Bool) (B : Below m → Bool) → Onto f A B → count m B ≤ count n A
unfolding count
onto_no_more zero {m} f A B h = let e = empty_counts m B (λ y p. not-suc-le-zero (h y p).0.1) in omega (arith, e)
onto_no_more (suc n) {m} f A B h = go (onto_no_more n (λ x. f (widen x)) (λ x. A (widen x))) (dec (A (last n)))
  where
    -- a part of B that has no need of the last number
    rest : (C : Below m → Bool) → ((y : Below m) → C y ≡ true → (B y ≡ true) × (A (last n) ≡ true → f (last n) ≡ y → ⊥))
        → Onto (λ x. f (widen x)) (λ x. A (widen x)) C
    rest C s y p =
        let b = s y p in
        let x = h y b.0 in
        elim (last_or n x.0) [
          | inl q ↦ absurd (b.1 (ap A q ∙ x.1) (ap f q ∙ x.2))
          | inr z ↦ (z.0, ap A z.1 ∙ x.1, ap f z.1 ∙ x.2)
        ]

    go : ((C : Below m → Bool) → Onto (λ x. f (widen x)) (λ x. A (widen x)) C → count m C ≤ count n (λ x. A (widen x)))
        → (A (last n) ≡ true) ⊎ (A (last n) ≡ false) → count m B ≤ count (suc n) A
    go ih (inl p) =
        let y = f (last n) in
        let C = without y B in
        let few = ih C (rest C (λ z q. (and_l _ _ q, λ a e. clash (ap (same z) e ∙ same_refl z) (not-true _ (and_r _ _ q))))) in
        omega (arith, few, without_counts m B y, one_most (B y), ap one p)
    go ih (inr p) = let few = ih B (rest B (λ y q. (q, λ a e. clash a p))) in omega (arith, few)

-- A set with at most as many members as a part of it is that part.
pub no_more_than_part : (n : ℕ) (A B : Below n → Bool) → ((x : Below n) → A x ≡ true → B x ≡ true) → count n B ≤ count n A
    → (x : Below n) → B x ≡ true → A x ≡ true
no_more_than_part n A B part few x b = go (dec (A x))
  where
    go : (A x ≡ true) ⊎ (A x ≡ false) → A x ≡ true
    go (inl p) = p
    go (inr p) =
        let away : (y : Below n) → A y ≡ true → not (same y x) ≡ true
        = λ y a. ap not (ne_eqb y.0 x.0 (λ e. clash a (ap A (Fin.val_path {n = n} {i = y} {j = x} e) ∙ p))) in
        let fewer = onto_no_more n (λ y. y) (without x B) A (λ y a. (y, and_i (part y a) (away y a), refl)) in
        absurd (omega (arith, few, fewer, without_counts n B x, ap one b))

-- With no bound it need not be: `before` takes the numbers from 1 on onto all numbers. So they are a part of what `before` gives for them, and 0 is not in that part.
abbrev before : ℕ → ℕ
before zero = zero
before (suc n) = n

pub positive_onto_all : (y : ℕ) → (x : ℕ) × (0 < x) × (before x ≡ y)
positive_onto_all y = (suc y, omega arith, refl)
