-- The numbers below n: when two are the same, the last of them, and whether a test holds of one.
use mathlib.Core.Path.{◌≡◌, refl, sym, ◌∙◌, ap}
use mathlib.Core.Bool.{Bool, true, false, false≢true}
use mathlib.Core.Logic.{◌⊎◌, inl, inr}
use Prim.Native.Nat.{ℕ, zero, suc, ◌<◌}
use native.Mathlib.Nat.{lt-suc_self, not-suc-le-zero}
use native.Mathlib.Fin
use native.Mathlib.Omega.{arith}
use lib.Dec.{eqb}
use borrow.Author.Tests.{eqb-true, eqb-false}
use Rattle.tableau.specs.Meaning.{Below, same, widen, any}
use Rattle.tableau.proofs.Bools.{or_e, or_i1, or_i2, dec, eqb_same}

pub same_eq : {n : ℕ} (x y : Below n) → same x y ≡ true → x ≡ y
same_eq {n} x y e = Fin.val_path {n = n} {i = x} {j = y} (eqb-true x.0 y.0 e)

pub same_refl : {n : ℕ} (x : Below n) → same x x ≡ true
same_refl x = eqb_same x.0

-- the greatest number below n + 1; any other is below n
abbrev pub last : (n : ℕ) → Below (suc n)
last n = (n, lt-suc_self n)

below_last : (i n : ℕ) → i < suc n → (i ≡ n → ⊥) → i < n
below_last i n h k = omega arith

pub last_or : (n : ℕ) (x : Below (suc n)) → (last n ≡ x) ⊎ ((z : Below n) × (widen z ≡ x))
last_or n x = go (dec (eqb x.0 n))
  where
    go : (eqb x.0 n ≡ true) ⊎ (eqb x.0 n ≡ false) → (last n ≡ x) ⊎ ((z : Below n) × (widen z ≡ x))
    go (inl p) = inl (Fin.val_path {n = suc n} {i = last n} {j = x} (sym (eqb-true x.0 n p)))
    go (inr p) =
        let l : x.0 < n = below_last x.0 n x.1 (eqb-false x.0 n p) in
        inr ((x.0, l), Fin.val_path {n = suc n} {i = widen (x.0, l)} {j = x} refl)

-- `any` finds one, and misses none
pub any_out : (n : ℕ) (f : Below n → Bool) → any n f ≡ true → (x : Below n) × (f x ≡ true)
unfolding any
any_out zero f e = absurd (false≢true e)
any_out (suc n) f e = go (any_out n (λ x. f (widen x))) (or_e _ _ e)
  where
    go : (any n (λ x. f (widen x)) ≡ true → (x : Below n) × (f (widen x) ≡ true))
        → (f (last n) ≡ true) ⊎ (any n (λ x. f (widen x)) ≡ true) → (x : Below (suc n)) × (f x ≡ true)
    go ih (inl p) = (last n, p)
    go ih (inr p) = let k = ih p in (widen k.0, k.1)

pub any_in : (n : ℕ) (f : Below n → Bool) (x : Below n) → f x ≡ true → any n f ≡ true
unfolding any
any_in zero f x e = absurd (not-suc-le-zero x.1)
any_in (suc n) f x e = go (any_in n (λ z. f (widen z))) (last_or n x)
  where
    go : ((z : Below n) → f (widen z) ≡ true → any n (λ z. f (widen z)) ≡ true) → (last n ≡ x) ⊎ ((z : Below n) × (widen z ≡ x)) → any (suc n) f ≡ true
    go ih (inl p) = or_i1 (f (last n)) _ (ap f p ∙ e)
    go ih (inr z) = or_i2 (f (last n)) _ (ih z.0 (ap f z.1 ∙ e))
