-- Tests over all elements of a finite set, and the test of an order, with what they say.
use Rattle.std.specs.Prelude.{◌≡◌, refl, Bool, true, false, ◌⊎◌, ℕ, zero, suc, ◌<◌}
use Rattle.std.proofs.Common.{◌∙◌, ap, inl, inr, lt-suc_self, not-suc-le-zero, le_of_suc-le-suc, eq-or-lt_of_le, eqb-true}
use Rattle.std.proofs.lemmas.Bool.{false≢true}
use native.Mathlib.Fin
use Rattle.tableau.specs.Meaning.{◌and◌, and_left, Below, same, widen}

-- does the test hold of all of them?
unfoldable pub each : (n : ℕ) → (Below n → Bool) → Bool
each zero f = true
each (suc n) f = f (n, lt-suc_self n) and each n (λ x. f (widen x))

unfoldable pub implies : Bool → Bool → Bool
implies true b = b
implies false b = true

unfoldable pub is_transitive : {n : ℕ} → (Below n → Below n → Bool) → Bool
is_transitive {n} le = each n (λ b. each n (λ c. each n (λ d. implies (le b c) (implies (le c d) (le b d)))))

unfoldable pub is_antisymmetric : {n : ℕ} → (Below n → Below n → Bool) → Bool
is_antisymmetric {n} le = each n (λ b. each n (λ c. implies (le b c) (implies (le c b) (same b c))))

-- WHAT THE TESTS SAY
pub and_right : (a b : Bool) → a and b ≡ true → b ≡ true
unfolding ◌and◌
and_right true b e = e
and_right false b e = absurd (false≢true e)

pub implied : (a b : Bool) → implies a b ≡ true → a ≡ true → b ≡ true
unfolding implies
implied true b e h = e
implied false b e h = absurd (false≢true h)

pub each_out : (n : ℕ) (f : Below n → Bool) → each n f ≡ true → (x : Below n) → f x ≡ true
unfolding each
each_out zero f e x = absurd (not-suc-le-zero x.1)
each_out (suc n) f e x =
    which (each_out n (λ z. f (widen z)) (and_right (f (n, lt-suc_self n)) (each n (λ z. f (widen z))) e)) (eq-or-lt_of_le (le_of_suc-le-suc x.1))
  where
    which : ((z : Below n) → f (widen z) ≡ true) → (x.0 ≡ n) ⊎ (x.0 < n) → f x ≡ true
    which below (inl p) = ap f (Fin.val_path {n = suc n} {i = x} {j = (n, lt-suc_self n)} p) ∙ and_left (f (n, lt-suc_self n)) (each n (λ z. f (widen z))) e
    which below (inr l) = ap f (Fin.val_path {n = suc n} {i = x} {j = widen (x.0, l)} refl) ∙ below (x.0, l)

module _ {n : ℕ} (le : Below n → Below n → Bool) where
  pub transitive : is_transitive le ≡ true → (b c d : Below n) → le b c ≡ true → le c d ≡ true → le b d ≡ true
  unfolding is_transitive
  transitive e b c d p q = implied (le c d) (le b d) (implied (le b c) _ (each_out n _ (each_out n _ (each_out n _ e b) c) d) p) q

  pub antisymmetric : is_antisymmetric le ≡ true → (b c : Below n) → le b c ≡ true → le c b ≡ true → b ≡ c
  unfolding is_antisymmetric
  antisymmetric e b c p q =
      let s = implied (le c b) (same b c) (implied (le b c) _ (each_out n _ (each_out n _ e b) c) p) q in
      Fin.val_path {n = n} {i = b} {j = c} (eqb-true b.0 c.0 s)
