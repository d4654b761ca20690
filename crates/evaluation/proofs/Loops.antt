-- Loops over numbers and over lists of numbers. Where each step extends the state, so does the loop, and each step is taken on the way.
use mathlib.Core.Path.{◌≡◌, subst}
use mathlib.Core.List.{List, [], ◌∷◌}
use mathlib.Core.Logic.{◌⊎◌, inl, inr}
use Prim.Native.Nat.{ℕ, zero, suc, ◌<◌, ◌≤◌}
use native.Mathlib.Nat.{eq-or-lt_of_le, le_of_suc-le-suc}
use native.Mathlib.Omega.{arith}
use lib.ListN.{length}

-- all numbers below k; all lists of d numbers up to m
pub for_below : {S : Type 0} → ℕ → (ℕ → S → S) → S → S
for_below zero g s = s
for_below (suc k) g s = g k (for_below k g s)

pub for_lists : {S : Type 0} → ℕ → ℕ → (List ℕ → S → S) → S → S
for_lists m zero g = g []
for_lists m (suc d) g = for_below (suc m) (λ i. for_lists m d (λ is. g (i ∷ is)))

abbrev pub UpTo : ℕ → List ℕ → Type 0
UpTo m [] = Unit {0}
UpTo m (i ∷ is) = (i ≤ m) × UpTo m is

module _ {S : Type 0} (R : S → S → Type 1) (same : (s : S) → R s s) (join : (s t u : S) → R s t → R t u → R s u) where
  abbrev Extends : (S → S) → Type 1
  Extends g = (s : S) → R s (g s)

  -- the step h is taken at a state t
  abbrev Takes : (S → S) → (S → S) → Type 1
  Takes h g = (s : S) → (t : S) × R s t × R (h t) (g s)

  below_extends : (k : ℕ) (g : ℕ → S → S) → ((i : ℕ) → Extends (g i)) → Extends (for_below k g)
  unfolding for_below
  below_extends zero g h s = same s
  below_extends (suc k) g h s = join _ _ _ (below_extends k g h s) (h k (for_below k g s))

  below_takes : (k : ℕ) (g : ℕ → S → S) → ((i : ℕ) → Extends (g i)) → (i : ℕ) → i < k → Takes (g i) (for_below k g)
  unfolding for_below
  below_takes zero g h i l s = absurd (omega arith)
  below_takes (suc k) g h i l s = go (below_takes k g h i) (eq-or-lt_of_le (le_of_suc-le-suc l))
    where
      go : (i < k → Takes (g i) (for_below k g)) → (i ≡ k) ⊎ (i < k) → (t : S) × R s t × R (g i t) (g k (for_below k g s))
      go ih (inl e) = (for_below k g s, below_extends k g h s, subst (λ (j : ℕ). R (g i (for_below k g s)) (g j (for_below k g s))) e (same _))
      go ih (inr m) = let t = ih m s in (t.0, t.1, join _ _ _ t.2 (h k (for_below k g s)))

  pub lists_extend : (m d : ℕ) (g : List ℕ → S → S) → ((is : List ℕ) → Extends (g is)) → Extends (for_lists m d g)
  unfolding for_lists
  lists_extend m zero g h = h []
  lists_extend m (suc d) g h = below_extends (suc m) _ (λ i. lists_extend m d _ (λ is. h (i ∷ is)))

  pub lists_take : (m : ℕ) (is : List ℕ) (g : List ℕ → S → S) → ((is : List ℕ) → Extends (g is)) → UpTo m is → Takes (g is) (for_lists m (length is) g)
  unfolding for_lists
  lists_take m [] g h l s = (s, same s, same (g [] s))
  lists_take m (i ∷ is) g h l s =
      let t = below_takes (suc m) _ (λ j. lists_extend m (length is) _ (λ js. h (j ∷ js))) i (omega (arith, l.0)) s in
      let u = lists_take m is _ (λ js. h (i ∷ js)) l.1 t.0 in
      (u.0, join _ _ _ t.1 u.1, join _ _ _ u.2 t.2)
