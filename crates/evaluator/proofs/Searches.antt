-- A search by index, from the front on: F i n is what it gives from index i on, where n indices are left.
use mathlib.Core.Path.{◌≡◌, ◌∙◌, ap}
use Prim.Native.Nat.{ℕ, suc, ◌+◌, ◌-◌, ◌<◌, ◌≤◌}
use native.Mathlib.Omega.{arith}

module _ {X : Type 0} (F : ℕ → ℕ → X) (from n : ℕ) where
  -- nothing was found before i
  abbrev pub NotBefore : ℕ → Type 0
  NotBefore i = F from n ≡ F i (from + n - i)

  pub at_start_lem : NotBefore from
  at_start_lem = ap (F from) (let e : n ≡ from + n - from = omega arith in e)

  pub at_end_lem : {i : ℕ} → from + n ≤ i → NotBefore i → F from n ≡ F i 0
  at_end_lem {i} h b = b ∙ ap (F i) (let e : from + n - i ≡ 0 = omega arith in e)

  module _ {i : ℕ} (l : i < from + n) (b : NotBefore i) where
    here : F from n ≡ F i (suc (from + n - (i + 1)))
    here = b ∙ ap (F i) (let e : from + n - i ≡ suc (from + n - (i + 1)) = omega arith in e)

    pub found : {x : X} → ((m : ℕ) → F i (suc m) ≡ x) → F from n ≡ x
    found h = here ∙ h (from + n - (i + 1))

    pub passed_by : ((m : ℕ) → F i (suc m) ≡ F (suc i) m) → NotBefore (i + 1)
    passed_by h = here ∙ h (from + n - (i + 1)) ∙ ap (λ j. F j (from + n - (i + 1))) (let e : suc i ≡ i + 1 = omega arith in e)
