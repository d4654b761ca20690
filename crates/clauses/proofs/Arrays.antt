-- Laws of arrays that no contract is about.
use Prim.Native.Nat.{ℕ, zero, suc, ◌+◌, ◌≤◌}
use native.Mathlib.Omega.{arith}
use mathlib.Core.Path.{◌≡◌, refl, ap}
use mathlib.Core.List.{List, [], ◌∷◌}
use lib.ListN.{length, take, drop, get_or, set, replicate}
use lib.Seq.{drop-cons}
use Rattle.clauses.specs.Held.{codes_at}

pub get_d_zeros : (n k : ℕ) → ◌≡◌ {A = ℕ} (get_or (replicate n 0) k 0) 0
get_d_zeros zero k = refl
get_d_zeros (suc n) zero = refl
get_d_zeros (suc n) (suc k) = get_d_zeros n k

-- what holds of every number of an array and of one that is stored holds after the store
pub all_set : (P : ℕ → Type 0) (l : List ℕ) (n x : ℕ) → ((k : ℕ) → P (get_or l k 0)) → P x → (k : ℕ) → P (get_or (set l n x) k 0)
all_set P [] n x h p k = h k
all_set P (y ∷ l) zero x h p zero = p
all_set P (y ∷ l) zero x h p (suc k) = h (suc k)
all_set P (y ∷ l) (suc n) x h p zero = h zero
all_set P (y ∷ l) (suc n) x h p (suc k) = all_set P l n x (λ j. h (suc j)) p k

-- the codes that stand in an array are a slice of it
pub codes_slice : (words : List ℕ) (i n : ℕ) → i + n ≤ length words → codes_at words i n
    ≡ take n (drop i words)
codes_slice words i zero h = refl
codes_slice words i (suc n) h =
    rw (drop-cons words i 0 (omega arith))
    (ap (λ l. get_or words i 0 ∷ l) (codes_slice words (suc i) n (omega arith)))
