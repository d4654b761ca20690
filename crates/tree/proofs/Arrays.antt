-- A law of lists that no contract is about.
use Prim.Native.Nat.{ℕ, zero, suc, min}
use mathlib.Core.Path.{◌≡◌, ap}
use mathlib.Core.List.{List, [], ◌∷◌}
use native.Mathlib.Nat.{zero-min, min-zero, suc-min-suc}
use lib.ListN.{take}

pub take_min : {A : Type 0} (m n : ℕ) (l : List A) → take m (take n l) ≡ take (min m n) l
take_min zero n l = rw zero-min
take_min (suc m) zero l = rw min-zero
take_min (suc m) (suc n) [] = rw suc-min-suc
take_min {A} (suc m) (suc n) (x ∷ l) =
    rw suc-min-suc (ap {B = List A} (λ r. x ∷ r) (take_min m n l))
