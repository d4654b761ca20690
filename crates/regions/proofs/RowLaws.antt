-- Rows compared byte by byte.
use mathlib.Core.Path.{◌≡◌, refl, ap}
use mathlib.Core.Bool.{true, ◌&&◌}
use mathlib.Core.List.{List, [], ◌∷◌}
use Prim.Native.Nat.{ℕ}
use lib.Dec.{eqb}
use lib.Pointwise.{pointwise}
use Rattle.tableau.specs.Basics.{same_bytes}
use Rattle.tableau.proofs.Bools.{both_i, eqb_same}

pub bytes_refl : (g : List ℕ) → same_bytes g g ≡ true
unfolding same_bytes
bytes_refl [] = refl
bytes_refl (a ∷ g) = both_i (eqb_same a) (bytes_refl g)

-- what `==` says of two rows
pub pointwise_same : (g h : List ℕ) → pointwise eqb g h ≡ same_bytes g h
unfolding same_bytes
pointwise_same [] [] = refl
pointwise_same [] (b ∷ h) = refl
pointwise_same (a ∷ g) [] = refl
pointwise_same (a ∷ g) (b ∷ h) = ap (λ t. eqb a b && t) (pointwise_same g h)
