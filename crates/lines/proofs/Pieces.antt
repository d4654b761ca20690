-- Laws of a text that is cut at a byte, by its first byte.
use mathlib.Core.Bool.{Bool, true, false}
use mathlib.Core.List.{List, [], ◌∷◌}
use mathlib.Core.Path.{◌≡◌, refl, ap, ◌∙◌}
use Prim.Native.Nat.{ℕ, suc, ◌<◌}
use native.Mathlib.Omega.{arith}
use lib.Dec.{eqb}
use lib.ListN.{length, get_or}
use borrow.Author.Tests.{eq-eqb, ne_eqb}
use Rattle.tableau.specs.File.{on_first, split}

pub split_same : (c x : ℕ) (l : List ℕ) → x ≡ c → split c (x ∷ l) ≡ [] ∷ split c l
unfolding split
split_same c x l e = cut (eqb x c) (eq-eqb x c e)
  where
    cut : (b : Bool) → b ≡ true
        → elim b [ true ↦ [] ∷ split c l | false ↦ on_first x (split c l) ] ≡ [] ∷ split c l
    cut b e = rw e

pub split_other : (c x : ℕ) (l : List ℕ) → (x ≡ c → ⊥) → split c (x ∷ l) ≡ on_first x (split c l)
unfolding split
split_other c x l h = cut (eqb x c) (ne_eqb x c h)
  where
    cut : (b : Bool) → b ≡ false
        → elim b [ true ↦ [] ∷ split c l | false ↦ on_first x (split c l) ] ≡ on_first x (split c l)
    cut b e = rw e

-- a text without the byte is one piece
pub uncut : (c : ℕ) (l : List ℕ) → ((i : ℕ) → i < length l → get_or l i 0 ≡ c → ⊥)
    → split c l ≡ l ∷ []
unfolding split
uncut c [] h = refl
uncut c (x ∷ l) h =
    split_other c x l (h 0 (omega arith))
    ∙ ap (on_first x) (uncut c l (λ i k. h (suc i) (omega arith)))
