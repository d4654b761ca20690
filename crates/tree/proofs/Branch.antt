-- Laws of the branch.
use Prim.Native.Nat.{ℕ, zero, suc, ◌-◌, ◌≤◌, ◌<◌}
use mathlib.Core.Path.{◌≡◌, refl, sym}
use mathlib.Core.Bool.{true, ◌&&◌}
use mathlib.Core.List.{List, [], ◌∷◌, map}
use Rattle.std.specs.Prelude.{Some, slice_get}
use native.Mathlib.Omega.{arith}
use borrow.Author.Tests.{leb-true}
use lib.Dec.{leb}
use lib.ListN.{length, take, get_or, replicate, length-replicate, length-take}
use lib.Seq.{}
use Rattle.tableau.specs.declared.Relation.{Relation}
use Rattle.tableau.specs.Terms.{Literal, literal}
use Rattle.tableau.specs.Tree.{literal_at}
use Rattle.tableau.proofs.Bools.{both_true}
use Rattle.packing.specs.Packing.{code_limit}
use Rattle.tree.specs.State.{AreCodes, HasPlace, IsBranch}

-- check 11 holds of the places from 1 to n
pub from_check : (n p : ℕ) → HasPlace n p true → (1 ≤ p) × (p ≤ n)
from_check n p h =
    let any = literal Relation.In 0 0 in
    let e : (leb 1 p && leb p n) ≡ true =
    rw (length-replicate n any) at (sym (h (replicate n any) (length-replicate n any))) in
    let b = both_true (leb 1 p) (leb p n) e in
    (leb-true 1 p b.0, leb-true p n b.1)

-- the code at a place
at_index : (f : ℕ → Literal) (b : List ℕ) (m : ℕ) → m < length b → slice_get (map f b) m
    ≡ Some (f (get_or b m 0))
at_index f [] m h = absurd (omega arith)
at_index f (x ∷ b) zero h = refl
at_index f (x ∷ b) (suc m) h = at_index f b m (omega arith)

pub at_place : (f : ℕ → Literal) (b : List ℕ) (p : ℕ) → (1 ≤ p) × (p ≤ length b)
    → literal_at (map f b) p ≡ Some (f (get_or b (p - 1) 0))
at_place f b zero h = absurd (omega arith)
at_place f b (suc m) h = let e : suc m - 1 ≡ m = omega arith in rw e (at_index f b m (omega arith))

-- the codes of a branch alone, without what lies behind them in its array
pub taken_bounded : (b : List ℕ) (n limit k : ℕ) → 0 < limit → ((j : ℕ) → get_or b j 0 < limit)
    → get_or (take n b) k 0 < limit
taken_bounded b zero limit k l h = l
taken_bounded [] (suc n) limit k l h = l
taken_bounded (x ∷ b) (suc n) limit zero l h = h zero
taken_bounded (x ∷ b) (suc n) limit (suc k) l h = taken_bounded b n limit k l (λ j. h (suc j))

pub are_codes : (array : List ℕ) (n : ℕ) → IsBranch array n → AreCodes (take n array)
are_codes array n B =
    record {
      room = omega (arith, B.room, length-take n array);
      bounded = λ k. taken_bounded array n code_limit k (omega arith) B.bounded;
    }
