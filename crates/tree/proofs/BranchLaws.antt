-- The literals of a branch and their codes.
use mathlib.Core.Path.{◌≡◌, refl, subst}
use mathlib.Core.List.{List, [], ◌∷◌}
use Rattle.std.specs.Prelude.{Some, slice_get}
use Prim.Native.Nat.{ℕ, zero, suc, ◌<◌, ◌≤◌}
use native.Mathlib.Omega.{arith}
use lib.ListN.{length, get_or}
use Rattle.tableau.specs.declared.Relation.{Relation}
use Rattle.tableau.specs.Terms.{TermNo, Literal, literal}
use Rattle.tableau.specs.Background.{On}
use Rattle.tableau.proofs.Bools.{none≢some, some_inj}
use Rattle.packing.specs.Packing.{unpack_literal, Small, PackableLiteral}
use Rattle.packing.proofs.PackingLaws.{literal_packable}
use Rattle.tree.specs.State.{IsBranch, branch_of}

code_on : (xs : List ℕ) (n i : ℕ) → n ≤ length xs → i < n
    → On (branch_of xs n) (unpack_literal (get_or xs i 0))
code_on [] n i h l = absurd (omega arith)
code_on (x ∷ xs) zero i h l = absurd (omega arith)
code_on (x ∷ xs) (suc n) zero h l = (0, refl)
code_on (x ∷ xs) (suc n) (suc i) h l =
    let k = code_on xs n i (omega arith) (omega arith) in (suc k.0, k.1)

pub on_branch_lem : (xs : List ℕ) (n i : ℕ) → IsBranch xs n → i < n
    → On (branch_of xs n) (unpack_literal (get_or xs i 0))
on_branch_lem xs n i W l = code_on xs n i (omega (arith, W.size, W.room)) l

code_of : (xs : List ℕ) (n j : ℕ) (l : Literal) → slice_get (branch_of xs n) j ≡ Some l → (i : ℕ)
    × (i < n) × (unpack_literal (get_or xs i 0) ≡ l)
code_of [] zero j l e = none≢some e
code_of [] (suc n) j l e = none≢some e
code_of (x ∷ xs) zero j l e = none≢some e
code_of (x ∷ xs) (suc n) zero l e = (0, omega arith, some_inj e)
code_of (x ∷ xs) (suc n) (suc j) l e = let k = code_of xs n j l e in let h : k.0 < n =
    k.1 in (suc k.0, omega arith, k.2)

-- what holds of each code's literal holds of each literal of the branch
pub each_on : (P : Literal → Type 0) (xs : List ℕ) (n : ℕ)
    → ((i : ℕ) → i < n → P (unpack_literal (get_or xs i 0))) → (l : Literal) → On (branch_of xs n) l
    → P l
each_on P xs n f l o = let k = code_of xs n o.0 l o.1 in subst P k.2 (f k.0 k.1)

-- its sides are small
pub sides_small : (xs : List ℕ) (n : ℕ) (R : Relation) (a b : TermNo)
    → On (branch_of xs n) (literal R a b) → Small a × Small b
sides_small xs n R a b o =
    each_on PackableLiteral xs n (λ i l. literal_packable (get_or xs i 0)) (literal R a b) o
