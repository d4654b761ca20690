-- The literals of a branch and their codes.
use Rattle.std.proofs.Common.{◌≡◌, ℕ, zero, suc, ◌<◌, List, [], ◌∷◌, map, length, get_or, refl}
use Rattle.std.proofs.Common.{subst, arith, Some, slice_get}
use Rattle.tableau.specs.declared.Relation.{Relation}
use Rattle.tableau.specs.Terms.{TermNo, Literal, literal}
use Rattle.tableau.specs.Background.{On}
use Rattle.tableau.proofs.Bools.{none≢some, some_inj}
use Rattle.packing.specs.Packing.{unpack_literal, Small, PackableLiteral}
use Rattle.packing.proofs.PackingLaws.{literal_packable}

pub code_on : (xs : List ℕ) (i : ℕ) → i < length xs
    → On (map unpack_literal xs) (unpack_literal (get_or xs i 0))
code_on [] i l = absurd (omega arith)
code_on (x ∷ xs) zero l = (0, refl)
code_on (x ∷ xs) (suc i) l = let k = code_on xs i (omega arith) in (suc k.0, k.1)

code_of : (xs : List ℕ) (j : ℕ) (l : Literal) → slice_get (map unpack_literal xs) j ≡ Some l
    → (i : ℕ) × (i < length xs) × (unpack_literal (get_or xs i 0) ≡ l)
code_of [] j l e = none≢some e
code_of (x ∷ xs) zero l e = (0, omega arith, some_inj e)
code_of (x ∷ xs) (suc j) l e = let k = code_of xs j l e in let h : k.0 < length xs =
    k.1 in (suc k.0, omega arith, k.2)

-- what holds of each code's literal holds of each literal of the branch
pub each_on : (P : Literal → Type 0) (xs : List ℕ)
    → ((i : ℕ) → i < length xs → P (unpack_literal (get_or xs i 0))) → (l : Literal)
    → On (map unpack_literal xs) l → P l
each_on P xs f l o = let k = code_of xs o.0 l o.1 in subst P k.2 (f k.0 k.1)

-- its sides are small
pub sides_small : (xs : List ℕ) (R : Relation) (a b : TermNo)
    → On (map unpack_literal xs) (literal R a b) → Small a × Small b
sides_small xs R a b o = each_on PackableLiteral xs (λ i l. literal_packable (get_or xs i 0))
    (literal R a b) o
