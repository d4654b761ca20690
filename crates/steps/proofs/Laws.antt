-- The places of a step, and what is read there.
use mathlib.Core.Path.{◌≡◌, ◌∙◌, ap}
use mathlib.Core.Bool.{true}
use mathlib.Core.List.{List, map}
use Prim.Native.Nat.{ℕ, ◌≤◌}
use native.Mathlib.Omega.{arith}
use lib.Dec.{leb}
use lib.ListN.{length, take, length-map}
use lib.Seq.{length-take-le}
use borrow.Author.Tests.{le-leb, leb-true, eqb-true}
use Rattle.tableau.specs.Fields.{PlaceField, unused, place, place_use}
use Rattle.tableau.specs.Terms.{Clauses}
use Rattle.tableau.specs.Tree.{literal_at, on_branch, is_there}
use Rattle.tableau.specs.Reply.{zero_if_unused}
use Rattle.tableau.proofs.Bools.{both_true}
use Rattle.packing.specs.declared.LiteralView.{LiteralView}
use Rattle.packing.specs.Packing.{unpack_literal}
use Rattle.tree.specs.State.{HasPlace, IsBranch, branch_of}
use Rattle.steps.specs.Reading.{ReadAt}
use Rattle.conclusions.specs.Infers.{at_place}

-- check 11 holds of the places from 1 to n
pub has_place_lem : (n p : ℕ) → 1 ≤ p → p ≤ n → HasPlace n p true
has_place_lem n p h g = λ B e. rw (e, le-leb 1 p h, le-leb p n g)

-- the branch of an array's first n codes has n literals
pub branch_length : (array : List ℕ) (n : ℕ) → IsBranch array n → length (branch_of array n) ≡ n
branch_length array n W =
    length-map (take n array) unpack_literal ∙ length-take-le n array (omega arith)

-- THE PLACES of a line, after checks 6 and 11
module _ (codes : List ℕ) where
  place_in : (n : ℕ) → on_branch (map unpack_literal codes) n ≡ true → (1 ≤ n) × (n ≤ length codes)
  place_in n h =
      let b = both_true (leb 1 n) _ h in (
        leb-true 1 n b.0,
        omega (
          arith,
          leb-true n (length (map unpack_literal codes)) b.1,
          length-map codes unpack_literal,
        ),
      )

  pub place_within : (C : Clauses) (f : PlaceField) (n : ℕ) → zero_if_unused (place_use f) n ≡ true
      → is_there C (map unpack_literal codes) (place_use f) n ≡ true
      → n ≤ length codes
  place_within C unused n z h = omega (arith, eqb-true n 0 z)
  place_within C place n z h = (place_in n h).1

  -- the literal that was read is the one at the place
  pub place_read : (C : Clauses) (f : PlaceField) (n : ℕ) (P : LiteralView)
      → zero_if_unused (place_use f) n ≡ true
      → is_there C (map unpack_literal codes) (place_use f) n ≡ true → ReadAt codes n P
      → literal_at (map unpack_literal codes) n ≡ at_place f P
  place_read C unused n P z h r = ap (literal_at (map unpack_literal codes)) (eqb-true n 0 z)
  place_read C place n P z h r = r.is (place_in n h).0
