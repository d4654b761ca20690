-- What the code reads off the branch.
use Rattle.std.specs.Prelude.{◌≡◌, List, map, ℕ, ◌≤◌, Some}
use Rattle.tableau.specs.Tree.{literal_at}
use Rattle.packing.specs.declared.LiteralView.{LiteralView}
use Rattle.packing.specs.Packing.{literal_of, unpack_literal, SmallLiteral}

-- r is the literal at the place, if there is one
pub record ReadAt (codes : List ℕ) (place : ℕ) (r : LiteralView) : Type 0 where
  pub small : SmallLiteral r
  pub is : 1 ≤ place → literal_at (map unpack_literal codes) place ≡ Some (literal_of r)
