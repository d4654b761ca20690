-- Laws of the masks of used fields.
use mathlib.Core.Bool.{◌&&◌, ◌||◌}
use mathlib.Core.Path.{◌≡◌, refl}
use Prim.Native.Nat.{ℕ}
use lib.Dec.{eqb}
use Rattle.tableau.specs.declared.Relation.{Relation}
use Rattle.tableau.specs.Basics.{Four, every}
use Rattle.tableau.specs.Fields.{Use, unused, place, name, side, clause, term, of, sides}
use Rattle.tableau.specs.Fields.{clause_fields}
use Rattle.tableau.specs.Reply.{zero_if_unused}
use Rattle.syntax.specs.Syntax.{mask_of}
use Rattle.syntax.proofs.Masks.{is_used, has, bits_of}

zero_if : (u : Use) (n : ℕ) → zero_if_unused u n ≡ is_used u || eqb n 0
zero_if unused n = refl
zero_if place n = refl
zero_if name n = refl
zero_if side n = refl
zero_if clause n = refl
zero_if term n = refl
zero_if (of s) n = refl

-- the four tests of a mask say what the check says
module _ (f : Four Use) (used : ℕ) (e : used ≡ mask_of f) where
  tests : (n : ℕ)
      → (zero_if_unused f.a n ≡ has used 1 || eqb n 0)
      × (zero_if_unused f.b n ≡ has used 2 || eqb n 0)
      × (zero_if_unused f.c n ≡ has used 4 || eqb n 0)
      × (zero_if_unused f.d n ≡ has used 8 || eqb n 0)
  tests n =
      let k = bits_of f used e in
      (rw (k.0, zero_if), rw (k.1, zero_if), rw (k.2, zero_if), rw (k.3, zero_if))

  -- so do the four of a line
  pub every_field : (k : Four ℕ) → every zero_if_unused f k
      ≡ (has used 1 || eqb k.a 0) &&
      ((has used 2 || eqb k.b 0) && ((has used 4 || eqb k.c 0) && (has used 8 || eqb k.d 0)))
  every_field k = rw ((tests k.a).0, (tests k.b).1, (tests k.c).2, (tests k.d).3)

-- a literal uses two fields on an A line, three on a C line
pub literal_masks : (R : Relation) → (3 ≡ mask_of (sides R)) × (7 ≡ mask_of (clause_fields R))
unfolding sides
literal_masks Relation.In = (refl, refl)
literal_masks Relation.Ni = (refl, refl)
literal_masks Relation.Eq = (refl, refl)
literal_masks Relation.Ne = (refl, refl)
literal_masks Relation.Le = (refl, refl)
literal_masks Relation.Nl = (refl, refl)
