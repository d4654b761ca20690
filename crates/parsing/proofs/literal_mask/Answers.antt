-- A C line uses three fields, any other two.
use mathlib.Core.Path.{◌≡◌, refl}
use Rattle.tableau.specs.declared.Letter.{Letter}
use Rattle.tableau.specs.declared.Relation.{Relation}
use Rattle.syntax.specs.Syntax.{mask_of}
use Rattle.parsing.specs.Taken.{literal_fields}
use Rattle.parsing.proofs.Masks.{literal_masks}
use Rattle.parsing.proofs.literal_mask.Goals as goal

others : (l : Letter) → (l ≡ Letter.C → ⊥) → (R : Relation) → 3 ≡ mask_of (literal_fields l R)
others Letter.T o R = (literal_masks R).0
others Letter.A o R = (literal_masks R).0
others Letter.C o R = absurd (o refl)
others Letter.S o R = (literal_masks R).0

pub returns-in-C : goal.returns-in-C
returns-in-C c R = rw c.in-C.is (literal_masks R).1

pub returns-in_default : goal.returns-in_default
returns-in_default c R = others c.args.letter c.in_default.not-C R
