-- Each arm is the method for as many alternatives.
use mathlib.Core.Path.{refl, ap}
use mathlib.Core.List.{[], ◌∷◌}
use Rattle.std.proofs.Common.{rules}
use Rattle.tableau.specs.Tree.{passed, grow, grown, room_on_branch, room_to_wait}
use Rattle.packing.specs.Packing.{unpack_literal}
use Rattle.tree.specs.State.{codes_of}
use Rattle.growth.proofs.Laws.{grows_split}
use Rattle.growth.proofs.grow.Goals as goal

-- with no alternative the tree is closed, and nothing asks for room
pub returns-in-Closes : goal.returns-in-Closes
unfolding grown grow room_on_branch room_to_wait
returns-in-Closes c =
    rw c.in-Closes.is
    (record {
      fits = c.close.ensures.fits;
      result = λ words. ap passed (c.close.ensures.result unpack_literal words);
    })

pub returns-in-Adds : goal.returns-in-Adds
returns-in-Adds c =
    rw c.in-Adds.is
    (grows_split _ _ _ (codes_of c.in-Adds.a ∷ []) refl _ _ _
    (λ x y p. search rules) c.map.ensures.cases c.extend.ensures)

pub returns-in-Splits : goal.returns-in-Splits
returns-in-Splits c =
    rw c.in-Splits.is
    (grows_split _ _ _ (codes_of c.in-Splits.a ∷ codes_of c.in-Splits.b ∷ []) refl _ _ _
    (λ x y p. search rules) c.map-in-Splits.ensures.cases c.split2.ensures)

pub returns-in-SplitsThree : goal.returns-in-SplitsThree
returns-in-SplitsThree c =
    let k = c.in-SplitsThree in
    rw k.is (grows_split _ _ _ (codes_of k.a ∷ codes_of k.b ∷ codes_of k.c ∷ []) refl _ _ _
    (λ x y p. search rules) c.map-in-SplitsThree.ensures.cases c.split3.ensures)
