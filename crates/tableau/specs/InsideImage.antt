-- Document 02, 'Finite heaps have a counting argument': "A region inside its own image can't be smaller than that image when heaps are finite, as ours are."
use Rattle.std.specs.Prelude.{List, [], ◌∷◌, ◌++◌, take}
use Prim.Native.String.{String}
use Rattle.tableau.specs.Cases.{file_of, with_line, Case, ◌⊢◌}
use Rattle.tableau.specs.Claims.{Model}

-- A region inside its own image has nothing outside it in the image.
unfoldable pub region_inside_image : List String
region_inside_image =
    "T,arv,1,0,0,0" ∷  -- 1: h
    "T,rgv,1,0,0,0" ∷  -- 2: r
    "T,fnv,1,0,0,0" ∷  -- 3: f
    "T,img,1,2,3,0" ∷  -- 4: i = img(h,r,f)
    "T,cup,2,4,0,0" ∷  -- 5: cup(r,i)
    "T,cup,4,2,0,0" ∷  -- 6: cup(i,r)
    "T,rfv,1,0,0,0" ∷  -- 7: u
    "A,eq,5,4,0,0" ∷  -- place 1: cup(r,i) eq i
    "A,in,7,4,0,0" ∷  -- place 2: u in i
    "A,ni,7,2,0,0" ∷  -- place 3: u ni r
    "S,fin,1,0,0,0" ∷  -- place 4: cup(i,r) eq r
    "S,cui,2,0,6,0" ∷  -- place 5: u in cup(i,r)
    "S,eqr,4,5,0,0" ∷  -- place 6: u in r
    "S,cls,6,3,0,0" ∷
    []

-- The inclusion the other way round: a region with its image inside has nothing outside the image, which is false.
unfoldable pub image_inside_region : List String
unfolding region_inside_image
image_inside_region = take 7 region_inside_image ++ (
    "A,eq,6,2,0,0" ∷  -- place 1: cup(i,r) eq r
    "A,in,7,2,0,0" ∷  -- place 2: u in r
    "A,ni,7,4,0,0" ∷  -- place 3: u ni i
    "S,fin,1,0,0,0" ∷
    [])

unfoldable pub counting_cases : List Case
unfolding region_inside_image image_inside_region
counting_cases =
    (region_inside_image ⊢ "yes,0,0,7,3,4,1,0") ∷
    -- the image on the wrong side of `eq`, and of `cup`
    (with_line 8 "A,eq,4,5,0,0" region_inside_image ⊢ "no,12,11,0,0,0,0,0") ∷
    (with_line 8 "A,eq,6,4,0,0" region_inside_image ⊢ "no,12,11,0,0,0,0,0") ∷
    (image_inside_region ⊢ "no,12,11,0,0,0,0,0") ∷
    -- cup(i,r) is not in the table
    (with_line 6 "T,cap,4,2,0,0" region_inside_image ⊢ "no,14,11,0,0,0,0,0") ∷
    []

-- A heap and values make all that `image_inside_region` assumes true, so that a yes to it would be wrong.
--
-- That `fin` needs finiteness no heap can show here: every heap of the meaning is finite, and none makes all true that `region_inside_image` assumes, since it is accepted. An infinite one would: r has x₁, x₂, ..,
-- and the field f leads from each xₙ₊₁ to xₙ, so that r is inside its image, and x₀, allocated too, is in the image and not in r. `positive_onto_all` in proofs/Counting.antt says this of the natural numbers.
abbrev pub ImageInsideRegionModel : Type 0
ImageInsideRegionModel = Model (file_of image_inside_region)
