-- 'How the old checker went wrong, and could again': for each way a file that was accepted so, though a heap makes all its assumptions true.
use Rattle.std.specs.Prelude.{List, [], ◌∷◌, ◌++◌, take}
use Prim.Native.String.{String}
use Rattle.tableau.specs.Claims.{Model}
use Rattle.tableau.specs.Cases.{file_of, Case, ◌⊢◌}

-- THE INCIDENT: "Taking two of the three `img` alternatives as enough."
-- The receiver u is one of the routine's objects r, and reads its last-jog record, rea(h,u,f), from its field f. Assumed: u may have that
-- field, and the record is no object that the routine reaches, that is, not in img(h,r,f). The tableau closes the first and the third
-- case of the image step, and has none for a record that is not allocated.
unfoldable pub incident : List String
incident =
    "T,arv,1,0,0,0" ∷  -- 1: the heap h
    "T,rfv,1,0,0,0" ∷  -- 2: the receiver u
    "T,fnv,1,0,0,0" ∷  -- 3: the field f of the last-jog record
    "T,rgv,1,0,0,0" ∷  -- 4: the routine's objects r
    "T,img,1,4,3,0" ∷  -- 5: img(h,r,f)
    "T,rea,1,2,3,0" ∷  -- 6: the last-jog record, rea(h,u,f)
    "T,typ,2,0,0,0" ∷  -- 7
    "T,dty,3,0,0,0" ∷  -- 8
    "T,all,0,0,0,0" ∷  -- 9
    "A,in,2,4,0,0" ∷
    "A,le,7,8,0,0" ∷
    "A,ni,6,5,0,0" ∷
    "S,img,1,0,5,0" ∷
    "S,cls,2,4,0,0" ∷
    "S,cls,4,3,0,0" ∷
    []

-- the same with the record assumed allocated, and the missing case closed
unfoldable pub incident_mended : List String
unfolding incident
incident_mended = take 12 incident ++ (
    "A,in,6,9,0,0" ∷
    "S,img,1,0,5,0" ∷
    "S,cls,2,5,0,0" ∷
    "S,cls,4,5,0,0" ∷
    "S,cls,5,3,0,0" ∷
    [])

-- "Looking for w only at the sides of literals; `typ(w)` on the branch also spoils it."
unfoldable pub stale_witness : List String
stale_witness =
    "T,arv,1,0,0,0" ∷
    "T,rgv,1,0,0,0" ∷
    "T,fnv,1,0,0,0" ∷
    "T,img,1,2,3,0" ∷  -- 4: img(h,r,f)
    "T,rfv,1,0,0,0" ∷  -- 5: u
    "T,rfv,2,0,0,0" ∷  -- 6: w
    "T,typ,6,0,0,0" ∷
    "T,dty,3,0,0,0" ∷
    "T,rea,1,6,3,0" ∷
    "A,in,5,4,0,0" ∷
    "A,nl,7,8,0,0" ∷
    "S,wit,1,0,0,6" ∷
    "S,cls,4,2,0,0" ∷
    []

-- "Letting `sub` compare names as arguments, so that `rfv` 3 and `rfv` 4 become equal when terms 3 and 4 are."
unfoldable pub names_compared : List String
names_compared =
    "T,rfv,3,0,0,0" ∷
    "T,rfv,4,0,0,0" ∷
    "T,rgv,1,0,0,0" ∷
    "T,rgv,2,0,0,0" ∷
    "A,eq,3,4,0,0" ∷
    "A,ne,1,2,0,0" ∷
    "S,sub,1,0,1,2" ∷
    "S,cls,3,2,0,0" ∷
    []

-- "Keeping literals of a closed alternative for the next one."
unfoldable pub literals_kept : List String
literals_kept =
    "T,rfv,1,0,0,0" ∷
    "T,rgv,1,0,0,0" ∷
    "T,rgv,2,0,0,0" ∷
    "T,cup,2,3,0,0" ∷
    "A,in,1,4,0,0" ∷
    "A,ni,1,2,0,0" ∷
    "S,cue,1,0,0,0" ∷
    "S,cls,3,2,0,0" ∷
    "S,cls,3,2,0,0" ∷
    []

-- "Adding u in `sin`(u) with no case for u outside `all`."
unfoldable pub outside_all : List String
outside_all =
    "T,rfv,1,0,0,0" ∷
    "T,sin,1,0,0,0" ∷
    "T,all,0,0,0,0" ∷
    "A,ni,1,2,0,0" ∷
    "S,sgi,0,0,2,0" ∷
    "S,cls,2,1,0,0" ∷
    []

unfoldable pub failings : List Case
failings =
    (incident ⊢ "no,12,15,0,0,0,0,0") ∷
    (stale_witness ⊢ "no,13,12,0,0,0,0,2") ∷
    (names_compared ⊢ "no,12,7,0,0,0,0,0") ∷
    (literals_kept ⊢ "no,12,9,0,0,0,0,0") ∷
    (outside_all ⊢ "no,12,6,0,0,0,0,0") ∷
    []

-- a heap and values make the assumptions of each file true, so that a yes would have been wrong
unfoldable pub AllHaveModels : List Case → Type 0
AllHaveModels [] = Unit {0}
AllHaveModels (c ∷ cs) = Model (file_of c.file) × AllHaveModels cs
