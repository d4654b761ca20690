-- Document 02, 'More names': "Names go up to 99,999, and the number shape up to five digits everywhere."
use Rattle.std.specs.Prelude.{List, [], ◌∷◌, ◌++◌, take}
use Prim.Native.String.{String}
use Rattle.tableau.specs.Cases.{with_line, F, Case, ◌⊢◌}

-- F with other names for its two regions
abbrev pub regions_named : String → String → List String
regions_named r s = with_line 2 r (with_line 3 s F)

unfoldable pub long_number_cases : List Case
unfolding F
long_number_cases =
    -- a name: five digits, and six
    (with_line 1 "T,rfv,9999,0,0,0" F ⊢ "yes,0,0,4,2,2,1,0") ∷
    (with_line 1 "T,rfv,10000,0,0,0" F ⊢ "yes,0,0,4,2,2,1,0") ∷
    (with_line 1 "T,rfv,99999,0,0,0" F ⊢ "yes,0,0,4,2,2,1,0") ∷
    (with_line 1 "T,rfv,100000,0,0,0" F ⊢ "no,2,1,0,0,0,0,0") ∷
    (with_line 1 "T,rfv,01234,0,0,0" F ⊢ "no,2,1,0,0,0,0,0") ∷
    -- two names are two variables, though one is the other without its first or its last digit
    (regions_named "T,rgv,12345,0,0,0" "T,rgv,2345,0,0,0" ⊢ "yes,0,0,4,2,2,1,0") ∷
    (regions_named "T,rgv,12345,0,0,0" "T,rgv,1234,0,0,0" ⊢ "yes,0,0,4,2,2,1,0") ∷
    (regions_named "T,rgv,99999,0,0,0" "T,rgv,99999,0,0,0" ⊢ "no,10,3,0,0,0,0,0") ∷
    -- a term, a place, a side, a clause and an unused field, too large with five digits as with four
    (with_line 4 "T,cap,2,99999,0,0" F ⊢ "no,8,4,0,0,0,0,0") ∷
    (with_line 4 "T,cap,2,100000,0,0" F ⊢ "no,2,4,0,0,0,0,0") ∷
    (with_line 5 "A,in,99999,4,0,0" F ⊢ "no,8,5,0,0,0,0,0") ∷
    (with_line 7 "S,cpe,99999,0,0,0" F ⊢ "no,11,7,0,0,0,0,0") ∷
    (with_line 7 "S,cpe,100000,0,0,0" F ⊢ "no,2,7,0,0,0,0,0") ∷
    (with_line 8 "S,cls,3,99999,0,0" F ⊢ "no,11,8,0,0,0,0,0") ∷
    (with_line 7 "S,ref,0,0,99999,0" F ⊢ "no,8,7,0,0,0,0,0") ∷
    (with_line 7 "S,ext,1,0,0,99999" F ⊢ "no,8,7,0,0,0,0,0") ∷
    (with_line 6 "A,eq,1,1,0,0" (with_line 7 "S,rep,1,2,99999,0" F) ⊢ "no,12,7,0,0,0,0,0") ∷
    (with_line 7 "S,cla,0,0,99999,0" F ⊢ "no,11,7,0,0,0,0,0") ∷
    (take 6 F ++ ("C,in,1,2,99999,0" ∷ []) ⊢ "no,21,7,0,0,0,0,0") ∷
    (with_line 8 "S,cls,3,2,0,99999" F ⊢ "no,6,8,0,0,0,0,0") ∷
    []
