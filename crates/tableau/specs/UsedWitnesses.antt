-- Document 02, 'Where is that witness already used?': "the first branch place that mentions w".
use Rattle.std.specs.Prelude.{List, [], ◌∷◌, ◌++◌, take}
use Prim.Native.String.{String}
use Rattle.tableau.specs.Cases.{with_line, Case, ◌⊢◌}

-- The step takes w, which stands on the branch inside sin(w) and then alone.
unfoldable pub used_witness : List String
used_witness =
    "T,rfv,1,0,0,0" ∷  -- 1: w
    "T,rgv,1,0,0,0" ∷  -- 2: r₁
    "T,rgv,2,0,0,0" ∷  -- 3: r₂
    "T,sin,1,0,0,0" ∷  -- 4: sin(w)
    "A,ne,2,3,0,0" ∷  -- place 1: r₁ ne r₂
    "A,eq,2,4,0,0" ∷  -- place 2: r₁ eq sin(w)
    "A,ni,1,3,0,0" ∷  -- place 3: w ni r₂
    "S,ext,1,0,0,1" ∷
    []

-- the same with w in no literal on the branch, but in a clause
unfoldable pub in_clause_only : List String
unfolding used_witness
in_clause_only = take 5 used_witness ++ (
    "C,ni,1,3,1,0" ∷
    "S,ext,1,0,0,1" ∷
    [])

-- in a clause and on the branch
unfoldable pub in_both : List String
unfolding used_witness
in_both = take 7 used_witness ++ (
    "C,ni,1,3,1,0" ∷
    "S,ext,1,0,0,1" ∷
    [])

unfoldable pub place_cases : List Case
unfolding used_witness in_clause_only in_both
place_cases =
    (used_witness ⊢ "no,13,8,0,0,0,0,2") ∷
    (with_line 6 "A,eq,2,3,0,0" used_witness ⊢ "no,13,8,0,0,0,0,3") ∷
    (in_clause_only ⊢ "no,13,7,0,0,0,0,0") ∷
    (in_both ⊢ "no,13,9,0,0,0,0,2") ∷
    -- r₂, sin(w): no `rfv`, though they stand on the branch
    (with_line 8 "S,ext,1,0,0,3" used_witness ⊢ "no,13,8,0,0,0,0,0") ∷
    (with_line 8 "S,ext,1,0,0,4" used_witness ⊢ "no,13,8,0,0,0,0,0") ∷
    -- what the rule needs isn't so: 12, and no place
    (with_line 8 "S,ext,2,0,0,1" used_witness ⊢ "no,12,8,0,0,0,0,0") ∷
    []
