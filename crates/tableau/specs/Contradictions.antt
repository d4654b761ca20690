-- Document 02, 'Let the checker close on equalities by itself': "Half of our proofs are `trn` and `sub` lines."
use Rattle.std.specs.Prelude.{List, [], ◌∷◌, ◌++◌}
use Prim.Native.String.{String}
use Rattle.tableau.specs.Cases.{with_line, Case, ◌⊢◌}

-- The classes of equal references are equal, so each is under the other.
unfoldable pub classes_of_equals : List String
classes_of_equals =
    "T,rfv,1,0,0,0" ∷  -- 1: u
    "T,rfv,2,0,0,0" ∷  -- 2: v
    "T,typ,1,0,0,0" ∷  -- 3: typ(u)
    "T,typ,2,0,0,0" ∷  -- 4: typ(v)
    "A,eq,1,2,0,0" ∷
    "A,nl,4,3,0,0" ∷
    "S,bck,0,0,0,0" ∷
    []

-- Two classes that are under each other are equal.
unfoldable pub order_both_ways : List String
order_both_ways =
    "T,clv,1,0,0,0" ∷
    "T,clv,2,0,0,0" ∷
    "A,le,1,2,0,0" ∷
    "A,le,2,1,0,0" ∷
    "A,ne,2,1,0,0" ∷
    "S,bck,0,0,0,0" ∷
    []

-- Terms 1 and 2 are variables with the names 4 and 3; that terms 3 and 4 are equal says nothing of them.
unfoldable pub names_as_terms : List String
names_as_terms =
    "T,rfv,4,0,0,0" ∷
    "T,rfv,3,0,0,0" ∷
    "T,rgv,1,0,0,0" ∷
    "T,rgv,2,0,0,0" ∷
    "A,eq,3,4,0,0" ∷
    "A,ne,1,2,0,0" ∷
    "S,bck,0,0,0,0" ∷
    []

-- Unions of equals, with both arguments in question.
unfoldable pub unions_of_equals : List String
unions_of_equals =
    "T,rgv,1,0,0,0" ∷  -- 1: r
    "T,rgv,2,0,0,0" ∷  -- 2: s
    "T,cup,1,2,0,0" ∷  -- 3: r ∪ s
    "T,cup,2,1,0,0" ∷  -- 4: s ∪ r
    "A,eq,1,2,0,0" ∷
    "A,ne,3,4,0,0" ∷
    "S,bck,0,0,0,0" ∷
    []

unfoldable pub contradiction_cases : List Case
unfolding classes_of_equals order_both_ways names_as_terms unions_of_equals
contradiction_cases =
    (classes_of_equals ⊢ "yes,0,0,4,2,1,1,0") ∷
    (order_both_ways ⊢ "yes,0,0,2,3,1,1,0") ∷
    (unions_of_equals ⊢ "yes,0,0,4,2,1,1,0") ∷
    (names_as_terms ⊢ "no,12,7,0,0,0,0,0") ∷
    -- le is not eq, and has a direction
    (with_line 4 "A,le,1,2,0,0" order_both_ways ⊢ "no,12,6,0,0,0,0,0") ∷
    (with_line 5 "A,nl,2,1,0,0" (with_line 4 "A,le,1,1,0,0" order_both_ways) ⊢ "no,12,6,0,0,0,0,0") ∷
    -- a class is under itself
    (with_line 5 "A,nl,2,2,0,0" (with_line 4 "A,le,1,1,0,0" order_both_ways) ⊢ "yes,0,0,2,3,1,1,0") ∷
    -- one of two arguments alone is equal
    (with_line 4 "T,cup,2,2,0,0" (with_line 5 "A,eq,2,2,0,0" unions_of_equals) ⊢ "no,12,7,0,0,0,0,0") ∷
    -- no field is used; a closed tree
    (with_line 7 "S,bck,1,0,0,0" unions_of_equals ⊢ "no,6,7,0,0,0,0,0") ∷
    (with_line 7 "S,bck,0,0,0,1" unions_of_equals ⊢ "no,6,7,0,0,0,0,0") ∷
    ((unions_of_equals ++ ("S,bck,0,0,0,0" ∷ [])) ⊢ "no,5,8,0,0,0,0,0") ∷
    []
