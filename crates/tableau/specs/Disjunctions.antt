-- Document 02, 'Assumptions with an or in them': "real conditions have disjunctions".
use Rattle.std.specs.Prelude.{List, [], ◌∷◌, ◌++◌, take}
use Prim.Native.String.{String}
use Rattle.tableau.specs.Claims.{Model}
use Rattle.tableau.specs.Cases.{file_of, with_line, Case, ◌⊢◌}

-- The handset sends a jog or a stop: the message u is in r₁ or in r₂. Assumed besides: it is no jog. The steps split the clause and close its first alternative.
unfoldable pub no_jog : List String
no_jog =
    "T,rfv,1,0,0,0" ∷  -- 1: the message u
    "T,rgv,1,0,0,0" ∷  -- 2: the jogs r₁
    "T,rgv,2,0,0,0" ∷  -- 3: the stops r₂
    "A,ni,1,2,0,0" ∷
    "C,in,1,2,1,0" ∷
    "C,in,1,3,1,0" ∷
    "S,cla,0,0,1,0" ∷  -- u in r₁ ∥ u in r₂
    "S,cls,2,1,0,0" ∷
    []

-- the same with a message that is no stop either, and both alternatives closed
unfoldable pub no_jog_no_stop : List String
unfolding no_jog
no_jog_no_stop = take 4 no_jog ++ (
    "A,ni,1,3,0,0" ∷
    "C,in,1,2,1,0" ∷
    "C,in,1,3,1,0" ∷
    "S,cla,0,0,1,0" ∷
    "S,cls,3,1,0,0" ∷
    "S,cls,3,2,0,0" ∷
    [])

-- "A fresh w must also be absent from every clause, split or not." Assumed: r₁ and r₂ differ, and w is in neither; the last is said by two clauses.
unfoldable pub witness_in_clause : List String
witness_in_clause =
    "T,rfv,1,0,0,0" ∷  -- 1: w
    "T,rgv,1,0,0,0" ∷  -- 2: r₁
    "T,rgv,2,0,0,0" ∷  -- 3: r₂
    "A,ne,2,3,0,0" ∷
    "C,ni,1,2,1,0" ∷
    "C,ni,1,3,2,0" ∷
    "S,ext,1,0,0,1" ∷  -- w in r₁, w ni r₂ ∥ w ni r₁, w in r₂
    "S,cla,0,0,1,0" ∷
    "S,cls,2,4,0,0" ∷
    "S,cla,0,0,2,0" ∷
    "S,cls,3,4,0,0" ∷
    []

-- Two clauses of one literal each: `cla` adds the literal, and nothing waits.
unfoldable pub unit_clauses : List String
unit_clauses =
    "T,rfv,1,0,0,0" ∷
    "T,rgv,1,0,0,0" ∷
    "C,in,1,2,1,0" ∷
    "C,ni,1,2,2,0" ∷
    "S,cla,0,0,1,0" ∷
    "S,cla,0,0,2,0" ∷
    "S,cls,1,2,0,0" ∷
    []

-- "Clauses are numbered from 1 without gaps." Split into no literal, a clause 1 that isn't there would close the branch.
unfoldable pub gap_in_numbers : List String
gap_in_numbers =
    "T,rfv,1,0,0,0" ∷
    "T,rgv,1,0,0,0" ∷
    "C,in,1,2,2,0" ∷
    "S,cla,0,0,1,0" ∷
    []

unfoldable pub clause_cases : List Case
unfolding no_jog no_jog_no_stop unit_clauses witness_in_clause gap_in_numbers
clause_cases =
    (no_jog ⊢ "no,17,9,0,0,0,0,0") ∷
    (no_jog_no_stop ⊢ "yes,0,0,3,3,3,2,0") ∷
    (with_line 10 "S,cls,3,1,0,0" no_jog_no_stop ⊢ "no,12,10,0,0,0,0,0") ∷
    (with_line 8 "S,cla,0,0,2,0" no_jog_no_stop ⊢ "no,11,8,0,0,0,0,0") ∷
    (unit_clauses ⊢ "yes,0,0,2,2,3,1,0") ∷
    (witness_in_clause ⊢ "no,13,7,0,0,0,0,0") ∷
    (gap_in_numbers ⊢ "no,21,3,0,0,0,0,0") ∷
    []

-- a heap and values make all A lines true and a literal of every clause, so that a yes to one of these would be wrong
abbrev pub ClauseModels : Type 0
ClauseModels = Model (file_of no_jog) × Model (file_of witness_in_clause) × Model (file_of gap_in_numbers)
